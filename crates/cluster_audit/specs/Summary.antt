-- How much an audit looked at, and what came of it.
use Rattle.std.specs.Prelude.{List, count_by, length, sum_by, ℕ}
use Rattle.texts.specs.ScriptLines.{is_line_feed}
use Rattle.ceph_input.specs.Dump.{Listed}
use Rattle.cluster_audit.specs.Known.{Known}
use Rattle.cluster_audit.specs.declared.summary.Counts.{Counts}

-- how often a client holds something of one of these inodes
abbrev pub entry_count : List Listed → ℕ
entry_count inodes = sum_by (λ it. length it.holders) inodes

abbrev pub line_count : List ℕ → ℕ
line_count text = count_by is_line_feed text

-- by the lines for what is held beyond grants, for conflicts and for what could not be judged, before equal ones are told once
abbrev pub counts_of : List Known → List Listed → List ℕ → List ℕ → List ℕ → Counts
counts_of sessions inodes beyond conflicts unknown = record {
  inodes = length inodes;
  entries = entry_count inodes;
  sessions = length sessions;
  held_beyond = line_count beyond;
  conflicts = line_count conflicts;
  not_judged = line_count unknown;
}
