use Rattle.std.proofs.Common.{◌≡◌, ◌+◌, ◌-◌, ℕ, List, ◌++◌, length}
use Rattle.std.specs.Prelude.{IsFalse}
use Rattle.std.specs.Io.KnownBytes.{Consumes}
use Rattle.ceph_input.specs.Dump.{tree_left, tree_of}
use Rattle.ceph_input.specs.Reader.{so_far}
use Rattle.texts.specs.Watched.{has_failed, inner_of}
use Rattle.cli_queries.proofs.read_tree.read_tree.Given as goal

-- what was read so far is what was taken from the reader, and no read failed
abbrev pub invariant-loop-alloc : goal.invariant-loop-alloc
invariant-loop-alloc g l = record {
  taken : (taken : List ℕ) × Consumes (g.R.Read.remaining (inner_of l.fn.reader)) (g.R.Read.remaining (inner_of l.reader)) taken
      × (length taken ≡ l.tree.rows.byte) × ((tail : List ℕ) → tree_of (taken ++ tail) ≡ tree_left (so_far l.tree) tail);
  clear : IsFalse (has_failed l.reader);
}

abbrev pub decreases-loop-alloc : goal.decreases-loop-alloc
decreases-loop-alloc g l = 1099511627777 - l.tree.rows.byte
