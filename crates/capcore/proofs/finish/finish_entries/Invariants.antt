use Rattle.std.proofs.Common.{◌≡◌, take}
use Rattle.std.specs.List.{fold}
use Rattle.capcore.proofs.AtEnd.{named}
use Rattle.capcore.proofs.CommonPieces.{Holder, KnownAnew, changed_by, entry_under, is_among, known_in, pending_at, permitted_of}
use Rattle.capcore.proofs.finish.finish_entries.Given as goal

abbrev pub invariant-loop-number : goal.invariant-loop-number
invariant-loop-number l = record {
  table : l.table.entries ≡ fold (changed_by (entry_under (known_in l.fn.table.kept) l.policy.fs.now l.policy.tree.now l.policy.sessions.now l.locks)) l.fn.table.entries (take l.number-index (named l.ino l.numbers));
  known : KnownAnew (is_among (take l.number-index (named l.ino l.numbers))) (pending_at l.policy.fs.now l.policy.tree.now l.policy.sessions.now l.locks) l.fn.table.entries l.fn.table.kept l.table.kept;
  permitted : (k : Holder) → permitted_of l.table.kept k ≡ permitted_of l.fn.table.kept k;
}
