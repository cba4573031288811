use Rattle.std.proofs.Common.{◌≡◌, length}
use Rattle.capcore.proofs.CommonPieces.{Holder, entry_by, known_in, pending_by, permitted_of}
use Rattle.capcore.proofs.ManyInodes.{IsFinishing}
use Rattle.capcore.proofs.finish.finish_affected.Given as goal

abbrev pub decreases-inodes : goal.decreases-inodes
decreases-inodes l = length l.walk

abbrev pub invariant-inodes : goal.invariant-inodes
invariant-inodes l = record {
  so_far : IsFinishing (entry_by (known_in l.fn.table.kept) l.policy.fs.now l.policy.tree.now l.policy.sessions.now l.locks.locks.states) (pending_by l.policy.fs.now l.policy.tree.now l.policy.sessions.now l.locks.locks.states) l.fn.table.entries l.fn.table.kept
      l.initial.walk l.walk l.table.entries l.table.kept;
  permitted : (k : Holder) → permitted_of l.table.kept k ≡ permitted_of l.fn.table.kept k;
}
