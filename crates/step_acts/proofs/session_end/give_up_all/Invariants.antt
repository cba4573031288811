use Rattle.std.proofs.Common.{◌≡◌, length}
use Rattle.lockmachine.specs.Counts.{AreCounted, LockId, count_of}
use Rattle.lockmachine.specs.Locks.{lock_at}
use Rattle.step_acts.proofs.GivenUp.{IsLeft}
use Rattle.step_acts.proofs.session_end.give_up_all.Given as goal

abbrev pub decreases-rows : goal.decreases-rows
decreases-rows l = length l.walk

abbrev pub invariant-rows : goal.invariant-rows
invariant-rows l = record {
  locks : l.locks.locks ≡ l.fn.locks.locks;
  left : AreCounted l.table.entries l.fn.locks → (at : LockId) → IsLeft l.table.entries l.fn.client l.walk at (count_of l.locks at) (lock_at l.fn.locks.locks at.0 at.1);
}
