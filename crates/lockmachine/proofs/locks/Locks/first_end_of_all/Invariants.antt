use Rattle.std.proofs.Common.{◌≡◌}
use Rattle.std.specs.List.{find}
use Rattle.lockmachine.specs.Counts.{ends_by}
use Rattle.lockmachine.specs.Moves.{lock_ids}
use Rattle.lockmachine.proofs.LockIds.{lock_ids_in}
use Rattle.lockmachine.proofs.locks.Locks.first_end_of_all.Given as goal

abbrev pub invariant-loop-number : goal.invariant-loop-number
invariant-loop-number l = find (ends_by l.self) (lock_ids_in l.number-iterator) ≡ find (ends_by l.self) (lock_ids l.self.locks)
