use Rattle.std.proofs.Common.{◌≡◌, drop}
use Rattle.std.specs.List.{find}
use Rattle.lockmachine.specs.Requests.{is_of_client}
use Rattle.lockmachine.proofs.locks.Locks.oldest_of.Given as goal

abbrev pub invariant-loop-waiting : goal.invariant-loop-waiting
invariant-loop-waiting l = find (is_of_client l.client) (drop l.waiting-index l.waiting-items) ≡ find (is_of_client l.client) l.self.locks.queue
