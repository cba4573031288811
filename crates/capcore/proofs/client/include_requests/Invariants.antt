use Rattle.std.proofs.Common.{◌≡◌, true}
use Rattle.std.specs.List.{AllWithin}
use Rattle.std.specs.FinSet as set
use Rattle.lockmachine.specs.Requests.{is_of_client}
use Rattle.capcore.proofs.CommonPieces.{Widens}
use Rattle.capcore.proofs.client.include_requests.Given as goal

abbrev pub invariant-loop-request : goal.invariant-loop-request
invariant-loop-request l = record {
  widens : Widens l.fn.inodes l.inodes;
  included : AllWithin (λ q. is_of_client l.client q ≡ true → set.contains l.inodes q.ino.0 ≡ true) l.locks.locks.queue 0 l.request-index;
}
