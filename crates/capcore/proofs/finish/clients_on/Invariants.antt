use Rattle.std.proofs.Common.{◌≡◌, ◌++◌, length}
use Rattle.capcore.proofs.CommonPieces.{clients_of}
use Rattle.capcore.proofs.finish.clients_on.Given as goal

abbrev pub decreases-rows : goal.decreases-rows
decreases-rows l = length l.walk

abbrev pub invariant-rows : goal.invariant-rows
invariant-rows l = l.clients.items ++ clients_of l.walk ≡ clients_of l.initial.walk
