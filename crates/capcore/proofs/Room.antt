-- Room for the requests that a step ends.
use Rattle.std.proofs.Common.{◌≤◌, ℕ, Option, arith}
use Rattle.capstep.specs.NotedChanges.{Noted}
use Rattle.capcore.proofs.CommonPieces.{Ticket}
use Rattle.capcore.specs.Begun.{HaveRoomFor}
use Rattle.capcore.specs.declared.output.StepOutput.{StepOutput}

-- room for some is room for fewer, whatever changes are noted and whoever was judged
pub room-for : (e : StepOutput) (changes : Noted) (judged : Option Ticket) (n m : ℕ) → HaveRoomFor n e → m ≤ n → HaveRoomFor m (record e { changes = changes; judged = judged })
room-for e changes judged n m room fewer = grind arith
