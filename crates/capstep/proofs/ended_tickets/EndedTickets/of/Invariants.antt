use Rattle.std.proofs.Common.{take}
use Rattle.capstep.specs.DueEndings.{AreEndsOf}
use Rattle.capstep.proofs.ended_tickets.EndedTickets.of.Given as goal

abbrev pub invariant-loop-message : goal.invariant-loop-message
invariant-loop-message l = AreEndsOf (take l.message-index l.messages) l.sorted.items
