use Rattle.std.proofs.Common.{◌≡◌, take}
use Rattle.capstep.proofs.copies.copy_of_messages.Given as goal

abbrev pub invariant-loop-message : goal.invariant-loop-message
invariant-loop-message l = l.copy ≡ take l.message-index l.messages
