use Rattle.std.proofs.Common.{take}
use Rattle.lockmachine.specs.Moves.{parts}
use Rattle.lockmachine.proofs.GivesUp.{GivesUp}
use Rattle.lockmachine.proofs.locks.Locks.gives_up.Given as goal

abbrev pub invariant-loop-part : goal.invariant-loop-part
invariant-loop-part l = GivesUp l.row l.left l.fn.self l.self (take l.part-index parts)
