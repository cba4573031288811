use Rattle.std.proofs.Common.{take}
use Rattle.lockmachine.specs.Moves.{parts}
use Rattle.lockmachine.proofs.Counted.{EndsCounted}
use Rattle.lockmachine.proofs.locks.Locks.end_gathers_at.Given as goal

abbrev pub invariant-loop-part : goal.invariant-loop-part
invariant-loop-part l = EndsCounted l.fn.self l.self l.ino.0 (take l.part-index parts)
