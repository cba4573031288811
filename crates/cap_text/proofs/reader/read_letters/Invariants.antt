use Rattle.std.proofs.Common.{take}
use Rattle.cap_text.proofs.Reading.{HasRead}
use Rattle.cap_text.proofs.reader.read_letters.Given as goal

-- what was read, and what can follow
abbrev pub invariant-loop-at : goal.invariant-loop-at
invariant-loop-at l = HasRead (take l.at l.text) l.set l.needs_letter l.caps l.parts
