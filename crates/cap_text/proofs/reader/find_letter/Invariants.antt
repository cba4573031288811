use Rattle.std.proofs.Common.{take}
use Rattle.std.specs.Prelude.{◌==◌, IsFalse}
use Rattle.std.specs.List.{list_any}
use Rattle.capbits.specs.Text.{letter_of}
use Rattle.cap_text.proofs.reader.find_letter.Given as goal

-- none so far has the letter
abbrev pub invariant-loop-place : goal.invariant-loop-place
invariant-loop-place l = IsFalse (list_any (λ c. letter_of c == l.byte) (take l.place l.caps))
