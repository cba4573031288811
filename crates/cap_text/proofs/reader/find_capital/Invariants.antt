use Rattle.std.proofs.Common.{take}
use Rattle.std.specs.Prelude.{◌==◌, IsFalse}
use Rattle.std.specs.List.{list_any}
use Rattle.capbits.specs.Text.{capital_of}
use Rattle.cap_text.proofs.reader.find_capital.Given as goal

-- none so far has the capital
abbrev pub invariant-loop-place : goal.invariant-loop-place
invariant-loop-place l = IsFalse (list_any (λ part. capital_of part == l.byte) (take l.place l.parts))
