use Rattle.std.proofs.Common.{take}
use Rattle.capbits.proofs.Digits.{Writes}
use Rattle.capbits.proofs.numbers.read_number.Given as goal

-- the digits so far write the number
abbrev pub invariant-loop-byte : goal.invariant-loop-byte
invariant-loop-byte l = Writes l.radix (take l.byte-index l.text) l.number
