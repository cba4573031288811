use Rattle.std.proofs.Common.{◌≡◌, ◌<◌, ◌^◌}
use Rattle.capspec.proofs.Numbers.{Writes}
use Rattle.capspec.proofs.values.read_number.Given as goal

abbrev pub invariant-loop-byte : goal.invariant-loop-byte
invariant-loop-byte l = (l.end ≡ l.byte-index) × Writes l.text l.byte-index l.number × (l.number < 2 ^ 32)
