use Rattle.std.proofs.Common.{◌≡◌, ◌==◌, take}
use Rattle.std.specs.Prelude.{count_by}
use Rattle.capffi.proofs.plain.count_slashes.Given as goal

abbrev pub invariant-loop-byte : goal.invariant-loop-byte
invariant-loop-byte l = l.slashes ≡ count_by (λ b. b == 47) (take l.byte-index l.text)
