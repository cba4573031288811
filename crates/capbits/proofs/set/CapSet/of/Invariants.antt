use Rattle.std.proofs.Common.{◌≡◌, take}
use Rattle.capbits.specs.Sets.{caps_in}
use Rattle.capbits.proofs.set.CapSet.of.Given as goal

-- the set has the caps so far
abbrev pub invariant-loop-cap : goal.invariant-loop-cap
invariant-loop-cap l = l.set ≡ caps_in (take l.cap-index l.caps)
