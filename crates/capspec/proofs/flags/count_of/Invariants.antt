use Rattle.std.proofs.Common.{◌≡◌, take}
use Rattle.capspec.specs.Flags.{count_of}
use Rattle.capspec.proofs.flags.count_of.Given as goal

abbrev pub invariant-loop-other : goal.invariant-loop-other
invariant-loop-other l = l.count ≡ count_of l.byte (take l.other-index l.word)
