use Rattle.std.proofs.Common.{◌≡◌, true, take}
use Rattle.std.specs.List.{list_all}
use Rattle.capspec.specs.Flags.{is_flag}
use Rattle.capspec.proofs.flags.has_flags_alone.Given as goal

abbrev pub invariant-loop-letter : goal.invariant-loop-letter
invariant-loop-letter l = list_all is_flag (take l.letter-index l.word) ≡ true
