use Rattle.std.proofs.Common.{◌≡◌, true, take}
use Rattle.capexplain.specs.Words.{is_one_word}
use Rattle.capexplain.proofs.change.is_one_word.Given as goal

abbrev pub invariant-loop-byte : goal.invariant-loop-byte
invariant-loop-byte l = is_one_word (take l.byte-index l.part) ≡ true
