use Rattle.std.proofs.Common.{◌≡◌, ◌+◌, ◌≤◌, ◌++◌, take}
use Rattle.arrayvec.specs.ArrayVec.{array_vec_len}
use Rattle.capbits.specs.Text.{letters_in}
use Rattle.capbits.proofs.text.write_letters.Given as goal

abbrev pub invariant-loop-cap : goal.invariant-loop-cap
invariant-loop-cap l = record {
  text : l.out.items ≡ l.initial.out.items ++ letters_in l.set (take l.cap-index l.caps);
  fits : array_vec_len l.out ≤ array_vec_len l.initial.out + l.cap-index;
}
