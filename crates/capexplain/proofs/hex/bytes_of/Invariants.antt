use Rattle.std.proofs.Common.{◌≡◌, ◌++◌, IsTrue, length}
use Rattle.std.specs.List.{list_all}
use Rattle.capexplain.specs.Values.{hex_bytes, is_hex_digit}
use Rattle.capexplain.proofs.hex.bytes_of.Given as goal

abbrev pub invariant-loop-rest : goal.invariant-loop-rest
invariant-loop-rest l = record {
  read : l.bytes.items ++ hex_bytes l.rest ≡ hex_bytes l.word;
  digits : IsTrue (list_all is_hex_digit l.rest);
}

abbrev pub decreases-loop-rest : goal.decreases-loop-rest
decreases-loop-rest l = length l.rest
