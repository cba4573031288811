use Rattle.std.proofs.Common.{◌≡◌, map, length, ◌≤◌}
use Rattle.std.specs.Prelude.{Ok}
use Rattle.capexplain.specs.Values.{numbers_in}
use Rattle.capexplain.proofs.values.read_groups.Given as goal

abbrev pub invariant-loop-digits : goal.invariant-loop-digits
invariant-loop-digits l = record {
  read : numbers_in (map (λ t. t.now) l.yielded) ≡ Ok l.groups;
  few : length l.groups ≤ 16;
}
