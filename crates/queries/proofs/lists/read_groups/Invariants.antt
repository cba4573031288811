use Rattle.std.proofs.Common.{◌≡◌, map, length, ◌≤◌}
use Rattle.std.specs.Str.Parse.{digits_value}
use Rattle.std.specs.Prelude.{All}
use Rattle.capspec.proofs.Valued.{IsNumeric}
use Rattle.queries.proofs.lists.read_groups.Given as goal

abbrev pub invariant-loop-digits : goal.invariant-loop-digits
invariant-loop-digits l = record {
  numbers : All (λ t. IsNumeric t.now) l.yielded;
  few : length l.yielded ≤ 16;
  same : l.groups ≡ map (λ t. digits_value 10 t.now) l.yielded;
}
