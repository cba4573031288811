use Rattle.std.proofs.Common.{◌≡◌, ◌*◌, drop}
use Rattle.capspec.specs.Paths.{has_double_slash}
use Rattle.capffi.proofs.plain.has_pair.Given as goal

abbrev pub invariant-loop-pair : goal.invariant-loop-pair
invariant-loop-pair l = has_double_slash (drop (2 * l.pair) l.path) ≡ has_double_slash l.path
