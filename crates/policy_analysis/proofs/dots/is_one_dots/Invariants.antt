use Rattle.std.proofs.Common.{◌≡◌, false, take}
use Rattle.std.specs.Prelude.{All}
use Rattle.policy_analysis.specs.Linting.{is_dots}
use Rattle.policy_analysis.proofs.dots.is_one_dots.Given as goal

abbrev pub invariant-loop-name : goal.invariant-loop-name
invariant-loop-name l = All (λ name. is_dots name.now ≡ false) (take l.name-index l.names)
