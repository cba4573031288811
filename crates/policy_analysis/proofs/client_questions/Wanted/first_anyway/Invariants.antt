use Rattle.std.proofs.Common.{◌≡◌, false, take}
use Rattle.std.specs.Prelude.{All}
use Rattle.policy_analysis.specs.Standing.{allows_anyway}
use Rattle.policy_analysis.proofs.client_questions.Wanted.first_anyway.Given as goal

abbrev pub invariant-loop-place : goal.invariant-loop-place
invariant-loop-place l = All (λ g. allows_anyway l.self g ≡ false) (take l.place l.grants)
