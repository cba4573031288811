use Rattle.std.proofs.Common.{◌≡◌, false, take}
use Rattle.std.specs.Prelude.{All}
use Rattle.policy_analysis.specs.Standing.{allows_here}
use Rattle.policy_analysis.proofs.client_questions.Wanted.first.Given as goal

abbrev pub invariant-loop-place : goal.invariant-loop-place
invariant-loop-place l = All (λ g. allows_here l.self l.attr g ≡ false) (take l.place l.grants)
