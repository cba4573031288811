use Rattle.std.proofs.Common.{◌≡◌, ◌≤◌, ◌∷◌, length, take}
use Rattle.policy_analysis.specs.Linting.{left}
use Rattle.policy_analysis.proofs.redundant.left_of.Given as goal

abbrev pub invariant-loop-place : goal.invariant-loop-place
invariant-loop-place l = record {
  same : l.rest.items ≡ left (l.number ∷ l.numbers) (take l.place l.grants);
  few : length l.rest.items ≤ l.place;
}
