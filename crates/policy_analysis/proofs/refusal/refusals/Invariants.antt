use Rattle.std.proofs.Common.{◌≡◌, ℕ, ◌<◌, Option, length, get_or}
use Rattle.release_grants.specs.declared.grant.Grant.{Grant}
use Rattle.policy_analysis.specs.declared.refusal.Refusal.{Refusal}
use Rattle.policy_analysis.specs.Refusals.{IsFoundOf}
use Rattle.policy_analysis.proofs.refusal.refusals.Given as goal

abbrev pub invariant-loop-place : goal.invariant-loop-place
invariant-loop-place l = record {
  one_each : length l.found.items ≡ l.place;
  each : (i : ℕ) (r : Option Refusal) → i < l.place → (g : Grant) → IsFoundOf l.asked l.grants (get_or l.grants i g) (get_or l.found.items i r);
}
