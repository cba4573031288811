use Rattle.std.proofs.Common.{◌≡◌, ℕ, ◌+◌, ◌<◌, length, get_or}
use Rattle.capspec.specs.declared.grant.Grant.{Grant}
use Rattle.policy_analysis.specs.declared.finding.Finding.{Finding}
use Rattle.policy_analysis.specs.Findings.{IsFinding}
use Rattle.policy_analysis.proofs.finding.lint.Given as goal

abbrev pub invariant-loop-place : goal.invariant-loop-place
invariant-loop-place l = record {
  one_each : length l.findings.items ≡ l.place;
  numbered : (i : ℕ) (f : Finding) → i < l.place → (get_or l.findings.items i f).grant ≡ i + 1;
  each : (i : ℕ) (g : Grant) (f : Finding) → i < l.place → IsFinding l.grants l.numbers.items (get_or l.grants i g) (get_or l.findings.items i f);
}
