use Rattle.std.proofs.Common.{◌≡◌, ℕ, ◌<◌, true, length}
use Rattle.capgrant.specs.Question.{contains}
use Rattle.policy_analysis.proofs.free.free_number.Given as goal

abbrev pub invariant-loop-number : goal.invariant-loop-number
invariant-loop-number l = record {
  count : l.count ≡ length l.numbers;
  before : (k : ℕ) → 0 < k → k < l.number-counter → contains l.numbers k ≡ true;
}
