use Rattle.std.proofs.Common.{◌-◌, length}
use Rattle.policy_analysis.proofs.Omitting.{AreRedundantAbove}
use Rattle.policy_analysis.proofs.redundant.redundant.Given as goal

abbrev pub invariant-loop-done : goal.invariant-loop-done
invariant-loop-done l = AreRedundantAbove l.grants l.numbers.items (length l.grants - l.done)
