use Rattle.std.proofs.Common.{◌≡◌, length}
use Rattle.capspec.specs.Words.{next}
use Rattle.policy_analysis.proofs.bytes.skip_white.Given as goal

abbrev pub invariant-loop-rest : goal.invariant-loop-rest
invariant-loop-rest l = next l.rest ≡ next l.text

abbrev pub decreases-loop-rest : goal.decreases-loop-rest
decreases-loop-rest l = length l.rest
