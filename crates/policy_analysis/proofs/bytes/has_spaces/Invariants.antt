use Rattle.std.proofs.Common.{◌≡◌, length}
use Rattle.policy_analysis.specs.Scanning.{has_spaces}
use Rattle.policy_analysis.proofs.bytes.has_spaces.Given as goal

abbrev pub invariant-loop-rest : goal.invariant-loop-rest
invariant-loop-rest l = has_spaces l.rest ≡ has_spaces l.text

abbrev pub decreases-loop-rest : goal.decreases-loop-rest
decreases-loop-rest l = length l.rest
