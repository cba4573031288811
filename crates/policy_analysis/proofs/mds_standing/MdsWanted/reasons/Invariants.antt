use Rattle.std.proofs.Common.{◌≡◌, take}
use Rattle.policy_analysis.specs.MdsStanding.{reasons}
use Rattle.policy_analysis.proofs.mds_standing.MdsWanted.reasons.Given as goal

abbrev pub invariant-loop-grant : goal.invariant-loop-grant
invariant-loop-grant l = l.rules ≡ reasons l.self (take l.grant-index l.grants)
