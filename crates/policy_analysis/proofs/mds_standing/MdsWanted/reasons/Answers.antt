use Rattle.policy_analysis.specs.MdsStanding.{reason}
use Rattle.policy_analysis.proofs.Picked.{one_more_picked}
use Rattle.policy_analysis.proofs.mds_standing.MdsWanted.reasons.Goals as goal

pub loop-grant-preserved : goal.loop-grant-preserved
loop-grant-preserved c =
    one_more_picked (reason c.args.self.now) c.args.grants.now c.loop-grant.grant-index c.grant-item.result c.reason.result c.loop-grant.rules _ c.loop-grant-test.true c.grant-item.is c.reason.ensures c.loop-grant.invariant c.in_ok-add.ensures
