use Rattle.release_rules.proofs.Lists.{one_more_is}
use Rattle.release_rules.proofs.judging.first_failures.Goals as goal

pub loop-grant-preserved : goal.loop-grant-preserved
loop-grant-preserved c =
    one_more_is c.args.switches c.args.question.now c.args.grants.now c.loop-grant.grant-index c.grant-item.result c.first_failing.result c.loop-grant.rules _ c.loop-grant-test.true c.grant-item.is c.first_failing.ensures c.loop-grant.invariant c.in_ok-add.ensures
