use Rattle.release_grants.proofs.Lists.{one_more_there}
use Rattle.release_grants.proofs.forms.all_there.Goals as goal

pub loop-grant-preserved : goal.loop-grant-preserved
loop-grant-preserved c =
    one_more_there c.args.grants.now c.loop-grant.grant-index c.grant-item.result c.in_ok-as_there.field-0 c.loop-grant.there _ c.loop-grant-test.true c.grant-item.is c.in_ok-as_there.ensures c.loop-grant.invariant c.in_ok-push.ensures
