use Rattle.policy_analysis.proofs.Listed.{one_grant_more}
use Rattle.policy_analysis.proofs.oddity.oddities.Goals as goal

pub loop-place-preserved : goal.loop-place-preserved
loop-place-preserved c =
    one_grant_more c.args.switches c.args.grants.now c.loop-place.place c.index-grants-place.result c.loop-place.found.items c.push_oddities.new.found.items c.loop-place-test.true c.index-grants-place.is c.in_ok-push_oddities.ensures
    c.loop-place.invariant
