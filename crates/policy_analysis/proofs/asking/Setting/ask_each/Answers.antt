use Rattle.policy_analysis.proofs.Loops.{each_access, no_access, one_access_more}
use Rattle.policy_analysis.proofs.asking.Setting.ask_each.Goals as goal

pub loop-access-init : goal.loop-access-init
loop-access-init c = no_access c.args.self.now c.args.caller.now c.args.attr.now

pub loop-access-preserved : goal.loop-access-preserved
loop-access-preserved c = one_access_more c.args.self.now c.args.caller.now c.args.attr.now c.args.accesses.now c.loop-access.access-index _ c.loop-access-test.true c.loop-access.invariant c.in_default.ensures.none

pub returns-clause-none : goal.returns-clause-none
returns-clause-none c = each_access c.args.self.now c.args.caller.now c.args.attr.now c.args.accesses.now c.loop-access.access-index c.loop-access-test.false c.loop-access.invariant
