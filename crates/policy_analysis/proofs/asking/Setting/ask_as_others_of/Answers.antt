use Rattle.policy_analysis.proofs.Loops.{each_group, no_group, one_group_more}
use Rattle.policy_analysis.proofs.asking.Setting.ask_as_others_of.Goals as goal

pub loop-group-init : goal.loop-group-init
loop-group-init c = no_group c.args.self.now c.args.caller.now

pub loop-group-preserved : goal.loop-group-preserved
loop-group-preserved c = one_group_more c.args.self.now c.args.caller.now c.args.groups.now c.loop-group.group-index 0 c.loop-group-test.true c.loop-group.invariant c.in_default.ensures.none

pub returns-clause-none : goal.returns-clause-none
returns-clause-none c = each_group c.args.self.now c.args.caller.now c.args.groups.now c.loop-group.group-index c.loop-group-test.false c.loop-group.invariant
