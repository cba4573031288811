use Rattle.policy_analysis.proofs.Undoing.{if_dots, if_no_dots}
use Rattle.policy_analysis.proofs.dots.allows_nothing.Goals as goal

pub returns-clause-nothing : goal.returns-clause-nothing
returns-clause-nothing c = if_dots c.args.grant.now c.has_dots.result c.has_dots.ensures

pub returns-clause-something : goal.returns-clause-something
returns-clause-something c = if_no_dots c.args.grant.now c.has_dots.result c.has_dots.ensures
