use Rattle.policy_analysis.specs.Linting.{IsSquashed}
use Rattle.policy_analysis.proofs.Undoing.{none_granted}
use Rattle.policy_analysis.proofs.squash.place_of.Goals as goal

pub returns-clause-none : goal.returns-clause-none
returns-clause-none c = none_granted c.args.question.now c.args.grants.now (IsSquashed c.args.grant.now c.args.question.now) c.first_allowing.result c.first_allowing.ensures
