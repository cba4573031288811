use Rattle.std.proofs.Common.{◌∙◌}
use Rattle.policy_analysis.proofs.Reasons.{reason_at}
use Rattle.policy_analysis.proofs.client_questions.Wanted.reason.Goals as goal

pub returns-in-Denied : goal.returns-in-Denied
returns-in-Denied c =
    c.rule_at.ensures
    ∙ reason_at c.args.self.now _ c.args.attr.now c.args.grants.now c.args.place c.args.grant.now _ _ _ c.in-Denied.rules
    c.requires.denied c.requires.within c.requires.at c.self.view_is c.attr_for-attr.ensures c.listed.ensures.value c.asker-caller.ensures c.in-Denied.ensures.exact
