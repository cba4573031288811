use Rattle.std.proofs.Common.{sym, ◌∙◌}
use Rattle.policy_analysis.proofs.Answers.{answers_anyway, answers_denied, answers_depends, answers_known, is_denied}
use Rattle.policy_analysis.proofs.client_questions.Wanted.standing.Goals as goal

pub reasons-requires : goal.reasons-requires
reasons-requires c = is_denied c.args.self.now c.args.attr.now c.args.grants.now c.in_default.ensures

pub returns-in_default : goal.returns-in_default
returns-in_default c = answers_denied c.args.self.now c.args.attr.now c.args.grants.now c.reasons.result c.in_default.ensures c.reasons.ensures

pub returns-then-is_some : goal.returns-then-is_some
returns-then-is_some c = answers_known c.args.self.now c.args.attr.now c.args.grants.now c.in-Some.grant (sym c.is_some.ensures ∙ c.if-is_some.true) c.in-Some.ensures

pub returns-in-Some-first_anyway : goal.returns-in-Some-first_anyway
returns-in-Some-first_anyway c = answers_anyway c.args.self.now c.args.attr.now c.args.grants.now c.in-Some-first_anyway.grant (sym c.is_some.ensures ∙ c.if-is_some.false) c.in-Some-first_anyway.ensures

pub returns-in-None : goal.returns-in-None
returns-in-None c = answers_depends c.args.self.now c.args.attr.now c.args.grants.now c.in-Some.grant (sym c.is_some.ensures ∙ c.if-is_some.false) c.in-Some.ensures c.in-None.ensures
