use Rattle.std.proofs.Common.{sym, ap, ◌∙◌}
use Rattle.policy_analysis.specs.Asking.{asked}
use Rattle.policy_analysis.specs.Asking.{Setting, is_wanted}
use Rattle.policy_analysis.proofs.Asked.{allowed_before, as_found, not_allowed, not_wanted}
use Rattle.policy_analysis.proofs.asking.Setting.ask.Goals as goal

pub returns-then-not-include-clause-none : goal.returns-then-not-include-clause-none
returns-then-not-include-clause-none c = not_wanted c.args.self.now (asked c.args.self.now c.args.caller.now c.args.attr.now c.args.access) (ap (λ (s : Setting). is_wanted s.accesses c.args.access) (sym c.self.view_is) ∙ sym c.include.ensures ∙ c.if-not-include.true)

pub returns-in_default-clause-none : goal.returns-in_default-clause-none
returns-in_default-clause-none c = not_allowed c.args.self.now (asked c.args.self.now c.args.caller.now c.args.attr.now c.args.access) (rw (← c.self.view_is) (sym c.first_allowing.ensures ∙ c.in_default.is))

pub returns-in-Some-first_allowing-clause-none : goal.returns-in-Some-first_allowing-clause-none
returns-in-Some-first_allowing-clause-none c = allowed_before c.args.self.now (asked c.args.self.now c.args.caller.now c.args.attr.now c.args.access) c.in-Some-first_allowing.field-0 (rw (← c.self.view_is) (sym c.first_allowing-2.ensures ∙ c.in-Some-first_allowing.is))

pub returns-in-None-clause-found : goal.returns-in-None-clause-found
returns-in-None-clause-found c = rw c.copy.ensures (as_found c.args.self.now c.args.caller.now c.args.attr.now c.args.access c.in-Some.place (ap (λ (s : Setting). is_wanted s.accesses c.args.access) (sym c.self.view_is) ∙ sym c.include.ensures ∙ c.if-not-include.false) (rw (← c.self.view_is) (sym c.first_allowing.ensures ∙ c.in-Some.is)) (rw (← c.self.view_is) (sym c.first_allowing-2.ensures ∙ c.in-None.is)))
