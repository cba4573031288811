use Rattle.std.proofs.Common.{sym, ◌∙◌}
use Rattle.capgrant.proofs.Verdicts.{allowed_at, allowed_nowhere, each_fails, granted_nowhere, granted_somewhere}
use Rattle.capgrant.proofs.policy.verdict.Goals as goal

pub returns-clause-exact : goal.returns-clause-exact
returns-clause-exact c = allowed_at _ _ c.in-Some.place (rw c.as_slice.ensures.same at (sym c.first_allowing.ensures ∙ c.in-Some.is))

pub returns-clause-allowed : goal.returns-clause-allowed
returns-clause-allowed c = granted_somewhere _ _ c.in-Some.place (rw c.as_slice.ensures.same at (sym c.first_allowing.ensures ∙ c.in-Some.is))

pub returns-in_default-clause-exact : goal.returns-in_default-clause-exact
returns-in_default-clause-exact c = rw c.denial.ensures (allowed_nowhere _ _ (rw c.as_slice.ensures.same at (sym c.first_allowing.ensures ∙ c.in_default.is)))

pub returns-in_default-clause-allowed : goal.returns-in_default-clause-allowed
returns-in_default-clause-allowed c = rw c.denial.ensures (granted_nowhere _ _ (rw c.as_slice.ensures.same at (sym c.first_allowing.ensures ∙ c.in_default.is)))

pub returns-in_default-clause-one_each : goal.returns-in_default-clause-one_each
returns-in_default-clause-one_each c =
    rw c.denial.ensures (each_fails _ _ (rw c.as_slice.ensures.same at (sym c.first_allowing.ensures ∙ c.in_default.is)))
