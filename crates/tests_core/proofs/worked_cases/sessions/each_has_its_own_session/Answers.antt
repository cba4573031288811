use Rattle.std.specs.Prelude.{refl}
use Rattle.tests_core.proofs.SessionSteps.{of_sessions}
use Rattle.tests_core.proofs.worked_cases.sessions.each_has_its_own_session.Goals as goal

pub returns-clause-stays : goal.returns-clause-stays
returns-clause-stays c = simp of_sessions refl

pub returns-clause-thrown_out : goal.returns-clause-thrown_out
returns-clause-thrown_out c = simp of_sessions refl

pub returns-clause-stale_with_other_grants : goal.returns-clause-stale_with_other_grants
returns-clause-stale_with_other_grants c = simp of_sessions refl

pub returns-clause-stays_too : goal.returns-clause-stays_too
returns-clause-stays_too c = simp of_sessions refl

pub returns-clause-gone : goal.returns-clause-gone
returns-clause-gone c = simp of_sessions refl

pub returns-clause-never_here : goal.returns-clause-never_here
returns-clause-never_here c = simp of_sessions refl

pub returns-clause-stays_unblocked : goal.returns-clause-stays_unblocked
returns-clause-stays_unblocked c = simp of_sessions refl

pub returns-clause-thrown_out_is_blocked : goal.returns-clause-thrown_out_is_blocked
returns-clause-thrown_out_is_blocked c = simp of_sessions refl

pub returns-clause-stale_is_not_blocked : goal.returns-clause-stale_is_not_blocked
returns-clause-stale_is_not_blocked c = simp of_sessions refl

pub returns-clause-gone_is_not_blocked : goal.returns-clause-gone_is_not_blocked
returns-clause-gone_is_not_blocked c = simp of_sessions refl

pub returns-clause-never_blocked : goal.returns-clause-never_blocked
returns-clause-never_blocked c = simp of_sessions refl
