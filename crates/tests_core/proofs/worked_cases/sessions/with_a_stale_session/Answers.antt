use Rattle.std.specs.Prelude.{refl}
use Rattle.tests_core.proofs.SessionSteps.{of_sessions}
use Rattle.tests_core.proofs.worked_cases.sessions.with_a_stale_session.Goals as goal

pub returns-clause-open : goal.returns-clause-open
returns-clause-open c = simp of_sessions refl

pub returns-clause-stale : goal.returns-clause-stale
returns-clause-stale c = simp of_sessions refl

pub returns-clause-regrant : goal.returns-clause-regrant
returns-clause-regrant c = simp of_sessions refl

pub returns-clause-renew : goal.returns-clause-renew
returns-clause-renew c = simp of_sessions refl

pub returns-clause-renewed : goal.returns-clause-renewed
returns-clause-renewed c = simp of_sessions refl

pub returns-clause-evict : goal.returns-clause-evict
returns-clause-evict c = simp of_sessions refl

pub returns-clause-close : goal.returns-clause-close
returns-clause-close c = simp of_sessions refl
