use Rattle.std.specs.Prelude.{refl}
use Rattle.tests_core.proofs.SessionSteps.{of_sessions}
use Rattle.tests_core.proofs.worked_cases.sessions.thrown_out_and_let_in.Goals as goal

pub returns-clause-evict : goal.returns-clause-evict
returns-clause-evict c = simp of_sessions refl

pub returns-clause-renew : goal.returns-clause-renew
returns-clause-renew c = simp of_sessions refl

pub returns-clause-regrant : goal.returns-clause-regrant
returns-clause-regrant c = simp of_sessions refl

pub returns-clause-open : goal.returns-clause-open
returns-clause-open c = simp of_sessions refl

pub returns-clause-another_opens : goal.returns-clause-another_opens
returns-clause-another_opens c = simp of_sessions refl

pub returns-clause-another_closes : goal.returns-clause-another_closes
returns-clause-another_closes c = simp of_sessions refl

pub returns-clause-unblock : goal.returns-clause-unblock
returns-clause-unblock c = simp of_sessions refl

pub returns-clause-unblock_again : goal.returns-clause-unblock_again
returns-clause-unblock_again c = simp of_sessions refl

pub returns-clause-open_again : goal.returns-clause-open_again
returns-clause-open_again c = simp of_sessions refl
