use Rattle.std.specs.Prelude.{refl}
use Rattle.tests_core.proofs.Scenes.{two-entries, two-first, two-second}
use Rattle.tests_core.proofs.Unfolded.{steps}
use Rattle.tests_core.proofs.worked_cases.steps.opened_beside_another.Goals as goal

pub returns-clause-lock_begins : goal.returns-clause-lock_begins
unfolding steps
returns-clause-lock_begins c = simp (two-first, two-second, two-entries) refl

pub returns-clause-second_gains : goal.returns-clause-second_gains
unfolding steps
returns-clause-second_gains c = simp two-second refl

pub returns-clause-is_revoked : goal.returns-clause-is_revoked
unfolding steps
returns-clause-is_revoked c = simp (two-first, two-second) refl

pub returns-clause-first_is_to_know : goal.returns-clause-first_is_to_know
unfolding steps
returns-clause-first_is_to_know c = simp (two-first, two-second) refl

pub returns-clause-gather_stays_open : goal.returns-clause-gather_stays_open
unfolding steps
returns-clause-gather_stays_open c = simp (two-first, two-second, two-entries) refl

pub returns-clause-gather_ends : goal.returns-clause-gather_ends
unfolding steps
returns-clause-gather_ends c = simp (two-first, two-second, two-entries) refl

pub returns-clause-lock_rests : goal.returns-clause-lock_rests
unfolding steps
returns-clause-lock_rests c = simp (two-first, two-second, two-entries) refl

pub returns-clause-first_keeps : goal.returns-clause-first_keeps
unfolding steps
returns-clause-first_keeps c = simp (two-first, two-second) refl

pub returns-clause-second_reads : goal.returns-clause-second_reads
unfolding steps
returns-clause-second_reads c = simp two-second refl
