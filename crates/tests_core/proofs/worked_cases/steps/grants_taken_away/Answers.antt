use Rattle.std.specs.Prelude.{refl}
use Rattle.tests_core.proofs.Scenes.{two-entries, two-first, two-second}
use Rattle.tests_core.proofs.Unfolded.{steps}
use Rattle.tests_core.proofs.worked_cases.steps.grants_taken_away.Goals as goal

pub returns-clause-all_is_revoked : goal.returns-clause-all_is_revoked
unfolding steps
returns-clause-all_is_revoked c = simp (two-first, two-second) refl

pub returns-clause-nothing_is_to_know : goal.returns-clause-nothing_is_to_know
unfolding steps
returns-clause-nothing_is_to_know c = simp (two-first, two-second) refl

pub returns-clause-no_lock_moves : goal.returns-clause-no_lock_moves
unfolding steps
returns-clause-no_lock_moves c = simp (two-first, two-second, two-entries) refl

pub returns-clause-entry_ends : goal.returns-clause-entry_ends
unfolding steps
returns-clause-entry_ends c = simp (two-first, two-second) refl

pub returns-clause-lock_goes_to_another : goal.returns-clause-lock_goes_to_another
unfolding steps
returns-clause-lock_goes_to_another c = simp (two-first, two-second, two-entries) refl

pub returns-clause-another_reads : goal.returns-clause-another_reads
unfolding steps
returns-clause-another_reads c = simp two-second refl
