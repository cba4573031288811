use Rattle.std.specs.Prelude.{refl}
use Rattle.tests_core.proofs.Scenes.{moved-first, moved-third, three-entries, three-first, three-second, three-third}
use Rattle.tests_core.proofs.Unfolded.{steps}
use Rattle.tests_core.proofs.worked_cases.steps.served_after_a_move.Goals as goal

pub returns-clause-lock_begins : goal.returns-clause-lock_begins
unfolding steps
returns-clause-lock_begins c = simp (three-first, three-second, three-third, three-entries) refl

pub returns-clause-is_revoked : goal.returns-clause-is_revoked
unfolding steps
returns-clause-is_revoked c = simp (three-second, three-third) refl

pub returns-clause-second_is_to_know : goal.returns-clause-second_is_to_know
unfolding steps
returns-clause-second_is_to_know c = simp (three-second, three-third) refl

pub returns-clause-gather_stays_open : goal.returns-clause-gather_stays_open
unfolding steps
returns-clause-gather_stays_open c = simp (three-first, three-second, three-third, three-entries, moved-third) refl

pub returns-clause-gather_ends : goal.returns-clause-gather_ends
unfolding steps
returns-clause-gather_ends c = simp (three-first, three-second, three-third, three-entries, moved-third) refl

pub returns-clause-is_served : goal.returns-clause-is_served
unfolding steps
returns-clause-is_served c = simp (three-first, three-second, three-third, three-entries, moved-third) refl

pub returns-clause-passes_in_its_path : goal.returns-clause-passes_in_its_path
unfolding steps
returns-clause-passes_in_its_path c = simp (three-first, three-second, three-third) refl

pub returns-clause-is_denied_out_of_it : goal.returns-clause-is_denied_out_of_it
unfolding steps
returns-clause-is_denied_out_of_it c = simp (three-third, moved-first, moved-third) refl

pub returns-clause-lock_goes_back : goal.returns-clause-lock_goes_back
unfolding steps
returns-clause-lock_goes_back c = simp (three-first, three-second, three-third, three-entries, moved-third) refl

pub returns-clause-second_gains : goal.returns-clause-second_gains
unfolding steps
returns-clause-second_gains c = simp (three-second, three-third, moved-third) refl
