use Rattle.std.specs.Prelude.{refl}
use Rattle.tests_core.proofs.Scenes.{files-entries, files-get, four-get, three-get}
use Rattle.tests_core.proofs.Unfolded.{steps}
use Rattle.tests_core.proofs.worked_cases.lock_moves.two_holders.Goals as goal

pub returns-clause-both_may_read : goal.returns-clause-both_may_read
unfolding steps
returns-clause-both_may_read c = simp (files-entries, files-get, four-get, three-get) refl

pub returns-clause-first_is_to_write : goal.returns-clause-first_is_to_write
unfolding steps
returns-clause-first_is_to_write c = simp (files-entries, files-get, four-get, three-get) refl

pub returns-clause-stays_open : goal.returns-clause-stays_open
unfolding steps
returns-clause-stays_open c = simp (files-entries, files-get, four-get, three-get) refl

pub returns-clause-half_of_one : goal.returns-clause-half_of_one
unfolding steps
returns-clause-half_of_one c = simp (files-entries, files-get, four-get, three-get) refl

pub returns-clause-all_of_the_other : goal.returns-clause-all_of_the_other
unfolding steps
returns-clause-all_of_the_other c = simp (files-entries, files-get, four-get, three-get) refl

pub returns-clause-all_of_both : goal.returns-clause-all_of_both
unfolding steps
returns-clause-all_of_both c = simp (files-entries, files-get, four-get, three-get) refl

pub returns-clause-second_is_to_be_alone : goal.returns-clause-second_is_to_be_alone
unfolding steps
returns-clause-second_is_to_be_alone c = simp (files-entries, files-get, four-get, three-get) refl

pub returns-clause-stays_open_for_the_first : goal.returns-clause-stays_open_for_the_first
unfolding steps
returns-clause-stays_open_for_the_first c = simp (files-entries, files-get, four-get, three-get) refl

pub returns-clause-second_is_alone : goal.returns-clause-second_is_alone
unfolding steps
returns-clause-second_is_alone c = simp (files-entries, files-get, four-get, three-get) refl
