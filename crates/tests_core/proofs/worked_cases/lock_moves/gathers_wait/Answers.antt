use Rattle.std.specs.Prelude.{refl}
use Rattle.tests_core.proofs.Scenes.{files-entries, files-get, four-get, three-get}
use Rattle.tests_core.proofs.Unfolded.{steps}
use Rattle.tests_core.proofs.worked_cases.lock_moves.gathers_wait.Goals as goal

pub returns-clause-one_holds : goal.returns-clause-one_holds
unfolding steps
returns-clause-one_holds c = simp (files-entries, files-get, four-get, three-get) refl

pub returns-clause-stays_open : goal.returns-clause-stays_open
unfolding steps
returns-clause-stays_open c = simp (files-entries, files-get, four-get, three-get) refl

pub returns-clause-half_is_given_up : goal.returns-clause-half_is_given_up
unfolding steps
returns-clause-half_is_given_up c = simp (files-entries, files-get, four-get, three-get) refl

pub returns-clause-all_is_given_up : goal.returns-clause-all_is_given_up
unfolding steps
returns-clause-all_is_given_up c = simp (files-entries, files-get, four-get, three-get) refl

pub returns-clause-mix_rests : goal.returns-clause-mix_rests
unfolding steps
returns-clause-mix_rests c = simp (files-entries, files-get, four-get, three-get) refl

pub returns-clause-nothing_to_give_up_begins : goal.returns-clause-nothing_to_give_up_begins
unfolding steps
returns-clause-nothing_to_give_up_begins c = simp (files-entries, files-get, four-get, three-get) refl

pub returns-clause-nothing_to_give_up_ends : goal.returns-clause-nothing_to_give_up_ends
unfolding steps
returns-clause-nothing_to_give_up_ends c = simp (files-entries, files-get, four-get, three-get) refl

pub returns-clause-nothing_to_give_up_rests : goal.returns-clause-nothing_to_give_up_rests
unfolding steps
returns-clause-nothing_to_give_up_rests c = simp (files-entries, files-get, four-get, three-get) refl
