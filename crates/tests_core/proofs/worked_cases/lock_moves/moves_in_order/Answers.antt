use Rattle.std.specs.Prelude.{refl}
use Rattle.tests_core.proofs.Scenes.{files-entries, files-get, four-get, three-get}
use Rattle.tests_core.proofs.Unfolded.{steps}
use Rattle.tests_core.proofs.worked_cases.lock_moves.moves_in_order.Goals as goal

pub returns-clause-lesser_begins : goal.returns-clause-lesser_begins
unfolding steps
returns-clause-lesser_begins c = simp (files-entries, files-get, four-get, three-get) refl

pub returns-clause-lesser_ends : goal.returns-clause-lesser_ends
unfolding steps
returns-clause-lesser_ends c = simp (files-entries, files-get, four-get, three-get) refl

pub returns-clause-greater_begins : goal.returns-clause-greater_begins
unfolding steps
returns-clause-greater_begins c = simp (files-entries, files-get, four-get, three-get) refl

pub returns-clause-greater_ends : goal.returns-clause-greater_ends
unfolding steps
returns-clause-greater_ends c = simp (files-entries, files-get, four-get, three-get) refl

pub returns-clause-both_rest : goal.returns-clause-both_rest
unfolding steps
returns-clause-both_rest c = simp (files-entries, files-get, four-get, three-get) refl

pub returns-clause-lesser_is_to_share : goal.returns-clause-lesser_is_to_share
unfolding steps
returns-clause-lesser_is_to_share c = simp (files-entries, files-get, four-get, three-get) refl

pub returns-clause-greater_is_to_share : goal.returns-clause-greater_is_to_share
unfolding steps
returns-clause-greater_is_to_share c = simp (files-entries, files-get, four-get, three-get) refl

pub returns-clause-both_stay_open : goal.returns-clause-both_stay_open
unfolding steps
returns-clause-both_stay_open c = simp (files-entries, files-get, four-get, three-get) refl

pub returns-clause-lesser_shares : goal.returns-clause-lesser_shares
unfolding steps
returns-clause-lesser_shares c = simp (files-entries, files-get, four-get, three-get) refl

pub returns-clause-greater_shares : goal.returns-clause-greater_shares
unfolding steps
returns-clause-greater_shares c = simp (files-entries, files-get, four-get, three-get) refl

pub returns-clause-both_share : goal.returns-clause-both_share
unfolding steps
returns-clause-both_share c = simp (files-entries, files-get, four-get, three-get) refl

pub returns-clause-end_before_beginning : goal.returns-clause-end_before_beginning
unfolding steps
returns-clause-end_before_beginning c = simp (files-entries, files-get, four-get, three-get) refl

pub returns-clause-then_the_beginning : goal.returns-clause-then_the_beginning
unfolding steps
returns-clause-then_the_beginning c = simp (files-entries, files-get, four-get, three-get) refl
