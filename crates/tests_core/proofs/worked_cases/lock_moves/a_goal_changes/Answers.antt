use Rattle.std.specs.Prelude.{refl}
use Rattle.tests_core.proofs.Scenes.{files-entries, files-get, four-get, three-get}
use Rattle.tests_core.proofs.Unfolded.{steps}
use Rattle.tests_core.proofs.worked_cases.lock_moves.a_goal_changes.Goals as goal

pub returns-clause-ends_as_it_was_to : goal.returns-clause-ends_as_it_was_to
unfolding steps
returns-clause-ends_as_it_was_to c = simp (files-entries, files-get, four-get, three-get) refl

pub returns-clause-goes_there_next : goal.returns-clause-goes_there_next
unfolding steps
returns-clause-goes_there_next c = simp (files-entries, files-get, four-get, three-get) refl

pub returns-clause-is_there : goal.returns-clause-is_there
unfolding steps
returns-clause-is_there c = simp (files-entries, files-get, four-get, three-get) refl

pub returns-clause-stale_does_not_want : goal.returns-clause-stale_does_not_want
unfolding steps
returns-clause-stale_does_not_want c = simp (files-entries, files-get, four-get, three-get) refl

pub returns-clause-both_hold : goal.returns-clause-both_hold
unfolding steps
returns-clause-both_hold c = simp (files-entries, files-get, four-get, three-get) refl

pub returns-clause-stale_holds : goal.returns-clause-stale_holds
unfolding steps
returns-clause-stale_holds c = simp (files-entries, files-get, four-get, three-get) refl

pub returns-clause-stale_gives_up : goal.returns-clause-stale_gives_up
unfolding steps
returns-clause-stale_gives_up c = simp (files-entries, files-get, four-get, three-get) refl
