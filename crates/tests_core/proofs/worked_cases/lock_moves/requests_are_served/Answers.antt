use Rattle.std.specs.Prelude.{refl}
use Rattle.tests_core.proofs.Scenes.{files-entries, files-get, four-get, three-get}
use Rattle.tests_core.proofs.Unfolded.{steps}
use Rattle.tests_core.proofs.worked_cases.lock_moves.requests_are_served.Goals as goal

pub returns-clause-in_sync_at_once : goal.returns-clause-in_sync_at_once
unfolding steps
returns-clause-in_sync_at_once c = simp (files-entries, files-get, four-get, three-get) refl

pub returns-clause-out_of_mix : goal.returns-clause-out_of_mix
unfolding steps
returns-clause-out_of_mix c = simp (files-entries, files-get, four-get, three-get) refl

pub returns-clause-to_sync : goal.returns-clause-to_sync
unfolding steps
returns-clause-to_sync c = simp (files-entries, files-get, four-get, three-get) refl

pub returns-clause-in_sync : goal.returns-clause-in_sync
unfolding steps
returns-clause-in_sync c = simp (files-entries, files-get, four-get, three-get) refl

pub returns-clause-back_to_mix : goal.returns-clause-back_to_mix
unfolding steps
returns-clause-back_to_mix c = simp (files-entries, files-get, four-get, three-get) refl

pub returns-clause-oldest_first : goal.returns-clause-oldest_first
unfolding steps
returns-clause-oldest_first c = simp (files-entries, files-get, four-get, three-get) refl
