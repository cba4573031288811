use Rattle.capcore.proofs.Common.{sound-settles, stays-finished, stays-sound, with_parts, with_scene}
use Rattle.capcore.proofs.laws.what_spares_entries_has_nothing_to_do.Goals as goal

pub returns-clause-sound : goal.returns-clause-sound
returns-clause-sound c = λ s tree sessions states sound spares. stays-sound s sound tree sessions states spares

pub returns-clause-settles : goal.returns-clause-settles
returns-clause-settles c = λ s tree sessions states sound spares.
    sound-settles (with_scene s (with_parts s.scene tree sessions states)) (stays-sound s sound tree sessions states spares)

pub returns-clause-finished : goal.returns-clause-finished
returns-clause-finished c = λ s tree sessions states sound spares table. stays-finished s sound tree sessions states spares table
