use Rattle.capcore.proofs.SoundEnd.{sound-finished}
use Rattle.capcore.proofs.Common.{sound-settles}
use Rattle.capcore.proofs.laws.a_sound_state_has_nothing_left_to_do.Goals as goal

pub returns-clause-settles : goal.returns-clause-settles
returns-clause-settles c = sound-settles

pub returns-clause-finished : goal.returns-clause-finished
returns-clause-finished c = sound-finished
