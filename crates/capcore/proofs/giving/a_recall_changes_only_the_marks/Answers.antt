use Rattle.capcore.proofs.Recalled.{recalled-finished, recalled-sound}
use Rattle.capcore.proofs.giving.a_recall_changes_only_the_marks.Goals as goal

pub returns-clause-sound : goal.returns-clause-sound
returns-clause-sound c = λ s n sound. recalled-sound s sound n

pub returns-clause-finished : goal.returns-clause-finished
returns-clause-finished c = λ s n sound table. recalled-finished s sound n table
