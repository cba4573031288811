use Rattle.capcore.proofs.OneChange.{alike-apart, sound-after}
use Rattle.capcore.proofs.serving_laws.a_serving_changes_what_it_moves.Goals as goal

pub returns-clause-others : goal.returns-clause-others
returns-clause-others c = λ s q o ino tree may other below. alike-apart s q o ino tree may other below

pub returns-clause-tree : goal.returns-clause-tree
returns-clause-tree c = λ s q o tree may. sound-after s q o tree may
