use Rattle.inotree.proofs.Moving.{moved-alike, moved-presences, moved-tree}
use Rattle.inotree.proofs.laws.a_move_changes_only_what_is_below.Goals as goal

pub returns-clause-alike : goal.returns-clause-alike
returns-clause-alike c = moved-alike

pub returns-clause-presences : goal.returns-clause-presences
returns-clause-presences c = moved-presences

pub returns-clause-tree : goal.returns-clause-tree
returns-clause-tree c = moved-tree
