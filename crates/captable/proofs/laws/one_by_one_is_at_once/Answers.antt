use Rattle.captable.proofs.OneByOne.{fold-changed_by, fold-on_inode, fold-recall}
use Rattle.captable.proofs.laws.one_by_one_is_at_once.Goals as goal

pub returns-clause-named : goal.returns-clause-named
returns-clause-named c = fold-changed_by

pub returns-clause-on_inode : goal.returns-clause-on_inode
returns-clause-on_inode c = fold-on_inode

pub returns-clause-each : goal.returns-clause-each
returns-clause-each c = fold-recall
