use Rattle.inotree.proofs.OneInode.{sound-attribute, sound-no-attribute, sound-rmdir, sound-setting, sound-unlink, sound-unlinked}
use Rattle.inotree.proofs.laws.a_change_that_may_be_made_keeps_the_tree.Goals as goal

pub returns-clause-set : goal.returns-clause-set
returns-clause-set c = sound-setting

pub returns-clause-comes : goal.returns-clause-comes
returns-clause-comes c = sound-attribute

pub returns-clause-goes : goal.returns-clause-goes
returns-clause-goes c = sound-no-attribute

pub returns-clause-childless : goal.returns-clause-childless
returns-clause-childless c = sound-unlinked

pub returns-clause-file : goal.returns-clause-file
returns-clause-file c = sound-unlink

pub returns-clause-empty : goal.returns-clause-empty
returns-clause-empty c = sound-rmdir
