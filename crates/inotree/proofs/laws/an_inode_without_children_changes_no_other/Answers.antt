use Rattle.inotree.specs.declared.node.Site.TheVariants.{Stray}
use Rattle.inotree.specs.Inodes.{with_site}
use Rattle.inotree.proofs.OneInode.{alike-unlinked, childless-empty, childless-file, presence-other}
use Rattle.inotree.proofs.laws.an_inode_without_children_changes_no_other.Goals as goal

pub returns-clause-alike : goal.returns-clause-alike
returns-clause-alike c = alike-unlinked

pub returns-clause-presences : goal.returns-clause-presences
returns-clause-presences c = λ tree ino other off. presence-other tree (with_site Stray) ino other off

pub returns-clause-file : goal.returns-clause-file
returns-clause-file c = childless-file

pub returns-clause-empty : goal.returns-clause-empty
returns-clause-empty c = childless-empty
