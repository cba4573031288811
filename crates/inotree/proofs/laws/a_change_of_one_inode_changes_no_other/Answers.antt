use Rattle.std.proofs.Common.{refl}
use Rattle.inotree.specs.Inodes.{with_attribute, with_setting, without_attribute}
use Rattle.inotree.proofs.Changes.{setting_site}
use Rattle.inotree.proofs.Elsewhere.{alike-changed}
use Rattle.inotree.proofs.OneInode.{alike-but, exist-changed, path-changed, presence-changed}
use Rattle.inotree.proofs.laws.a_change_of_one_inode_changes_no_other.Goals as goal

pub returns-clause-exist : goal.returns-clause-exist
returns-clause-exist c = exist-changed

pub returns-clause-last : goal.returns-clause-last
returns-clause-last c = λ tree f ino. refl

pub returns-clause-alike : goal.returns-clause-alike
returns-clause-alike c = λ tree f ino other site off. alike-but f site tree ino other off

pub returns-clause-paths : goal.returns-clause-paths
returns-clause-paths c = λ tree f ino other site. path-changed f site tree ino other

pub returns-clause-presences : goal.returns-clause-presences
returns-clause-presences c = λ tree f ino other site. presence-changed f site tree ino other

pub returns-clause-set : goal.returns-clause-set
returns-clause-set c = λ tree setting ino other off. alike-but (with_setting setting) (setting_site setting) tree ino other off

pub returns-clause-set_presences : goal.returns-clause-set_presences
returns-clause-set_presences c = λ tree setting ino other. presence-changed (with_setting setting) (setting_site setting) tree ino other

pub returns-clause-comes : goal.returns-clause-comes
returns-clause-comes c = λ tree name value ino other. alike-changed tree (with_attribute name value) ino (λ n. refl) (λ n. refl) other

pub returns-clause-comes_presences : goal.returns-clause-comes_presences
returns-clause-comes_presences c = λ tree name value ino other. presence-changed (with_attribute name value) (λ n. refl) tree ino other

pub returns-clause-goes : goal.returns-clause-goes
returns-clause-goes c = λ tree name ino other. alike-changed tree (without_attribute name) ino (λ n. refl) (λ n. refl) other

pub returns-clause-goes_presences : goal.returns-clause-goes_presences
returns-clause-goes_presences c = λ tree name ino other. presence-changed (without_attribute name) (λ n. refl) tree ino other
