use Rattle.std.proofs.Common.{refl}
use Rattle.inotree.specs.Inodes.{with_snapshot, without_snapshot}
use Rattle.inotree.proofs.Elsewhere.{alike-changed, alike-forgotten, alike-new}
use Rattle.inotree.proofs.laws.what_is_made_or_set_changes_no_other.Goals as goal

pub returns-clause-new : goal.returns-clause-new
returns-clause-new c = alike-new

pub returns-clause-forgotten : goal.returns-clause-forgotten
returns-clause-forgotten c = alike-forgotten

pub returns-clause-any : goal.returns-clause-any
returns-clause-any c = λ tree f at ino site attr. alike-changed tree f at site attr ino

pub returns-clause-comes : goal.returns-clause-comes
returns-clause-comes c = λ tree name at ino. alike-changed tree (with_snapshot name) at (λ n. refl) (λ n. refl) ino

pub returns-clause-goes : goal.returns-clause-goes
returns-clause-goes c = λ tree name at ino. alike-changed tree (without_snapshot name) at (λ n. refl) (λ n. refl) ino
