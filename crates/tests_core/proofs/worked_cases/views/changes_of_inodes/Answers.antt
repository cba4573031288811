use Rattle.std.specs.Prelude.{codes, false, refl, true}
use Rattle.inotree.specs.Inodes.{with_attribute, with_setting, with_snapshot, without_snapshot}
use Rattle.inotree.specs.declared.node.Setting.TheVariants.{Size, Time}
use Rattle.capstep.specs.NotedChanges.{view}
use Rattle.tests_core.proofs.ViewAnswers.{mode_is_told, one, two, unseen-inode}
use Rattle.tests_core.specs.Trees.{root_alone}
use Rattle.tests_core.specs.Views.{is_forgotten, is_made, is_moved, is_removed}
use Rattle.tests_core.proofs.worked_cases.views.changes_of_inodes.Goals as goal

pub returns-clause-file : goal.returns-clause-file
returns-clause-file c attr table = one (view root_alone table.sessions) (is_made 2 1 (codes "f") attr false)

pub returns-clause-directory : goal.returns-clause-directory
returns-clause-directory c attr table = one (view root_alone table.sessions) (is_made 2 1 (codes "a") attr true)

pub returns-clause-another_place : goal.returns-clause-another_place
returns-clause-another_place c tree table = one (view tree table.sessions) (is_moved 3 4 (codes "c"))

pub returns-clause-stray : goal.returns-clause-stray
returns-clause-stray c tree table = one (view tree table.sessions) (is_removed 2)

pub returns-clause-gone : goal.returns-clause-gone
returns-clause-gone c tree table = one (view tree table.sessions) (is_forgotten 2)

pub returns-clause-removed : goal.returns-clause-removed
returns-clause-removed c tree table = two (view tree table.sessions) (is_removed 3) (is_forgotten 3)

pub returns-clause-mode : goal.returns-clause-mode
returns-clause-mode c table = mode_is_told table.sessions

pub returns-clause-size : goal.returns-clause-size
returns-clause-size c tree table = unseen-inode tree table.sessions (with_setting (Size 7)) 5 (λ _. refl)

pub returns-clause-time : goal.returns-clause-time
returns-clause-time c tree table = unseen-inode tree table.sessions (with_setting (Time 9)) 5 (λ _. refl)

pub returns-clause-attribute : goal.returns-clause-attribute
returns-clause-attribute c tree table = unseen-inode tree table.sessions (with_attribute (codes "user.a") (codes "10")) 5 (λ _. refl)

pub returns-clause-new_snapshot : goal.returns-clause-new_snapshot
returns-clause-new_snapshot c tree table = unseen-inode tree table.sessions (with_snapshot (codes "s")) 3 (λ _. refl)

pub returns-clause-snapshot_goes : goal.returns-clause-snapshot_goes
returns-clause-snapshot_goes c tree table = unseen-inode tree table.sessions (without_snapshot (codes "s")) 3 (λ _. refl)
