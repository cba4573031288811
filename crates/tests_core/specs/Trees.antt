-- Trees, and what calls on them are refused as.
use Rattle.std.specs.Prelude.{ℕ, zero, suc, Option, List, codes}
use Rattle.capbits.specs.Refusal.{first_failing}
use Rattle.capbits.specs.declared.refusal.Refusal.{Refusal}
use Rattle.inotree.specs.Calls.{changed, first_tree, moved, unlinked, with_new}
use Rattle.inotree.specs.Inodes.{with_attribute, with_setting, with_snapshot}
use Rattle.inotree.specs.Tests.{create_tests, remove_xattr_tests, rename_tests, rmdir_tests, set_tests, set_xattr_tests, snap_add_tests, snap_remove_tests}
use Rattle.inotree.specs.Tests.{unlink_tests}
use Rattle.inotree.specs.Tree.{Nodes}
use Rattle.inotree.specs.declared.node.Kind.TheVariants.{Directory, File}
use Rattle.inotree.specs.declared.node.Setting.{Setting}
use Rattle.inotree.specs.declared.node.Setting.TheVariants.{Gid, Mode, Uid}
use Rattle.tests_core.specs.Verdicts.{owned}

-- ---- what is refused

abbrev pub create_refusal : Nodes → ℕ → List ℕ → Option Refusal
create_refusal tree dir name = first_failing (create_tests tree dir name)

abbrev pub unlink_refusal : Nodes → ℕ → Option Refusal
unlink_refusal tree ino = first_failing (unlink_tests tree ino)

abbrev pub rmdir_refusal : Nodes → ℕ → Option Refusal
rmdir_refusal tree ino = first_failing (rmdir_tests tree ino)

abbrev pub rename_refusal : Nodes → ℕ → ℕ → List ℕ → Option Refusal
rename_refusal tree ino dir name = first_failing (rename_tests tree ino dir name)

abbrev pub set_refusal : Nodes → ℕ → Setting → Option Refusal
set_refusal tree ino setting = first_failing (set_tests tree ino setting)

abbrev pub set_xattr_refusal : Nodes → ℕ → List ℕ → Option Refusal
set_xattr_refusal tree ino name = first_failing (set_xattr_tests tree ino name (codes "1"))

abbrev pub remove_xattr_refusal : Nodes → ℕ → List ℕ → Option Refusal
remove_xattr_refusal tree ino name = first_failing (remove_xattr_tests tree ino name)

abbrev pub snap_add_refusal : Nodes → ℕ → List ℕ → Option Refusal
snap_add_refusal tree ino name = first_failing (snap_add_tests tree ino name)

abbrev pub snap_remove_refusal : Nodes → ℕ → List ℕ → Option Refusal
snap_remove_refusal tree ino name = first_failing (snap_remove_tests tree ino name)

-- ---- trees

-- the root alone
abbrev pub root_alone : Nodes
root_alone = first_tree (owned 0 0 0o755)

abbrev pub with_directory : Nodes → ℕ → List ℕ → Nodes
with_directory tree dir name = with_new tree Directory dir name (owned 1 1 0o755)

abbrev pub with_file : Nodes → ℕ → List ℕ → Nodes
with_file tree dir name = with_new tree File dir name (owned 1 1 0o644)

-- a directory `a` in the root, which is inode 2, in it a directory `b`, 3, and in the root a file `f`, 4
abbrev pub small : Nodes
small = with_file (with_directory (with_directory root_alone 1 (codes "a")) 2 (codes "b")) 1 (codes "f")

-- the file has an attribute, or the inner directory a snapshot
abbrev pub with_value : Nodes
with_value = changed (with_attribute (codes "user.a") (codes "1")) small 4

abbrev pub kept_once : Nodes
kept_once = changed (with_snapshot (codes "s")) small 3

-- the file is unlinked; then the inner directory stands in the root; then the outer one is removed
abbrev pub without_file : Nodes
without_file = unlinked small 4

abbrev pub side_by_side : Nodes
side_by_side = moved without_file 3 1 (codes "b")

abbrev pub one_removed : Nodes
one_removed = unlinked side_by_side 2

-- a file `f`, 3, in a directory `d`, 2, beside a stray, 4; then the file is a stray too, and there is another file, 5
abbrev pub beside_a_stray : Nodes
beside_a_stray = unlinked (with_file (with_file (with_directory root_alone 1 (codes "d")) 2 (codes "f")) 1 (codes "g")) 4

abbrev pub two_strays : Nodes
two_strays = with_file (unlinked beside_a_stray 3) 1 (codes "h")

-- the file has another owner, another group and another mode
abbrev pub given_away : Nodes
given_away = changed (with_setting (Mode 0o640)) (changed (with_setting (Gid 6)) (changed (with_setting (Uid 5)) beside_a_stray 3) 3) 3

-- so many directories `d` in one another, each under the number of its names and one more
unfoldable pub nested : ℕ → Nodes
nested zero = root_alone
nested (suc n) = with_directory (nested n) (suc n) (codes "d")

-- 32 of them, and a file `f` in the root, 34
abbrev pub deep : Nodes
deep = with_file (nested 32) 1 (codes "f")
