-- The tests that the tree has to pass before the operation of a request is carried out, and which inode that changes.
use Rattle.std.specs.Prelude.{Bool, List, None, Option, Some, false, if◌then◌else◌, true, ℕ}
use Rattle.capbits.specs.Refusal.{Test}
use Rattle.capbits.specs.declared.ids.Ino.{Ino}
use Rattle.inotree.specs.Tests.{inode_tests, remove_xattr_tests, rename_tests, rmdir_tests, set_tests, set_xattr_tests, unlink_tests}
use Rattle.inotree.specs.Tree.{Nodes}
use Rattle.lockmachine.specs.declared.request.Change.{Change}
use Rattle.lockmachine.specs.declared.request.Change.TheVariants.{RemoveXattr, Set, SetXattr}
use Rattle.lockmachine.specs.declared.request.Operation.{Operation}
use Rattle.lockmachine.specs.declared.request.Operation.TheVariants.{Alter, Get, Rename, Rmdir, Unlink}
use Rattle.lockmachine.specs.declared.request.Request.{Request}

-- the tests of the call that makes a change
abbrev pub change_call_tests : Nodes → ℕ → Change → List Test
change_call_tests tree ino (Set setting) = set_tests tree ino setting
change_call_tests tree ino (SetXattr name value) = set_xattr_tests tree ino name value
change_call_tests tree ino (RemoveXattr name) = remove_xattr_tests tree ino name

-- the tests of the call that carries the operation out
abbrev pub call_tests : Nodes → ℕ → Operation → List Test
call_tests tree ino (Get part) = inode_tests tree ino
call_tests tree ino (Alter change) = change_call_tests tree ino change
call_tests tree ino Unlink = unlink_tests tree ino
call_tests tree ino Rmdir = rmdir_tests tree ino
call_tests tree ino (Rename dir name) = rename_tests tree ino dir.0 name

-- the inode is to move
abbrev pub is_rename : Operation → Bool
is_rename (Rename dir name) = true
is_rename operation = false

-- the inode that a request changes and no other; none where it moves its inode
abbrev pub changed_alone : Request → Option Ino
changed_alone q = if is_rename q.operation then None else Some q.ino
