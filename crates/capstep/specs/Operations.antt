-- The operations that may wait for a lock: the accesses that each needs, the tests that it has to pass, and what changes.
use Rattle.std.specs.Ordering.{eq_by_cmp}
use Rattle.std.specs.Prelude.{ℕ, List, [], ◌∷◌, ◌++◌, take, if◌then◌else◌}
use Rattle.capbits.specs.Refusal.{Test}
use Rattle.capbits.specs.declared.cap.Cap.{Cap}
use Rattle.capbits.specs.declared.cap.Cap.TheVariants.{Ax, Fx, Lx, Xx}
use Rattle.capbits.specs.declared.cap.Part.{Part}
use Rattle.capbits.specs.declared.cap.Part.TheVariants.{A, F, L, X}
use Rattle.capbits.specs.declared.ids.ClientId.{ClientId}
use Rattle.capgrant.specs.declared.access.Access.{Access}
use Rattle.inotree.specs.Names.{name_cmp}
use Rattle.inotree.specs.Tests.{directory_test, empty_test, file_test, inode_tests, new_attribute_tests, new_site_tests, old_attribute_tests, root_test}
use Rattle.inotree.specs.Tests.{setting_tests}
use Rattle.inotree.specs.Tree.{parent}
use Rattle.inotree.specs.declared.node.Setting.TheVariants.{Gid, Mode, Uid}
use Rattle.lockmachine.specs.declared.request.Change.{Change}
use Rattle.lockmachine.specs.declared.request.Change.TheVariants.{RemoveXattr, Set, SetXattr}
use Rattle.lockmachine.specs.declared.request.Operation.{Operation}
use Rattle.lockmachine.specs.declared.request.Operation.TheVariants.{Alter, Get, Rename, Rmdir, Unlink}
use Rattle.lockmachine.specs.Scene.{Scene}
use Rattle.capstep.specs.Needs.{Need, need, need_if}

-- ---- accesses

-- an attribute whose name begins with `ceph.` needs an access of its own
abbrev pub attribute_access : List ℕ → Access
attribute_access name =
    if eq_by_cmp name_cmp (take 5 name) (99 ∷ 101 ∷ 112 ∷ 104 ∷ 46 ∷ []) then Access.SetVxattr else Access.Write

abbrev pub change_access : Change → Access
change_access (Set (Mode mode)) = Access.Chmod
change_access (Set (Uid uid)) = Access.Chown uid
change_access (Set (Gid gid)) = Access.Chgrp gid
change_access (Set setting) = Access.Write
change_access (SetXattr name value) = attribute_access name
change_access (RemoveXattr name) = attribute_access name

-- the accesses that it needs, in order
abbrev pub operation_needs : Scene → ClientId → ℕ → Operation → List Need
operation_needs s client ino (Get part) = need client ino Access.Read ∷ []
operation_needs s client ino (Alter change) = need client ino (change_access change) ∷ []
operation_needs s client ino Unlink = need_if client (parent s.tree.nodes ino) Access.Write
operation_needs s client ino Rmdir = need_if client (parent s.tree.nodes ino) Access.Write
operation_needs s client ino (Rename dir name) = need_if client (parent s.tree.nodes ino) Access.Write ++ need client dir.0 Access.Write ∷ []

-- ---- what is tested

-- the tests before policy, without those of the session
abbrev pub operation_before : Scene → ℕ → Operation → List Test
operation_before s ino (Get part) = inode_tests s.tree ino
operation_before s ino (Alter change) = inode_tests s.tree ino
operation_before s ino Unlink = inode_tests s.tree ino ++ root_test s.tree ino ∷ []
operation_before s ino Rmdir = inode_tests s.tree ino ++ root_test s.tree ino ∷ []
operation_before s ino (Rename dir name) = inode_tests s.tree ino ++ root_test s.tree ino ∷ inode_tests s.tree dir.0

-- the tests of a change
abbrev pub change_tests : Scene → ℕ → Change → List Test
change_tests s ino (Set setting) = setting_tests s.tree ino setting
change_tests s ino (SetXattr name value) = new_attribute_tests s.tree ino name value
change_tests s ino (RemoveXattr name) = old_attribute_tests s.tree ino name

-- the tests behind policy, without that of the queue's room
abbrev pub operation_after : Scene → ℕ → Operation → List Test
operation_after s ino (Get part) = []
operation_after s ino (Alter change) = change_tests s ino change
operation_after s ino Unlink = file_test s.tree ino ∷ []
operation_after s ino Rmdir = directory_test s.tree ino ∷ empty_test s.tree ino ∷ []
operation_after s ino (Rename dir name) = new_site_tests s.tree ino dir.0 name

-- ---- what changes

-- the cap by which a client alone changes a part
abbrev pub exclusive : Part → Cap
exclusive A = Ax
exclusive L = Lx
exclusive X = Xx
exclusive F = Fx
