-- What becomes of a tree when a request is served.
use Rattle.std.specs.Prelude.{ℕ}
use Rattle.inotree.specs.Calls.{changed, moved, unlinked}
use Rattle.inotree.specs.Inodes.{with_attribute, with_setting, without_attribute}
use Rattle.inotree.specs.Tree.{Nodes}
use Rattle.lockmachine.specs.declared.request.Change.{Change}
use Rattle.lockmachine.specs.declared.request.Change.TheVariants.{RemoveXattr, Set, SetXattr}
use Rattle.lockmachine.specs.declared.request.Operation.{Operation}
use Rattle.lockmachine.specs.declared.request.Operation.TheVariants.{Alter, Get, Rename, Rmdir, Unlink}
use Rattle.lockmachine.specs.declared.request.Request.{Request}
use Rattle.capstep.specs.declared.outcome.Outcome.{Outcome}

-- the tree with the change of the inode
abbrev pub tree_changed : Nodes → ℕ → Change → Nodes
tree_changed tree ino (Set setting) = changed (with_setting setting) tree ino
tree_changed tree ino (SetXattr name value) = changed (with_attribute name value) tree ino
tree_changed tree ino (RemoveXattr name) = changed (without_attribute name) tree ino

-- the tree that the operation makes
abbrev pub tree_with : Nodes → ℕ → Operation → Nodes
tree_with tree ino (Get part) = tree
tree_with tree ino (Alter change) = tree_changed tree ino change
tree_with tree ino Unlink = unlinked tree ino
tree_with tree ino Rmdir = unlinked tree ino
tree_with tree ino (Rename dir name) = moved tree ino dir.0 name

-- a request that ends otherwise than as done changes nothing
abbrev pub tree_after : Nodes → Request → Outcome → Nodes
tree_after tree q Outcome.Done = tree_with tree q.ino.0 q.operation
tree_after tree q o = tree
