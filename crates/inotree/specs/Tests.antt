-- The tests of the calls on a tree, each with its refusal where it fails.
use Rattle.std.specs.Prelude.{ℕ, ◌-◌, ◌==◌, ◌&&◌, ◌||◌, Bool, true, false, not, nat_le, nat_lt, List, [], ◌∷◌, ◌++◌, length, Option, None, Some, is_some}
use Rattle.std.specs.Option.{option_map_or}
use Rattle.std.specs.FinMap as map
use Rattle.std.specs.FinSet as set
use Rattle.capbits.specs.declared.refusal.Refusal.TheVariants as refusal
use Rattle.capbits.specs.Refusal.{Test, refused_if}
use Rattle.inotree.specs.declared.node.Node.{Node}
use Rattle.inotree.specs.declared.node.Site.{Site}
use Rattle.inotree.specs.declared.node.Site.TheVariants.{Root, Stray, Under}
use Rattle.inotree.specs.declared.node.Presence.{Presence}
use Rattle.inotree.specs.declared.node.Presence.TheVariants as presence_kind
use Rattle.inotree.specs.declared.node.Setting.{Setting}
use Rattle.inotree.specs.declared.node.Setting.TheVariants.{Gid, Mode, Size, Time, Uid}
use Rattle.inotree.specs.Names.{is_bad_attribute, is_bad_name}
use Rattle.inotree.specs.Tree.{Nodes, child, depth, descends, is_directory, is_within, presence, site_of}

-- ---- of an inode

abbrev pub is_no_ino : Presence → Bool
is_no_ino presence_kind.NoIno = true
is_no_ino presence_kind.Gone = false
is_no_ino presence_kind.Here = false

abbrev pub is_gone : Presence → Bool
is_gone presence_kind.Gone = true
is_gone presence_kind.NoIno = false
is_gone presence_kind.Here = false

-- there is such an inode
abbrev pub exists_test : Nodes → ℕ → Test
exists_test tree ino = refused_if (is_no_ino (presence tree.nodes ino)) refusal.NoIno

-- the inode is no stray
abbrev pub here_test : Nodes → ℕ → Test
here_test tree ino = refused_if (is_gone (presence tree.nodes ino)) refusal.Gone

-- there is such an inode, and it has a path
abbrev pub inode_tests : Nodes → ℕ → List Test
inode_tests tree ino = exists_test tree ino ∷ here_test tree ino ∷ []

abbrev pub is_root_site : Option Site → Bool
is_root_site None = false
is_root_site (Some Root) = true
is_root_site (Some Stray) = false
is_root_site (Some (Under dir name)) = false

-- the inode is not the root
abbrev pub root_test : Nodes → ℕ → Test
root_test tree ino = refused_if (is_root_site (site_of tree.nodes ino)) refusal.Root

-- the inode is a directory
abbrev pub directory_test : Nodes → ℕ → Test
directory_test tree ino = refused_if (not (is_directory tree.nodes ino)) refusal.NotDir

-- the inode is no directory
abbrev pub file_test : Nodes → ℕ → Test
file_test tree ino = refused_if (is_directory tree.nodes ino) refusal.IsDir

-- of what the tree keeps of the inode; where there is no inode, it does not hold
abbrev pub test_at : (Node → Bool) → Nodes → ℕ → Bool
test_at test tree ino = option_map_or test (map.get tree.nodes ino) false

-- nothing stands in the inode
abbrev pub childless_test : Nodes → ℕ → Test
childless_test tree ino = refused_if (descends 1 tree.nodes ino) refusal.NotEmpty

-- the directory is empty
abbrev pub empty_test : Nodes → ℕ → Test
empty_test tree ino = refused_if (descends 1 tree.nodes ino || test_at (λ n. nat_lt 0 (set.len n.snapshots)) tree ino) refusal.NotEmpty

-- ---- of names in a directory

-- the directory has something under the name
abbrev pub found_test : Nodes → ℕ → List ℕ → Test
found_test tree dir name = refused_if (not (is_some (child tree.nodes dir name))) refusal.NoEnt

-- the name can be given in the directory, and is free
abbrev pub name_tests : Nodes → ℕ → List ℕ → List Test
name_tests tree dir name = refused_if (is_bad_name name) refusal.NameBad ∷ refused_if (is_some (child tree.nodes dir name)) refusal.Exists ∷ []

-- there may be one more inode, one name below the directory
abbrev pub room_tests : Nodes → ℕ → List Test
room_tests tree dir =
    refused_if (nat_le 32 (depth tree.nodes dir)) refusal.TooDeep
    ∷ refused_if (nat_le 65536 (map.len tree.nodes) || (tree.last == 18446744073709551615)) refusal.Limit
    ∷ []

-- the directory may have a new inode under the name
abbrev pub new_inode_tests : Nodes → ℕ → List ℕ → List Test
new_inode_tests tree dir name = directory_test tree dir ∷ name_tests tree dir name ++ room_tests tree dir

-- the inode, with all below it, may lie one name below the directory
abbrev pub move_tests : Nodes → ℕ → ℕ → List Test
move_tests tree ino dir =
    refused_if (is_within tree.nodes dir ino) refusal.Loop
    ∷ refused_if (descends (32 - depth tree.nodes dir) tree.nodes ino) refusal.TooDeep
    ∷ []

-- the inode may stand in the directory, under the name
abbrev pub new_site_tests : Nodes → ℕ → ℕ → List ℕ → List Test
new_site_tests tree ino dir name = directory_test tree dir ∷ name_tests tree dir name ++ move_tests tree ino dir

-- ---- of what an inode keeps

-- the directory may have a new snapshot of this name
abbrev pub new_snapshot_tests : Nodes → ℕ → List ℕ → List Test
new_snapshot_tests tree ino name =
    directory_test tree ino
    ∷ refused_if (is_bad_name name) refusal.NameBad
    ∷ refused_if (test_at (λ n. set.contains n.snapshots name) tree ino) refusal.Exists
    ∷ refused_if (test_at (λ n. nat_le 64 (set.len n.snapshots)) tree ino) refusal.Limit
    ∷ []

-- the directory has a snapshot of this name
abbrev pub old_snapshot_tests : Nodes → ℕ → List ℕ → List Test
old_snapshot_tests tree ino name = directory_test tree ino ∷ refused_if (test_at (λ n. not (set.contains n.snapshots name)) tree ino) refusal.NoEnt ∷ []

-- a file alone has a size
abbrev pub setting_tests : Nodes → ℕ → Setting → List Test
setting_tests tree ino (Size size) = file_test tree ino ∷ []
setting_tests tree ino (Mode mode) = []
setting_tests tree ino (Uid uid) = []
setting_tests tree ino (Gid gid) = []
setting_tests tree ino (Time time) = []

-- the inode may have this value in this attribute
abbrev pub new_attribute_tests : Nodes → ℕ → List ℕ → List ℕ → List Test
new_attribute_tests tree ino name value =
    refused_if (is_bad_attribute name) refusal.NameBad
    ∷ refused_if (nat_lt 4096 (length value) || test_at (λ n. not (map.contains_key n.attributes name) && nat_le 64 (map.len n.attributes)) tree ino) refusal.Limit
    ∷ []

-- the inode has the attribute
abbrev pub old_attribute_tests : Nodes → ℕ → List ℕ → List Test
old_attribute_tests tree ino name = refused_if (test_at (λ n. not (map.contains_key n.attributes name)) tree ino) refusal.NoXattr ∷ []

-- ---- of each call

abbrev pub create_tests : Nodes → ℕ → List ℕ → List Test
create_tests tree dir name = inode_tests tree dir ++ new_inode_tests tree dir name

abbrev pub unlink_tests : Nodes → ℕ → List Test
unlink_tests tree ino = inode_tests tree ino ++ root_test tree ino ∷ file_test tree ino ∷ []

abbrev pub rmdir_tests : Nodes → ℕ → List Test
rmdir_tests tree ino = inode_tests tree ino ++ root_test tree ino ∷ directory_test tree ino ∷ empty_test tree ino ∷ []

abbrev pub detach_tests : Nodes → ℕ → List Test
detach_tests tree ino = inode_tests tree ino ++ root_test tree ino ∷ childless_test tree ino ∷ []

abbrev pub rename_tests : Nodes → ℕ → ℕ → List ℕ → List Test
rename_tests tree ino dir name = inode_tests tree ino ++ root_test tree ino ∷ inode_tests tree dir ++ new_site_tests tree ino dir name

abbrev pub set_tests : Nodes → ℕ → Setting → List Test
set_tests tree ino setting = inode_tests tree ino ++ setting_tests tree ino setting

abbrev pub set_xattr_tests : Nodes → ℕ → List ℕ → List ℕ → List Test
set_xattr_tests tree ino name value = inode_tests tree ino ++ new_attribute_tests tree ino name value

abbrev pub remove_xattr_tests : Nodes → ℕ → List ℕ → List Test
remove_xattr_tests tree ino name = inode_tests tree ino ++ old_attribute_tests tree ino name

abbrev pub snap_add_tests : Nodes → ℕ → List ℕ → List Test
snap_add_tests tree ino name = inode_tests tree ino ++ new_snapshot_tests tree ino name

abbrev pub snap_remove_tests : Nodes → ℕ → List ℕ → List Test
snap_remove_tests tree ino name = inode_tests tree ino ++ old_snapshot_tests tree ino name
