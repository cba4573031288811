-- The tree of a cluster, with what clients hold of each inode.
use Rattle.std.specs.Prelude.{◌≡◌, ℕ, ◌+◌, ◌%◌, ◌==◌, ◌&&◌, Bool, false, if◌then◌else◌, List, [], ◌∷◌, ◌++◌, length, codes, Option, Some, None, unwrap_or}
use Rattle.std.specs.Prelude.{ok_or, option_map, option_and_then, Result, Ok, Err}
use Rattle.std.specs.Ordering.{nat_cmp}
use Rattle.std.specs.FinMap as map
use Rattle.std.specs.FinMap.{FinMap}
use Rattle.serde_json.specs.Data.{Data, Items}
use Rattle.serde_json.specs.Find.{as_bool, get}
use Rattle.ceph_input.specs.declared.array_fault.Expected.{Expected}
use Rattle.ceph_input.specs.declared.array_fault.RowFault.TheVariants as row_faults
use Rattle.ceph_input.specs.Rows.{Rows, broken, closed, row, rows_of}
use Rattle.ceph_input.specs.Cutting.{Reading, rows_left}
use Rattle.capspec.specs.Paths.{names_of}
use Rattle.capgrant.specs.declared.access.Attr.{Attr}
use Rattle.ceph_input.specs.Auth.{json_of}
use Rattle.ceph_input.specs.Each.{with_each}
use Rattle.ceph_input.specs.declared.tree_fault.TreeFault.{TreeFault}
use Rattle.ceph_input.specs.declared.tree_fault.TreeFault.TheVariants as faults
use Rattle.ceph_input.specs.Values.{id_at, items_at, number_at, text_at}

-- ---- what clients hold

-- the number of a client's session, the caps that it may still hold, and those that it was last told, each in their text
pub record Held : Type 0 where
  pub client : ℕ
  pub issued : List ℕ
  pub pending : List ℕ

abbrev pub held : ℕ → List ℕ → List ℕ → Held
held client issued pending = record { client = client; issued = issued; pending = pending }

abbrev pub holder_of : Data → Option Held
holder_of d = option_and_then (λ client. option_and_then (λ issued. option_map (held client issued) (text_at (codes "pending") d)) (text_at (codes "issued") d)) (number_at (codes "client_id") d)

-- with the one who holds something by an item
abbrev pub with_holder : List Held → Data → Option (List Held)
with_holder before d = option_map (λ h. before ++ h ∷ []) (holder_of d)

-- those who hold something by these items, behind those before; None where an item doesn't say it
abbrev pub holders_from : List Held → Items → Option (List Held)
holders_from before items = with_each with_holder before items

abbrev pub holders_in : Data → Option (List Held)
holders_in d = option_and_then (holders_from []) (items_at (codes "client_caps") d)

-- ---- inodes

-- an inode: its number, its owner, group and mode, the names that led to it before it was unlinked, if it was, and who holds something of it
pub record Listed : Type 0 where
  pub number : ℕ
  pub attr : Attr
  pub prior : Option (List (List ℕ))
  pub holders : List Held

abbrev pub listed : ℕ → Attr → Option (List (List ℕ)) → List Held → Listed
listed number attr prior holders = record { number = number; attr = attr; prior = prior; holders = holders }

-- the twelve low bits of the mode are those that rules look at; above them stands the kind of the inode
abbrev pub attr_with : ℕ → ℕ → ℕ → Attr
attr_with uid gid mode = record { uid = uid; gid = gid; mode = mode % 0o10000 }

abbrev pub attr_in : Data → Option Attr
attr_in d = option_and_then (λ uid. option_and_then (λ gid. option_map (attr_with uid gid) (number_at (codes "mode") d)) (id_at (codes "gid") d)) (id_at (codes "uid") d)

-- a text of no byte tells no path
abbrev pub names_or_none : List ℕ → Option (List (List ℕ))
names_or_none text = if length text == 0 then None else Some (names_of text)

abbrev pub prior_in : Data → Option (List (List ℕ))
prior_in d = option_and_then names_or_none (text_at (codes "stray_prior_path") d)

abbrev pub inode_of : Data → Option Listed
inode_of d = option_and_then (λ number. option_and_then (λ attr. option_map (listed number attr (prior_in d)) (holders_in d)) (attr_in d)) (number_at (codes "ino") d)

-- ---- paths

-- the names from the root down to each inode that has some
abbrev pub PathMap : Type 0
PathMap = FinMap nat_cmp (List (List ℕ))

-- the root has no name
abbrev pub root_alone : PathMap
root_alone = map.insert map.empty 1 []

abbrev pub is_primary : Data → Bool
is_primary d = unwrap_or (option_and_then as_bool (get (codes "is_primary") d)) false

-- the path of a dentry begins at the inode that stands at `path_ino`: at the root, where that is not told
abbrev pub is_below_root : Data → Bool
is_below_root d = unwrap_or (number_at (codes "path_ino") d) 1 == 1

-- the head of the tree, which is no snapshot, is where the last of a dentry's snapshots has the highest number that stands for none
abbrev pub is_of_head : Data → Bool
is_of_head d = unwrap_or (number_at (codes "snap_last") d) 0xFFFF_FFFF_FFFF_FFFE == 0xFFFF_FFFF_FFFF_FFFE

-- with the path of the inode that is at home at this dentry; None where there is one, without its number or its path
abbrev pub with_dentry : PathMap → Data → Option PathMap
with_dentry paths d = if is_primary d && (is_below_root d && is_of_head d) then option_and_then (λ number. option_map (λ path. map.insert paths number (names_of path)) (text_at (codes "path") d)) (number_at (codes "inode") d) else Some paths

abbrev pub with_dentries : PathMap → Items → Option PathMap
with_dentries paths items = with_each with_dentry paths items

-- with those of a fragment of a directory
abbrev pub with_fragment : PathMap → Data → Option PathMap
with_fragment paths d = option_and_then (with_dentries paths) (items_at (codes "dentries") d)

abbrev pub with_fragments : PathMap → Items → Option PathMap
with_fragments paths items = with_each with_fragment paths items

-- with those of the directory that an inode is
abbrev pub with_directory : PathMap → Data → Option PathMap
with_directory paths d = option_and_then (with_fragments paths) (items_at (codes "dirfrags") d)

-- ---- the tree

-- the inodes in the order of the text, and their paths
pub record Dump : Type 0 where
  pub inodes : List Listed
  pub paths : PathMap

abbrev pub dump : List Listed → PathMap → Dump
dump inodes paths = record { inodes = inodes; paths = paths }

-- Why a text is no tree, the first thing that is wrong: it is no list, since something else was expected at a byte; or an item of it is no
-- JSON, or no inode. Items have their numbers, from 1, and those of their first bytes.
pub data Wrong : Type 0 where
  no_list : ℕ → Expected → Wrong
  no_json : ℕ → ℕ → Wrong
  no_inode : ℕ → ℕ → Wrong

-- with the inode that an item is
abbrev pub with_inode : Dump → Data → Option Dump
with_inode tree d = option_and_then (λ i. option_map (dump (tree.inodes ++ i ∷ [])) (with_directory tree.paths d)) (inode_of d)

-- the same of the JSON that the text of an item is
abbrev pub with_json : Dump → ℕ → Option Data → Result Dump Wrong
with_json tree byte None = Err (no_json (length tree.inodes + 1) byte)
with_json tree byte (Some d) = ok_or (with_inode tree d) (no_inode (length tree.inodes + 1) byte)

-- the same of its text
abbrev pub with_item : Dump → ℕ → List ℕ → Result Dump Wrong
with_item tree byte text = with_json tree byte (json_of text)

abbrev pub and_then : Result Dump Wrong → (Dump → Result Dump Wrong) → Result Dump Wrong
and_then (Ok tree) next = next tree
and_then (Err wrong) next = Err wrong

-- with the inodes that the items of a list are
abbrev pub tree_from : Dump → Rows → Result Dump Wrong
tree_from tree closed = Ok tree
tree_from tree (broken byte expected) = Err (no_list byte expected)
tree_from tree (row byte text rows) = and_then (with_item tree byte text) (λ more. tree_from more rows)

-- the tree that a text is
abbrev pub tree_of : List ℕ → Result Dump Wrong
tree_of text = tree_from (dump [] root_alone) (rows_of text)

-- the fault is what is wrong; want of memory is in no text
abbrev pub IsTreeFault : TreeFault → Result Dump Wrong → Type 0
IsTreeFault (faults.Rows row_faults.NoMemory) found = Unit {0}
IsTreeFault (faults.Rows (row_faults.Unexpected byte expected)) found = found ≡ Err (no_list byte expected)
IsTreeFault (faults.NotJson number byte line column) found = found ≡ Err (no_json number byte)
IsTreeFault (faults.BadItem number byte) found = found ≡ Err (no_inode number byte)
IsTreeFault faults.NoMemory found = Unit {0}

-- ---- a text that is read piece by piece

-- the tree of what was read, and where the text stands
pub record Growing : Type 0 where
  pub tree : Dump
  pub rows : Reading

abbrev pub growing : Dump → Reading → Growing
growing tree rows = record { tree = tree; rows = rows }

-- the tree of that and of the text that follows
abbrev pub tree_left : Growing → List ℕ → Result Dump Wrong
tree_left g text = tree_from g.tree (rows_left g.rows text)
