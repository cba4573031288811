-- The tree: where each inode stands, what is a child of what, and the paths.
use Rattle.std.specs.Prelude.{◌≡◌, ℕ, zero, suc, ◌≤◌, ◌<◌, ◌==◌, ◌&&◌, ◌||◌, Bool, true, false, List, [], ◌∷◌, length, reverse, Option, None, Some}
use Rattle.std.specs.Prelude.{if◌then◌else◌, refl}
use Rattle.std.specs.Coded.{Coded, code_by, coded_ℕ, coded×}
use Rattle.std.specs.List.{list_any}
use Rattle.std.specs.Option.{option_map}
use Rattle.std.specs.Ordering.{eq_by_cmp}
use Rattle.std.specs.FinMap as map
use Rattle.std.specs.FinSet as set
use Rattle.inotree.specs.declared.node.Node.{Node}
use Rattle.inotree.specs.declared.node.Kind.{Kind}
use Rattle.inotree.specs.declared.node.Kind.TheVariants.{Directory, File}
use Rattle.inotree.specs.declared.node.Site.{Site}
use Rattle.inotree.specs.declared.node.Site.TheVariants.{Root, Stray, Under}
use Rattle.inotree.specs.declared.index.Slot.{Slot}
use Rattle.inotree.specs.declared.node.Presence.{Presence}
use Rattle.inotree.specs.declared.node.Presence.TheVariants.{Gone, Here, NoIno}
use Rattle.inotree.specs.Names.{is_bad_attribute, is_bad_name, name_cmp}
use Rattle.inotree.specs.Inodes.{InodeMap, inode_map_code}
use Rattle.inotree.specs.Index.{NameIndex, names_in}

-- the inodes by number, and the last number given
pub record Nodes : Type 0 where
  pub nodes : InodeMap
  pub last : ℕ

-- a tree is stored as the pair of its fields
abbrev pub nodes_code : Coded Nodes
nodes_code = code_by (InodeMap × ℕ) (coded× inode_map_code coded_ℕ) (λ t. (t.nodes, t.last)) (λ p. record { nodes = p.0; last = p.1 }) (λ _. refl)

-- where an inode stands, if there is one
abbrev pub site_of : InodeMap → ℕ → Option Site
site_of nodes ino = option_map (λ n. n.site) (map.get nodes ino)

-- what an inode is, if there is one
abbrev pub kind_of : InodeMap → ℕ → Option Kind
kind_of nodes ino = option_map (λ n. n.kind) (map.get nodes ino)

-- whether the tree has the inode
abbrev pub presence_at : Option Site → Presence
presence_at None = NoIno
presence_at (Some Stray) = Gone
presence_at (Some Root) = Here
presence_at (Some (Under dir name)) = Here

abbrev pub presence : InodeMap → ℕ → Presence
presence nodes ino = presence_at (site_of nodes ino)

abbrev pub is_directory_kind : Option Kind → Bool
is_directory_kind (Some Directory) = true
is_directory_kind (Some File) = false
is_directory_kind None = false

-- the inode is there and a directory
abbrev pub is_directory : InodeMap → ℕ → Bool
is_directory nodes ino = is_directory_kind (kind_of nodes ino)

-- the inode stands in a directory, under a name
abbrev pub IsUnder : InodeMap → ℕ → ℕ → List ℕ → Type 0
IsUnder nodes ino dir name = site_of nodes ino ≡ Some (Under (record { 0 = dir }) name)

-- no inode stands in the inode
abbrev pub IsChildless : InodeMap → ℕ → Type 0
IsChildless nodes dir = (ino : ℕ) (name : List ℕ) → IsUnder nodes ino dir name → ⊥

-- the directory that an inode stands in
abbrev pub dir_at : Option Site → Option ℕ
dir_at None = None
dir_at (Some Root) = None
dir_at (Some Stray) = None
dir_at (Some (Under dir name)) = Some dir.0

abbrev pub parent : InodeMap → ℕ → Option ℕ
parent nodes ino = dir_at (site_of nodes ino)

-- the slot of an inode's name in the index
abbrev pub slot_at : Option Site → Option Slot
slot_at None = None
slot_at (Some Root) = None
slot_at (Some Stray) = None
slot_at (Some (Under dir name)) = Some (record { dir = dir.0; name = name })

-- a site in a directory, under a name
abbrev pub is_at : ℕ → List ℕ → Site → Bool
is_at dir name Root = false
is_at dir name Stray = false
is_at dir name (Under d n) = (d.0 == dir) && eq_by_cmp name_cmp n name

-- a site in a directory
abbrev pub is_in : ℕ → Site → Bool
is_in dir Root = false
is_in dir Stray = false
is_in dir (Under d n) = d.0 == dir

-- the first number of an inode that passes the test
abbrev pub first_where : (Node → Bool) → List (ℕ × Node) → Option ℕ
first_where test [] = None
first_where test (e ∷ es) = if test e.1 then Some e.0 else first_where test es

-- the inode that a directory has under a name
abbrev pub child : InodeMap → ℕ → List ℕ → Option ℕ
child nodes dir name = first_where (λ n. is_at dir name n.site) (map.entries nodes)

-- something lies so many steps below an inode
unfoldable pub descends : ℕ → InodeMap → ℕ → Bool
descends zero nodes ino = true
descends (suc n) nodes ino = list_any (λ e. is_in ino e.1.site && descends n nodes e.0) (map.entries nodes)

-- what is made of an inode's directory and name, where it has them
abbrev pub upward : {A : Type 0} → Option Site → A → (ℕ → List ℕ → A) → A
upward None a f = a
upward (Some Root) a f = a
upward (Some Stray) a f = a
upward (Some (Under dir name)) a f = f dir.0 name

-- the names from an inode up, at most so many
unfoldable pub names_up : ℕ → InodeMap → ℕ → List (List ℕ)
names_up zero nodes ino = []
names_up (suc n) nodes ino = upward (site_of nodes ino) [] (λ dir name. name ∷ names_up n nodes dir)

-- an inode is another, or lies at most so many steps below it
unfoldable pub lies_below : ℕ → InodeMap → ℕ → ℕ → Bool
lies_below zero nodes ino above = ino == above
lies_below (suc n) nodes ino above = (ino == above) || upward (site_of nodes ino) false (λ dir name. lies_below n nodes dir above)

-- how many names the path of an inode has: at most 32
unfoldable pub depth : InodeMap → ℕ → ℕ
depth nodes ino = length (names_up 32 nodes ino)

-- the inode is the other or lies below it
unfoldable pub is_within : InodeMap → ℕ → ℕ → Bool
is_within nodes ino above = lies_below 32 nodes ino above

-- the names from the root to an inode, by its presence
abbrev pub path_at : Presence → List (List ℕ) → Option (List (List ℕ))
path_at NoIno names = None
path_at Gone names = None
path_at Here names = Some (reverse names)

-- the names from the root to an inode, where it has a path
unfoldable pub path_of : InodeMap → ℕ → Option (List (List ℕ))
path_of nodes ino = path_at (presence nodes ino) (names_up 32 nodes ino)

-- the inode below a directory to which the names lead
abbrev pub follow : InodeMap → Option ℕ → List (List ℕ) → Option ℕ
follow nodes None names = None
follow nodes (Some ino) [] = Some ino
follow nodes (Some dir) (name ∷ names) = follow nodes (child nodes dir name) names

-- by these names, the nearest first, one comes from an inode up to another
abbrev pub Climbs : InodeMap → ℕ → List (List ℕ) → ℕ → Type 0
Climbs nodes ino [] above = ino ≡ above
Climbs nodes ino (name ∷ names) above = (dir : ℕ) × IsUnder nodes ino dir name × Climbs nodes dir names above

-- The names of an inode's attributes and of its snapshots are names that can be given.
pub record HasGoodNames (node : Node) : Type 0 where
  pub attributes : (name : List ℕ) → map.contains_key node.attributes name ≡ true → is_bad_attribute name ≡ false
  pub snapshots : (name : List ℕ) → set.contains node.snapshots name ≡ true → is_bad_name name ≡ false

-- each inode's names, of what it keeps by name, can be given
abbrev pub AllHaveGoodNames : InodeMap → Type 0
AllHaveGoodNames nodes = (ino : ℕ) (node : Node) → map.get nodes ino ≡ Some node → HasGoodNames node

-- What every tree keeps.
pub record IsTree (tree : Nodes) : Type 0 where
  -- inode 1 is the root, and a directory
  pub root : site_of tree.nodes 1 ≡ Some Root
  pub root_kind : is_directory tree.nodes 1 ≡ true
  pub one_root : (ino : ℕ) → site_of tree.nodes ino ≡ Some Root → ino ≡ 1
  -- each parent is a directory, and no stray
  pub parents : (ino dir : ℕ) (name : List ℕ) → IsUnder tree.nodes ino dir name → (is_directory tree.nodes dir ≡ true) × (presence tree.nodes dir ≡ Here)
  -- siblings have different names
  pub siblings : (ino other dir : ℕ) (name : List ℕ) → IsUnder tree.nodes ino dir name → IsUnder tree.nodes other dir name → ino ≡ other
  -- names are names that can be given
  pub names : (ino dir : ℕ) (name : List ℕ) → IsUnder tree.nodes ino dir name → is_bad_name name ≡ false
  -- so are those of attributes and of snapshots
  pub inner_names : AllHaveGoodNames tree.nodes
  -- the root is reached in at most 32 steps
  pub to_root : (ino : ℕ) → presence tree.nodes ino ≡ Here → (up : List (List ℕ)) × (length up ≤ 32) × Climbs tree.nodes ino up 1
  -- no inode has a number above the last
  pub given : (ino : ℕ) → tree.last < ino → map.get tree.nodes ino ≡ None

-- no name of the index stands in anything but a directory
abbrev pub StandInDirectories : InodeMap → NameIndex → Type 0
StandInDirectories nodes index = (ino : ℕ) → is_directory nodes ino ≡ false → names_in ino index ≡ []

-- The index has each name of the tree, and no other.
pub record IsIndexed (nodes : InodeMap) (index : NameIndex) : Type 0 where
  pub taken : (ino dir : ℕ) (name : List ℕ) → IsUnder nodes ino dir name → map.get index (record { dir = dir; name = name }) ≡ Some ino
  pub real : (ino dir : ℕ) (name : List ℕ) → map.get index (record { dir = dir; name = name }) ≡ Some ino → IsUnder nodes ino dir name
