-- The inodes by number, and the changes of one inode.
use Rattle.std.specs.Prelude.{List, ℕ}
use Rattle.std.specs.Coded.{Coded, coded_ℕ}
use Rattle.std.specs.Ordering.{nat_cmp}
use Rattle.std.specs.FinMap as map
use Rattle.std.specs.FinMap.{FinMap}
use Rattle.std.specs.FinSet as set
use Rattle.capgrant.specs.declared.access.Attr.{Attr}
use Rattle.inotree.specs.declared.node.Node.{Node}
use Rattle.inotree.specs.declared.node.Site.{Site}
use Rattle.inotree.specs.declared.node.Setting.{Setting}
use Rattle.inotree.specs.declared.node.Setting.TheVariants.{Gid, Mode, Size, Time, Uid}
use Rattle.inotree.specs.contracts.node.Node as node

-- the inodes by their numbers
abbrev pub InodeMap : Type 0
InodeMap = FinMap nat_cmp Node

-- a map is stored as its entries
abbrev pub inode_map_code : Coded InodeMap
inode_map_code = map.code coded_ℕ node.the_row.coded

-- the inode with this value in the field that the setting names
abbrev pub with_setting : Setting → Node → Node
with_setting (Mode mode) n = record n { attr = record n.attr { mode = mode } }
with_setting (Uid uid) n = record n { attr = record n.attr { uid = uid } }
with_setting (Gid gid) n = record n { attr = record n.attr { gid = gid } }
with_setting (Size size) n = record n { size = size }
with_setting (Time time) n = record n { time = time }

-- the inode with this owner, group and mode
abbrev pub with_attr : Attr → Node → Node
with_attr attr n = record n { attr = attr }

-- the inode at another site
abbrev pub with_site : Site → Node → Node
with_site site n = record n { site = site }

-- the inode with this attribute
abbrev pub with_attribute : List ℕ → List ℕ → Node → Node
with_attribute name value n = record n { attributes = map.insert n.attributes name value }

-- the inode without the attribute
abbrev pub without_attribute : List ℕ → Node → Node
without_attribute name n = record n { attributes = map.remove n.attributes name }

-- the inode with this snapshot name
abbrev pub with_snapshot : List ℕ → Node → Node
with_snapshot name n = record n { snapshots = set.insert n.snapshots name }

-- the inode without the snapshot name
abbrev pub without_snapshot : List ℕ → Node → Node
without_snapshot name n = record n { snapshots = set.remove n.snapshots name }
