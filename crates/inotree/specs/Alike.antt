-- When two trees are alike in what policy reads of an inode.
use Rattle.std.specs.Prelude.{◌≡◌, ℕ, Option}
use Rattle.std.specs.Option.{option_map}
use Rattle.std.specs.FinMap as map
use Rattle.capgrant.specs.declared.access.Attr.{Attr}
use Rattle.inotree.specs.Inodes.{InodeMap}
use Rattle.inotree.specs.Tree.{Nodes, path_of}

-- the owner, the group and the mode of an inode, if there is one
abbrev pub attr_of : InodeMap → ℕ → Option Attr
attr_of nodes ino = option_map (λ n. n.attr) (map.get nodes ino)

-- the inode has the same path in both, and the same owner, group and mode
pub record IsAlike (old new : Nodes) (ino : ℕ) : Type 0 where
  pub path : path_of new.nodes ino ≡ path_of old.nodes ino
  pub attr : attr_of new.nodes ino ≡ attr_of old.nodes ino
