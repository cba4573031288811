-- What each call on the tree changes.
use Rattle.std.specs.Prelude.{ℕ, ◌+◌, List}
use Rattle.std.specs.FinMap as map
use Rattle.std.specs.FinSet as set
use Rattle.capgrant.specs.declared.access.Attr.{Attr}
use Rattle.inotree.specs.declared.node.Node.{Node}
use Rattle.inotree.specs.declared.node.Kind.{Kind}
use Rattle.inotree.specs.declared.node.Kind.TheVariants.{Directory}
use Rattle.inotree.specs.declared.node.Site.TheVariants.{Root, Stray, Under}
use Rattle.capbits.specs.Maps.{change_at}
use Rattle.inotree.specs.Inodes.{with_site}
use Rattle.inotree.specs.Tree.{Nodes}

-- a root alone
abbrev pub first_tree : Attr → Nodes
first_tree attr = record {
  nodes = map.insert map.empty 1 (record { kind = Directory; site = Root; attr = attr; size = 0; time = 0; attributes = map.empty; snapshots = set.empty });
  last = 1;
}

-- a new inode in a directory, under a name
abbrev pub new_node : Kind → ℕ → List ℕ → Attr → Node
new_node kind dir name attr = record { kind = kind; site = Under (record { 0 = dir }) name; attr = attr; size = 0; time = 0; attributes = map.empty; snapshots = set.empty }

-- the tree with a new inode, which has the next number
abbrev pub with_new : Nodes → Kind → ℕ → List ℕ → Attr → Nodes
with_new tree kind dir name attr = record { nodes = map.insert tree.nodes (tree.last + 1) (new_node kind dir name attr); last = tree.last + 1 }

-- the tree with one inode changed
abbrev pub changed : (Node → Node) → Nodes → ℕ → Nodes
changed f tree ino = record tree { nodes = change_at f tree.nodes ino }

-- the tree with the inode as a stray
abbrev pub unlinked : Nodes → ℕ → Nodes
unlinked = changed (with_site Stray)

-- the tree with the inode at a new site
abbrev pub moved : Nodes → ℕ → ℕ → List ℕ → Nodes
moved tree ino dir name = changed (with_site (Under (record { 0 = dir }) name)) tree ino

-- the tree without the inode
abbrev pub forgotten : Nodes → ℕ → Nodes
forgotten tree ino = record tree { nodes = map.remove tree.nodes ino }
