-- What a change makes of a view.
use Rattle.std.specs.Prelude.{Bool, List, false, fold, true}
use Rattle.std.specs.FinMap as map
use Rattle.inotree.specs.declared.node.Kind.{Kind}
use Rattle.inotree.specs.declared.node.Kind.TheVariants.{Directory, File}
use Rattle.inotree.specs.Inodes.{with_attr}
use Rattle.inotree.specs.Tree.{Nodes}
use Rattle.inotree.specs.Calls.{changed, forgotten, moved, new_node, unlinked}
use Rattle.sessiontab.specs.declared.session.Status.TheVariants.{Open}
use Rattle.sessiontab.specs.Connected.{SessionMap, change_session}
use Rattle.policy_view.specs.declared.change.ViewChange.{ViewChange}
use Rattle.policy_view.specs.declared.change.ViewChange.TheVariants as change
use Rattle.policy_view.specs.declared.view.View.{View}
use Rattle.policy_view.specs.Visible.{Shows}

-- what an inode is that was made
abbrev pub kind_by : Bool → Kind
kind_by true = Directory
kind_by false = File

-- the tree after a change
abbrev pub tree_by : Nodes → ViewChange → Nodes
tree_by tree (change.Born ino dir name attr is_dir) = record { nodes = map.insert tree.nodes ino.0 (new_node (kind_by is_dir) dir.0 name attr); last = ino.0 }
tree_by tree (change.Moved ino dir name) = moved tree ino.0 dir.0 name
tree_by tree (change.Removed ino) = unlinked tree ino.0
tree_by tree (change.Forgotten ino) = forgotten tree ino.0
tree_by tree (change.Settled ino attr) = changed (with_attr attr) tree ino.0
tree_by tree (change.Opened client caller grants) = tree
tree_by tree (change.Ended client) = tree
tree_by tree (change.Regranted client grants) = tree

-- who is connected after a change
abbrev pub connected_clients_by : SessionMap → ViewChange → SessionMap
connected_clients_by sessions (change.Born ino dir name attr is_dir) = sessions
connected_clients_by sessions (change.Moved ino dir name) = sessions
connected_clients_by sessions (change.Removed ino) = sessions
connected_clients_by sessions (change.Forgotten ino) = sessions
connected_clients_by sessions (change.Settled ino attr) = sessions
connected_clients_by sessions (change.Opened client caller grants) = map.insert sessions client.0 (record { status = Open; caller = caller; grants = grants })
connected_clients_by sessions (change.Ended client) = map.remove sessions client.0
connected_clients_by sessions (change.Regranted client grants) = change_session (λ session. record session { grants = grants }) sessions client.0

-- the view after a change
abbrev pub view_by : View → ViewChange → View
view_by view c = record { tree = tree_by view.tree c; sessions = connected_clients_by view.sessions c }

-- the changes, made one after the other, lead from whatever shows the old view to what shows the new one
pub record AreChanges (changes : List ViewChange) (old new : View) : Type 0 where
  pub lead : (copied : View) → Shows copied old → Shows (fold view_by copied changes) new
