-- What a step notes: how it changes what readers see.
use Rattle.std.specs.Prelude.{ℕ, Bool, true, false, ◌+◌, ◌≤◌, List, length}
use Rattle.std.specs.FinSet as set
use Rattle.inotree.specs.InoSets.{InoSet}
use Rattle.inotree.specs.Tree.{Nodes}
use Rattle.inotree.specs.declared.node.Setting.{Setting}
use Rattle.inotree.specs.declared.node.Setting.TheVariants.{Gid, Mode, Uid}
use Rattle.sessiontab.specs.Connected.{SessionMap}
use Rattle.policy_view.specs.Changes.{AreChanges}
use Rattle.policy_view.specs.declared.change.ViewChange.{ViewChange}
use Rattle.policy_view.specs.declared.view.View.{View}
use Rattle.lockmachine.specs.Locks.{LockMap}
use Rattle.lockmachine.specs.declared.request.Change.{Change}
use Rattle.lockmachine.specs.declared.request.Change.TheVariants.{Set}

-- what readers see of a tree and of sessions
abbrev pub view : Nodes → SessionMap → View
view tree sessions = record { tree = tree; sessions = sessions }

-- the setting is of an owner, a group or a mode
abbrev pub is_attr : Setting → Bool
is_attr (Mode mode) = true
is_attr (Uid uid) = true
is_attr (Gid gid) = true
is_attr setting = false

-- readers see these of a change of what an inode keeps, and nothing else
abbrev pub sets_attr : Change → Bool
sets_attr (Set setting) = is_attr setting
sets_attr change = false

-- the changes that were noted, in order, and how many there is room for
pub record Noted : Type 0 where
  pub items : List ViewChange
  pub room : ℕ

-- there is a place for the change of each request that waits, and for that of each of these inodes
abbrev pub HavePlaces : Noted → LockMap → InoSet → Type 0
HavePlaces noted locks inos = length noted.items + length locks.queue + set.len inos ≤ noted.room

-- those noted since lead on from the one tree to the other, whoever is connected: if the old ones lead from a view to the one
-- tree, the new ones lead from it to the other
pub record LeadOn (old new : List ViewChange) (before after : Nodes) : Type 0 where
  pub on : (first : View) (sessions : SessionMap) → AreChanges old first (view before sessions) → AreChanges new first (view after sessions)
