-- What leaves alone all that entries, requests and locks depend on.
use Rattle.std.specs.Option.{option_map}
use Rattle.std.specs.Prelude.{◌≡◌, ℕ, IsTrue, IsFalse, All}
use Rattle.std.specs.FinMap as map
use Rattle.inotree.specs.Tree.{Nodes, presence}
use Rattle.inotree.specs.declared.node.Presence.TheVariants.{Gone}
use Rattle.sessiontab.specs.Calls.{has_session}
use Rattle.sessiontab.specs.Table.{SessionTable}
use Rattle.lockmachine.specs.Inodes.{StateMap, in_sync}
use Rattle.lockmachine.specs.Policy.{permitted}
use Rattle.lockmachine.specs.Scene.{Scene}
use Rattle.lockmachine.specs.Wants.{effective_want}

-- the scene with another tree, other sessions and other locks; entries and requests are as before
abbrev pub with_parts : Scene → Nodes → SessionTable → StateMap → Scene
with_parts s tree sessions states =
    record s { tree = tree; sessions = sessions; locks = record s.locks { states = states } }

-- this tree, these sessions and these locks leave alone all that the scene's entries and requests depend on
pub record SparesEntries (s : Scene) (tree : Nodes) (sessions : SessionTable) (states : StateMap) : Type 0 where
  -- who has a session keeps one, and an inode that is there stays, with its locks as they are
  pub connected : (client : ℕ) → IsTrue (has_session s.sessions client) → IsTrue (has_session sessions client)
  pub there : (ino : ℕ) → IsTrue (map.contains_key s.tree.nodes ino) → IsTrue (map.contains_key tree.nodes ino)
  pub locks : (ino : ℕ) → IsTrue (map.contains_key s.tree.nodes ino) → map.get states ino ≡ map.get s.locks.states ino
  -- a new inode begins with its locks in SYNC
  pub new_locks : (ino : ℕ) → IsFalse (map.contains_key s.tree.nodes ino) →
      map.get states ino ≡ option_map (λ node. in_sync) (map.get tree.nodes ino)
  -- no inode becomes a stray
  pub strays : (ino : ℕ) → presence tree.nodes ino ≡ Gone → presence s.tree.nodes ino ≡ Gone
  -- of each entry the same is permitted, and the same want counts
  pub permits : All (λ row. permitted s.fs tree sessions row.holder ≡ permitted s.fs s.tree s.sessions row.holder) s.table.rows
  pub wants : All (λ row. effective_want s.fs tree sessions row ≡ effective_want s.fs s.tree s.sessions row) s.table.rows
