-- What becomes of a client's session, and what goes with it.
use Rattle.std.specs.Prelude.{◌≡◌, true, List, Contains}
use Rattle.std.specs.FinSet as set
use Rattle.capbits.specs.declared.ids.ClientId.{ClientId}
use Rattle.inotree.specs.InoSets.{InoSet}
use Rattle.inotree.specs.Tree.{Nodes}
use Rattle.captable.specs.Calls.{is_of_client}
use Rattle.captable.specs.Table.{Table}
use Rattle.captable.specs.declared.entry.EntryRow.{EntryRow}
use Rattle.sessiontab.specs.Changes.{changed_sessions, is_end}
use Rattle.sessiontab.specs.Table.{SessionTable}
use Rattle.sessiontab.specs.declared.change.SessionChange.{SessionChange}
use Rattle.capstep.specs.NotedChanges.{view}
use Rattle.capstep.specs.State.{State}
use Rattle.policy_view.specs.Changes.{AreChanges}
use Rattle.policy_view.specs.declared.change.ViewChange.{ViewChange}
use Rattle.step_acts.specs.Left.{locks_left, messages_left, table_left}
use Rattle.lockmachine.specs.Locks.{LockMap}
use Rattle.lockmachine.specs.Requests.{is_of_client as is_asked_by}
use Rattle.lockmachine.specs.declared.request.Request.{Request}

-- these changes tell readers of it, whatever the tree
pub record Notes (changes : List ViewChange) (client : ClientId) (change : SessionChange) : Type 0 where
  pub lead : (tree : Nodes) (sessions : SessionTable)
      → AreChanges changes (view tree sessions.sessions) (view tree (changed_sessions sessions client.0 change).sessions)

-- the state then
abbrev pub session_changed : State → ClientId → SessionChange → State
session_changed s client change = record {
  scene = record s.scene {
    sessions = changed_sessions s.scene.sessions client.0 change;
    table = table_left (is_end change) s.scene.table client;
    locks = locks_left (is_end change) s.scene.locks client;
  };
  messages = messages_left (is_end change) s.messages client;
}

-- ---- where the client is

-- each inode that the client has an entry on or waits for is one of these
pub record HasInodesOf (client : ClientId) (table : Table) (locks : LockMap) (inos : InoSet) : Type 0 where
  pub entries : (row : EntryRow) → Contains table.rows row → is_of_client client row ≡ true → set.contains inos row.holder.ino.0 ≡ true
  pub requests : (q : Request) → Contains locks.queue q → is_asked_by client q ≡ true → set.contains inos q.ino.0 ≡ true
