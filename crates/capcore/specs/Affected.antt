-- Events that are about one inode or about many, and how their steps end.
use Rattle.std.specs.Prelude.{◌≡◌, ◌≤◌, ℕ, Bool, true, false, not, ◌||◌, List, Option, Some, None, Contains, IsTrue, All, if◌then◌else◌}
use Rattle.std.specs.FinMap as map
use Rattle.std.specs.Option.{option_map_or}
use Rattle.capbits.specs.Caps.{Caps, has}
use Rattle.capbits.specs.Sets.{meet}
use Rattle.capbits.specs.declared.cap.Cap.TheVariants.{P}
use Rattle.capbits.specs.declared.cap.Part.{Part}
use Rattle.capbits.specs.declared.ids.ClientId.{ClientId}
use Rattle.inotree.specs.Alike.{IsAlike}
use Rattle.inotree.specs.Calls.{forgotten}
use Rattle.inotree.specs.Tree.{presence}
use Rattle.captable.specs.Calls.{entries_on}
use Rattle.captable.specs.Many.{changed_where}
use Rattle.captable.specs.Table.{Table, holder}
use Rattle.captable.specs.declared.entry.Entry.{Entry}
use Rattle.captable.specs.declared.entry.EntryRow.{EntryRow}
use Rattle.captable.specs.declared.entry.Holder.{Holder}
use Rattle.sessiontab.specs.Calls.{has_session}
use Rattle.capstep.specs.Clients.{session_change}
use Rattle.capstep.specs.declared.event.Event.{Event}
use Rattle.capstep.specs.Finish.{is_in_use, issuable, issue_row}
use Rattle.capstep.specs.Settle.{Made, Settles}
use Rattle.capstep.specs.State.{State}
use Rattle.step_acts.specs.Finishing.{numbered_as}
use Rattle.lockmachine.specs.Elsewhere.{IsSameBut, IsSameOutside}
use Rattle.lockmachine.specs.Locks.{lock_at, without_ino}
use Rattle.lockmachine.specs.Requests.{first_for}
use Rattle.lockmachine.specs.Rows.{IsInRow}
use Rattle.lockmachine.specs.Scene.{Scene, pending_of}
use Rattle.lockmachine.specs.Cursors.{WaitAt}
use Rattle.lockmachine.specs.Wants.{effective_want}
use Rattle.lockmachine.specs.declared.request.Operation.{Operation}
use Rattle.lockmachine.specs.declared.request.Operation.TheVariants.{Alter, Get, Rename, Rmdir, Unlink}

-- what an event is about
pub data Scope : Type 0 where
  -- no entry and no session that is there: a new session, an unblocked client, a look-up, a new inode, or a snapshot
  Alone : Scope
  -- whose session it ends or marks, or whose grants it replaces
  OfClient : ClientId → Scope
  -- the client and the inode, where it is about the client's entry there
  OnEntry : Holder → Scope
  -- and its operation too, where that may wait for a lock of the inode
  Waiting : Holder → Operation → Scope
  -- it is answered with a list: of messages, or of who is asked to release
  Listing : Scope

abbrev pub scope : Event → Scope
scope (Event.Recall count) = Listing
scope (Event.Open client ino mode) = OnEntry (holder client ino)
scope (Event.Want client ino caps) = OnEntry (holder client ino)
scope (Event.Ack client ino seq) = OnEntry (holder client ino)
scope (Event.Release client ino caps) = OnEntry (holder client ino)
scope (Event.Get client ino part) = Waiting (holder client ino) (Get part)
scope (Event.Alter client ino change) = Waiting (holder client ino) (Alter change)
scope (Event.Unlink client ino) = Waiting (holder client ino) Unlink
scope (Event.Rmdir client ino) = Waiting (holder client ino) Rmdir
scope (Event.Rename client ino dir name) = Waiting (holder client ino) (Rename dir name)
scope (Event.Flush client ino change) = OnEntry (holder client ino)
scope (Event.Poll client max) = Listing
scope e = option_map_or (λ of. OfClient of.0) (session_change e) Alone

abbrev pub affected_in : Scope → Option Holder
affected_in (OnEntry k) = Some k
affected_in (Waiting k operation) = Some k
affected_in about = None

-- the client and the inode of an event that is about an entry, or whose operation may wait for a lock
abbrev pub affected_by : Event → Option Holder
affected_by e = affected_in (scope e)

abbrev pub session_changed_in : Scope → Option ClientId
session_changed_in (OfClient client) = Some client
session_changed_in about = None

-- whose session an event ends or marks, or whose grants it replaces
abbrev pub session_changed_by : Event → Option ClientId
session_changed_by e = session_changed_in (scope e)

abbrev pub operation_in : Scope → Option (Holder × Operation)
operation_in (Waiting k operation) = Some (k, operation)
operation_in about = None

-- of an event whose operation may wait for a lock: the client and the inode, and the operation
abbrev pub operation_by : Event → Option (Holder × Operation)
operation_by e = operation_in (scope e)

abbrev pub lists_in : Scope → Bool
lists_in Listing = true
lists_in about = false

-- the event is answered with a list: of messages, or of who is asked to release
abbrev pub is_listing : Event → Bool
is_listing e = lists_in (scope e)

-- ---- what they leave

-- an entry on the inode, as the event leaves it: all that every state keeps of one, but that what is due need not be held yet; the
-- pin, where it is not held, is due
pub record IsAffectedEntry (s : Scene) (row : EntryRow) : Type 0 where
  pub of_session : IsTrue (has_session s.sessions row.holder.client.0)
  pub on_inode : IsTrue (map.contains_key s.tree.nodes row.holder.ino.0)
  pub wants_pin : IsTrue (has row.entry.want P)
  pub pin : IsTrue (has row.entry.held P || has (effective_want s.fs s.tree s.sessions row) P)
  pub in_row : (part : Part) → IsInRow s row part
  pub told : row.entry.told_seq ≤ row.entry.seq
  pub revoked : row.entry.revoke_seq ≤ row.entry.seq

-- right after the event the state differs from the old one at these inodes alone: in their entries, in who waits for their locks,
-- in what they are, in the sessions of clients that have no entry on another, and in what clients are still to be told
pub record Affects (from : ℕ → Bool) (old affected : State) : Type 0 where
  pub same : IsSameOutside from old.scene affected.scene
  -- no lock has moved yet
  pub states : affected.scene.locks.states ≡ old.scene.locks.states
  -- the same inodes are there, each with its locks and no others
  pub exist : (other : ℕ) → map.contains_key affected.scene.tree.nodes other ≡ map.contains_key old.scene.tree.nodes other
  pub locked : (other : ℕ) → map.contains_key affected.scene.locks.states other ≡ map.contains_key affected.scene.tree.nodes other
  -- who waits or is still to be told has a session, and who waits at one of these, waits for a lock that is there
  pub waiting : All (λ q. IsTrue (has_session affected.scene.sessions q.client.0)) affected.scene.locks.queue
  pub messages : All (λ m. IsTrue (has_session affected.scene.sessions m.client.0)) affected.messages
  pub at_lock : (ino : ℕ) (part : Part) → from ino ≡ true → lock_at affected.scene.locks ino part ≡ None →
      first_for affected.scene.locks.queue ino part ≡ None
  pub each : (row : EntryRow) → Contains affected.scene.table.rows row → from row.holder.ino.0 ≡ true → IsAffectedEntry affected.scene row
  -- where an entry has not its pin yet, all who wait are held up, so that nobody is served before it has
  pub calm : (row : EntryRow) → Contains affected.scene.table.rows row → has row.entry.held P ≡ false → WaitAt (λ ino. false) affected.scene

-- the event is about one inode: it leaves sessions and messages, and leads to this scene
pub record AffectsOne (ino : ℕ) (old : State) (first : Scene) : Type 0 where
  pub same : IsSameBut ino old.scene first
  pub states : first.locks.states ≡ old.scene.locks.states
  pub exist : (other : ℕ) → map.contains_key first.tree.nodes other ≡ map.contains_key old.scene.tree.nodes other
  pub locked : (other : ℕ) → map.contains_key first.locks.states other ≡ map.contains_key first.tree.nodes other
  pub waiting : All (λ q. IsTrue (has_session first.sessions q.client.0)) first.locks.queue
  pub at_lock : (part : Part) → lock_at first.locks ino part ≡ None → first_for first.locks.queue ino part ≡ None
  pub each : All (IsAffectedEntry first) (entries_on first.table (record { 0 = ino }))
  pub calm : (row : EntryRow) → Contains first.table.rows row → has row.entry.held P ≡ false → WaitAt (λ ino. false) first

-- ---- how their steps end

-- The inodes that a step affects are those of its event and, where some were moved, those at or below them that somebody has an
-- entry on.

-- off these inodes the locks are the same in both scenes, so is where inodes stand, and so is of each that somebody has an entry
-- on its path, its owner, its group and its mode. Entries and sessions are as they were
pub record IsSameOff (at : ℕ → Bool) (old new : Scene) : Type 0 where
  pub fs : new.fs ≡ old.fs
  pub sessions : new.sessions ≡ old.sessions
  pub table : new.table ≡ old.table
  pub locks : (other : ℕ) (part : Part) → at other ≡ false → lock_at new.locks other part ≡ lock_at old.locks other part
  pub presences : (other : ℕ) → at other ≡ false → presence new.tree.nodes other ≡ presence old.tree.nodes other
  pub alike : (row : EntryRow) → Contains old.table.rows row → at row.holder.ino.0 ≡ false → IsAlike old.tree new.tree row.holder.ino.0

-- by these moves the locks have settled, and nothing has changed but at these inodes, among which are those of the event
pub record SettlesAt (at from : ℕ → Bool) (moves : List Made) (first settled : Scene) : Type 0 where
  pub settles : Settles first moves settled
  pub among : (ino : ℕ) → from ino ≡ true → at ino ≡ true
  pub same : IsSameOff at first settled

-- what was known of these entries when the event came, so far as they still hold it
abbrev pub Knows : (Holder → Caps) → Scene → Table → Type 0
Knows known old table = (row : EntryRow) → Contains table.rows row → meet (known row.holder) row.entry.held ≡ pending_of old row

-- what the entry's client is to know of at the end
abbrev pub pending_then : Scene → EntryRow → Caps
pending_then settled row = pending_of settled (issue_row settled row)

-- the entry at the end: it gains what is due, and has a new number if its client is to know of another set than was known when
-- the event came, so far as it still held that right after the event
abbrev pub finished_entry : (Holder → Caps) → Scene → EntryRow → Entry
finished_entry known settled row = numbered_as (known row.holder) (pending_then settled row) (issuable settled row) row

-- the inode goes with its locks, if it is a stray that nobody has an entry on
abbrev pub forget_at : ℕ → Scene → Scene
forget_at ino s = if is_in_use s ino then s else record s { tree = forgotten s.tree ino; locks = without_ino s.locks ino }

-- the inode is none of these, or it stays
abbrev pub stays : (ℕ → Bool) → Scene → ℕ → Bool
stays at s ino = not (at ino) || is_in_use s ino

-- so goes each of these, all at once
abbrev pub forget_among : (ℕ → Bool) → Scene → Scene
forget_among at s = record s {
  tree = record s.tree { nodes = map.retain_keys s.tree.nodes (stays at s) };
  locks = record s.locks { states = map.retain_keys s.locks.states (stays at s) };
}

-- the end of the step, at these inodes alone
abbrev pub finished_at : (ℕ → Bool) → (Holder → Caps) → Scene → Scene
finished_at at known settled =
    forget_among at (record settled { table = changed_where (λ row. at row.holder.ino.0) (finished_entry known settled) settled.table })
