-- When two scenes are the same but at one inode or at some, and when they are the same at one.
use Rattle.std.specs.Prelude.{◌≡◌, ◌≢◌, ℕ, Bool, false, Contains}
use Rattle.std.specs.FinMap as map
use Rattle.capbits.specs.declared.cap.Part.{Part}
use Rattle.capbits.specs.declared.ids.Ino.{Ino}
use Rattle.inotree.specs.Tree.{presence}
use Rattle.inotree.specs.Alike.{IsAlike}
use Rattle.captable.specs.declared.entry.EntryRow.{EntryRow}
use Rattle.captable.specs.Calls.{entries_on}
use Rattle.lockmachine.specs.Requests.{first_for}
use Rattle.lockmachine.specs.Locks.{lock_at}
use Rattle.lockmachine.specs.Scene.{Scene}

-- of every other inode the entries, the locks and who waits first for each are as they were, and so are its presence, its path, its
-- owner, its group and its mode; sessions are as they were
pub record IsSameBut (ino : ℕ) (old new : Scene) : Type 0 where
  pub fs : new.fs ≡ old.fs
  pub sessions : new.sessions ≡ old.sessions
  pub entries : (other : Ino) → other.0 ≢ ino → entries_on new.table other ≡ entries_on old.table other
  pub locks : (other : ℕ) (part : Part) → other ≢ ino → lock_at new.locks other part ≡ lock_at old.locks other part
  pub waiting : (other : ℕ) (part : Part) → other ≢ ino → first_for new.locks.queue other part ≡ first_for old.locks.queue other part
  pub presences : (other : ℕ) → other ≢ ino → presence new.tree.nodes other ≡ presence old.tree.nodes other
  pub alike : (other : ℕ) → other ≢ ino → IsAlike old.tree new.tree other

-- of every inode but these the entries, the locks and who waits first for each are as they were, and so are its presence, its path,
-- its owner, its group and its mode; and so is the session of each client that has an entry on one of the others
pub record IsSameOutside (at : ℕ → Bool) (old new : Scene) : Type 0 where
  pub fs : new.fs ≡ old.fs
  pub sessions : (row : EntryRow) → Contains old.table.rows row → at row.holder.ino.0 ≡ false →
      map.get new.sessions.sessions row.holder.client.0 ≡ map.get old.sessions.sessions row.holder.client.0
  pub entries : (other : Ino) → at other.0 ≡ false → entries_on new.table other ≡ entries_on old.table other
  pub locks : (other : ℕ) (part : Part) → at other ≡ false → lock_at new.locks other part ≡ lock_at old.locks other part
  pub waiting : (other : ℕ) (part : Part) → at other ≡ false → first_for new.locks.queue other part ≡ first_for old.locks.queue other part
  pub presences : (other : ℕ) → at other ≡ false → presence new.tree.nodes other ≡ presence old.tree.nodes other
  pub alike : (other : ℕ) → at other ≡ false → IsAlike old.tree new.tree other

-- of one inode the entries, the locks and who waits first for each are as they were, and so are its path, its owner, its group
-- and its mode; sessions are as they were
pub record IsSameAt (ino : ℕ) (old new : Scene) : Type 0 where
  pub fs : new.fs ≡ old.fs
  pub sessions : new.sessions ≡ old.sessions
  pub entries : entries_on new.table (record { 0 = ino }) ≡ entries_on old.table (record { 0 = ino })
  pub locks : (part : Part) → lock_at new.locks ino part ≡ lock_at old.locks ino part
  pub waiting : (part : Part) → first_for new.locks.queue ino part ≡ first_for old.locks.queue ino part
  pub alike : IsAlike old.tree new.tree ino
