-- The locks and the queue as they are kept: with a count beside each lock of how many clients its gather waits for.
pub use Rattle.lockmachine.specs.Held.{has_outside, holders_outside}
pub use Rattle.lockmachine.specs.Lock.{LockId}
use Rattle.std.specs.Prelude.{◌≡◌, ◌==◌, ◌-◌, ◌&&◌, ℕ, Bool, false, not, Option, Some, None, if◌then◌else◌}
use Rattle.std.specs.FinMap as map
use Rattle.std.specs.Option.{option_map_or}
use Rattle.capbits.specs.declared.cap.Part.{Part}
use Rattle.capbits.specs.Caps.{Caps}
use Rattle.capbits.specs.Maps.{change_at}
use Rattle.locktable.specs.declared.states.LockState.{LockState}
use Rattle.locktable.specs.declared.states.LockState.TheVariants.{Gather, Stable}
use Rattle.captable.specs.Table.{Table}
use Rattle.captable.specs.declared.entry.EntryRow.{EntryRow}
use Rattle.lockmachine.specs.Lock.{ends_by_count}
use Rattle.locktable.specs.GatherCounts.{count_in, no_counts, one_less_in, with_count_in}
use Rattle.lockmachine.specs.Inodes.{CountMap}
use Rattle.lockmachine.specs.Locks as words
use Rattle.lockmachine.specs.Locks.{LockMap, lock_at}

-- the locks with the queue, and the counts
pub record CountedLocks : Type 0 where
  pub locks : LockMap
  pub counts : CountMap

-- nothing is locked, and nothing counted
abbrev pub no_locks : CountedLocks
no_locks = record { locks = words.no_locks; counts = map.empty }

-- ---- the count of a lock

-- 0 where the inode has no locks
abbrev pub count_at : CountMap → ℕ → Part → ℕ
count_at counts ino part = option_map_or (count_in part) (map.get counts ino) 0

abbrev pub count_of : CountedLocks → LockId → ℕ
count_of l at = count_at l.counts at.0 at.1

-- the lock is in a gather, and its count is 0
abbrev pub ends_by : CountedLocks → LockId → Bool
ends_by l at = ends_by_count (count_of l at) (lock_at l.locks at.0 at.1)

-- ---- changes

abbrev pub with_count : CountedLocks → ℕ → Part → ℕ → CountedLocks
with_count l ino part n = record l { counts = change_at (with_count_in part n) l.counts ino }

abbrev pub with_one_less : CountedLocks → ℕ → Part → CountedLocks
with_one_less l ino part = record l { counts = change_at (one_less_in part) l.counts ino }

abbrev pub with_ino : CountedLocks → ℕ → CountedLocks
with_ino l ino = record { locks = words.with_ino l.locks ino; counts = map.insert l.counts ino no_counts }

abbrev pub without_ino : CountedLocks → ℕ → CountedLocks
without_ino l ino = record { locks = words.without_ino l.locks ino; counts = map.remove l.counts ino }

-- ---- what a client gives up

-- the lock is in a gather that waits for the client of the entry, and will not once these caps alone are left to it
abbrev pub waits_no_longer : Part → EntryRow → Caps → LockState → Bool
waits_no_longer part row left (Stable state) = false
waits_no_longer part row left (Gather from to) =
    has_outside part to row && not (has_outside part to (record row { entry = record row.entry { held = left } }))

-- by how much its count falls then: by one, or not at all
abbrev pub given_up : EntryRow → Caps → LockId → Option LockState → ℕ
given_up row left at None = 0
given_up row left at (Some lock) = if (at.0 == row.holder.ino.0) && waits_no_longer at.1 row left lock then 1 else 0

-- ---- when they are right

-- the count of a gather is how many clients have a cap of the part that the row of its target does not allow
abbrev pub IsCounted : Table → LockId → ℕ → Option LockState → Type 0
IsCounted table at n None = Unit {0}
IsCounted table at n (Some (Stable state)) = Unit {0}
IsCounted table at n (Some (Gather from to)) = n ≡ holders_outside table (record { 0 = at.0 }) at.1 to

-- so it is of each lock of an inode
abbrev pub AreCountedAt : Table → CountedLocks → ℕ → Type 0
AreCountedAt table l ino = (part : Part) → IsCounted table (ino, part) (count_of l (ino, part)) (lock_at l.locks ino part)

-- and of each lock
abbrev pub AreCounted : Table → CountedLocks → Type 0
AreCounted table l = (ino : ℕ) → AreCountedAt table l ino
