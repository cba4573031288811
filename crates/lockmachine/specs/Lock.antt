-- When a lock's gather may end, and when a stable lock stays.
use Rattle.std.specs.Prelude.{ℕ, Bool, true, false, not, ◌==◌, Option, Some, None}
use Rattle.capbits.specs.declared.cap.Part.{Part}
use Rattle.capbits.specs.declared.ids.Ino.{Ino}
use Rattle.locktable.specs.declared.states.StableState.{StableState}
use Rattle.locktable.specs.declared.states.StableState.TheVariants.{Excl, Lock, Mix, Sync}
use Rattle.locktable.specs.declared.states.LockState.{LockState}
use Rattle.locktable.specs.declared.states.LockState.TheVariants.{Gather, Stable}
use Rattle.captable.specs.Table.{Table}
use Rattle.lockmachine.specs.Held.{is_held_outside}

abbrev pub same_state : StableState → StableState → Bool
same_state Sync Sync = true
same_state Lock Lock = true
same_state Mix Mix = true
same_state (Excl a) (Excl b) = a.0 == b.0
same_state a b = false

-- a lock, by its inode and part
abbrev pub LockId : Type 0
LockId = ℕ × Part

-- the lock, where there is one, is in a gather that waits for nobody, if this is how many it waits for
abbrev pub ends_by_count : ℕ → Option LockState → Bool
ends_by_count n None = false
ends_by_count n (Some (Stable state)) = false
ends_by_count n (Some (Gather from to)) = n == 0

-- the lock, where there is one, is in a gather that is not open
abbrev pub may_end_in : Table → LockId → Option LockState → Bool
may_end_in table at None = false
may_end_in table at (Some (Stable state)) = false
may_end_in table at (Some (Gather from to)) = not (is_held_outside table (record { 0 = at.0 }) at.1 to)
