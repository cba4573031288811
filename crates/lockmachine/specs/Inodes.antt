-- The locks of each inode.
use Rattle.std.specs.Prelude.{◌≡◌, ℕ, Bool, true, false, ◌||◌, is_some}
use Rattle.std.specs.Prelude.{map as each}
use Rattle.std.specs.Ordering.{nat_cmp}
use Rattle.std.specs.FinMap as map
use Rattle.std.specs.FinMap.{FinMap}
use Rattle.capbits.specs.declared.cap.Part.{Part}
use Rattle.capbits.specs.declared.cap.Part.TheVariants.{A, F, L, X}
use Rattle.locktable.specs.declared.states.StableState.TheVariants.{Sync}
use Rattle.locktable.specs.declared.states.LockState.{LockState}
use Rattle.locktable.specs.declared.states.LockState.TheVariants.{Gather, Stable}
use Rattle.locktable.specs.declared.counts.Counts.{Counts}
use Rattle.lockmachine.specs.declared.states.InodeLocks.{InodeLocks}

-- the locks of each inode, by its number
abbrev pub StateMap : Type 0
StateMap = FinMap nat_cmp InodeLocks

-- the lock of a part
abbrev pub lock_in : Part → InodeLocks → LockState
lock_in A locks = locks.auth
lock_in L locks = locks.link
lock_in X locks = locks.xattr
lock_in F locks = locks.file

abbrev pub with_lock_in : Part → LockState → InodeLocks → InodeLocks
with_lock_in A state locks = record locks { auth = state }
with_lock_in L state locks = record locks { link = state }
with_lock_in X state locks = record locks { xattr = state }
with_lock_in F state locks = record locks { file = state }

-- the locks of a new inode
abbrev pub in_sync : InodeLocks
in_sync = record { auth = Stable Sync; link = Stable Sync; xattr = Stable Sync; file = Stable Sync }

-- a lock is in a gather
abbrev pub is_gather : LockState → Bool
is_gather (Stable state) = false
is_gather (Gather from to) = true

-- one of the four is
abbrev pub is_gathering : InodeLocks → Bool
is_gathering locks = is_gather locks.auth || (is_gather locks.link || (is_gather locks.xattr || is_gather locks.file))

-- ---- how many clients their gathers wait for

-- of each inode that has locks
abbrev pub CountMap : Type 0
CountMap = FinMap nat_cmp Counts

-- the locks of each inode, and beside them these counts
pub record CountedStates : Type 0 where
  pub states : StateMap
  pub counts : CountMap

-- an inode has counts where it has locks
abbrev pub HaveCounts : StateMap → CountMap → Type 0
HaveCounts states counts = (ino : ℕ) → is_some (map.get counts ino) ≡ is_some (map.get states ino)

-- what f makes of each value
abbrev pub each_value : {X Y : Type 0} → (X → Y) → FinMap nat_cmp X → FinMap nat_cmp Y
each_value f m = map.from_sorted (each (λ e. (e.0, f e.1)) (map.entries m))
