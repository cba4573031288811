-- The table of the locks, by numbers.
use Rattle.std.specs.Prelude.{◌≡◌, ◌≢◌, ◌==◌, ◌⊎◌, ℕ, Option, Some, None, Result, Ok, Err, MatchResult, if◌then◌else◌}
use Rattle.std.specs.Option.{IsSome}
use Rattle.capbits.specs.declared.cap.Part.{Part}
use Rattle.capbits.specs.declared.cap.Part.TheVariants.{A, F, L, X}
use Rattle.capbits.specs.declared.ids.ClientId.{ClientId}
use Rattle.capbits.specs.Caps.{Caps, bits_of}
use Rattle.locktable.specs.declared.states.StableState.{StableState as TableState}
use Rattle.locktable.specs.declared.states.StableState.TheVariants as states
use Rattle.locktable.specs.declared.states.LockState.{LockState}
use Rattle.locktable.specs.declared.states.LockState.TheVariants.{Gather, Stable}
use Rattle.locktable.specs.declared.targets.Head.{Head}
use Rattle.locktable.specs.declared.targets.Head.TheVariants as heads
use Rattle.locktable.specs.Rows.{allowed_of}
use Rattle.locktable.specs.Targets.{target_of}
use Rattle.capffi.specs.declared.passed.StableState.{StableState}
use Rattle.capffi.specs.declared.passed.Lock.{Lock}
use Rattle.capffi.specs.declared.passed.Wants.{Wants}
use Rattle.capffi.specs.declared.trouble.Trouble.{Trouble}
use Rattle.capffi.specs.declared.trouble.Trouble.TheVariants as troubles

-- a client by its number
abbrev pub client_of : ℕ → ClientId
client_of number = record { 0 = number }

-- the part with a number
unfoldable pub part_of : ℕ → Option Part
part_of part =
    if part == 0 then Some A
    else (if part == 1 then Some L
    else (if part == 2 then Some X
    else (if part == 3 then Some F
    else None)))

-- the state of two numbers
unfoldable pub state_of : StableState → Option TableState
state_of s =
    if s.kind == 0 then Some states.Sync
    else (if s.kind == 1 then Some states.Lock
    else (if s.kind == 2 then Some states.Mix
    else (if s.kind == 3 then Some (states.Excl (client_of s.holder))
    else None)))

-- the numbers of a state
abbrev pub numbers_of : TableState → StableState
numbers_of states.Sync = record { kind = 0; holder = 0 }
numbers_of states.Lock = record { kind = 1; holder = 0 }
numbers_of states.Mix = record { kind = 2; holder = 0 }
numbers_of (states.Excl holder) = record { kind = 3; holder = holder.0 }

-- a lock at rest in a state, if that is one
abbrev pub stable_in : Option TableState → Option LockState
stable_in None = None
stable_in (Some state) = Some (Stable state)

-- a lock on its way between two states, if they are two
abbrev pub gather_between : Option TableState → Option TableState → Option LockState
gather_between None to = None
gather_between (Some from) None = None
gather_between (Some from) (Some to) = Some (Gather from to)

-- the lock of some numbers
unfoldable pub lock_of : Lock → Option LockState
lock_of l = if l.gathers == 0 then stable_in (state_of l.from) else gather_between (state_of l.from) (state_of l.to)

-- what stands first in a queue
unfoldable pub head_of : ℕ → ℕ → Option Head
head_of kind asker =
    if kind == 0 then Some heads.Empty
    else (if kind == 1 then Some heads.Change
    else (if kind == 2 then Some (heads.Read (client_of asker))
    else None))

-- what a part and a lock let a client hold, if they are a part and a lock
abbrev pub allowed_in : Option Part → Option LockState → ClientId → Result Caps Trouble
allowed_in None lock client = Err troubles.Part
allowed_in (Some part) None client = Err troubles.State
allowed_in (Some part) (Some lock) client = Ok (allowed_of part lock client)

-- the same, by numbers
abbrev pub allowed_by : ℕ → Lock → ℕ → Result Caps Trouble
allowed_by part lock client = allowed_in (part_of part) (lock_of lock) (client_of client)

-- the bits are those of the caps
abbrev pub IsCapSet : ℕ → Caps → Type 0
IsCapSet bits caps = bits_of caps ≡ bits

-- the bits are those of no caps
abbrev pub NoCapSet : ℕ → Type 0
NoCapSet bits = (caps : Caps) → bits_of caps ≢ bits

-- who the loner is, with what it wants
abbrev pub IsLoner : Wants → Option (ClientId × Caps) → Type 0
IsLoner w None = w.loners ≡ 0
IsLoner w (Some loner) = (w.loners ≢ 0) × (loner.0 ≡ client_of w.loner) × IsCapSet w.loner_wants loner.1

-- where the lock of a part is to go
pub record IsTarget (part : ℕ) (state : StableState) (w : Wants) (target : TableState) : Type 0 where
  pub the_part : Part
  pub the_state : TableState
  pub head : Head
  pub loner : Option (ClientId × Caps)
  pub wanted : Caps
  pub is_part : part_of part ≡ Some the_part
  pub is_state : state_of state ≡ Some the_state
  pub is_head : head_of w.head w.asker ≡ Some head
  pub is_loner : IsLoner w loner
  pub is_wanted : IsCapSet w.wanted wanted
  pub is_target : target ≡ target_of the_part the_state head loner wanted

-- the first of the numbers that names nothing is told: the part, the state, what stands first in the queue, or the bits of caps
abbrev pub IsTargetTrouble : ℕ → StableState → Wants → Trouble → Type 0
IsTargetTrouble part state w troubles.Part = part_of part ≡ None
IsTargetTrouble part state w troubles.State = IsSome (part_of part) × (state_of state ≡ None)
IsTargetTrouble part state w troubles.Head = IsSome (part_of part) × IsSome (state_of state) × (head_of w.head w.asker ≡ None)
IsTargetTrouble part state w troubles.Caps =
    IsSome (part_of part) × IsSome (state_of state) × IsSome (head_of w.head w.asker) × (((w.loners ≢ 0) × NoCapSet w.loner_wants) ⊎ NoCapSet w.wanted)
IsTargetTrouble part state w trouble = ⊥

-- the target, or why none is told
abbrev pub IsTargetOf : ℕ → StableState → Wants → Result TableState Trouble → Type 0
IsTargetOf part state w found = MatchResult found (IsTarget part state w) (IsTargetTrouble part state w)
