-- Which move comes next, what each does to the locks, and when they are at rest.
pub use Rattle.lockmachine.specs.Held.{is_held_outside}
pub use Rattle.lockmachine.specs.Lock.{LockId, may_end_in, same_state}
use Rattle.std.specs.Prelude.{◌≡◌, ◌≤◌, ℕ, Bool, true, false, ◌&&◌, not, IsTrue, List, [], ◌∷◌, ◌++◌, Option, Some, None, Contains, get_or}
use Rattle.std.specs.Prelude.{map as each}
use Rattle.std.specs.List.{filter, flat_map}
use Rattle.std.specs.Option.{option_map_or}
use Rattle.std.specs.FinMap as map
use Rattle.capbits.specs.declared.cap.Part.{Part}
use Rattle.capbits.specs.declared.cap.Part.TheVariants.{A, F, L, X}
use Rattle.locktable.specs.declared.states.StableState.{StableState}
use Rattle.locktable.specs.declared.states.StableState.TheVariants.{Sync}
use Rattle.locktable.specs.declared.states.LockState.{LockState}
use Rattle.locktable.specs.declared.states.LockState.TheVariants.{Gather, Stable}
use Rattle.locktable.specs.declared.targets.Head.{Head}
use Rattle.locktable.specs.Targets.{is_served}
use Rattle.lockmachine.specs.declared.request.Request.{Request}
use Rattle.lockmachine.specs.declared.wants.Wants.{Wants}
use Rattle.lockmachine.specs.declared.moves.Move.{Move}
use Rattle.lockmachine.specs.declared.moves.Move.TheVariants.{Begin, End, Serve, Settled}
use Rattle.lockmachine.specs.Requests.{first_for, head_of_operation, is_numbered, part_of_operation}
use Rattle.lockmachine.specs.Locks.{LockMap, lock_at, request_at, with_lock, without_request}
use Rattle.lockmachine.specs.Scene.{Scene, target, target_by, wanted_in_all}

-- some caps are still to be acknowledged or released before the lock can be in its target
abbrev pub is_open : Scene → ℕ → Part → StableState → Bool
is_open s ino part to = is_held_outside s.table (record { 0 = ino }) part to

-- ---- which moves apply

-- the parts, in their order
abbrev pub parts : List Part
parts = A ∷ L ∷ X ∷ F ∷ []

-- the locks, by inode and then in the order A, L, X, F
abbrev pub lock_ids_of : ℕ → List LockId
lock_ids_of ino = each (λ part. (ino, part)) parts

abbrev pub lock_ids : LockMap → List LockId
lock_ids locks = flat_map lock_ids_of (map.keys locks.states)

-- the lock is in a gather that is not open
abbrev pub may_end : Scene → LockId → Bool
may_end s at = may_end_in s.table at (lock_at s.locks at.0 at.1)

-- the lock is stable, and not at its target, by the requests that wait and by what is wanted of its inode
abbrev pub may_begin_in : List Request → Wants → LockId → Option LockState → Bool
may_begin_in queue wants at None = false
may_begin_in queue wants at (Some (Gather from to)) = false
may_begin_in queue wants at (Some (Stable state)) = not (same_state (target_by queue wants at.0 at.1 state) state)

-- and so in the scene
abbrev pub may_begin : Scene → LockId → Bool
may_begin s at = may_begin_in s.locks.queue (wanted_in_all s at.0) at (lock_at s.locks at.0 at.1)

abbrev pub is_served_in : Option LockState → Head → Bool
is_served_in None head = false
is_served_in (Some (Gather from to)) head = false
is_served_in (Some (Stable state)) head = is_served state head

-- no other request waits longer for its lock
abbrev pub is_first : List Request → Request → Bool
is_first queue q = option_map_or (is_numbered q.ticket.0) (first_for queue q.ino.0 (part_of_operation q.operation)) false

-- its lock is stable in a state that serves it
abbrev pub is_servable : LockMap → Request → Bool
is_servable locks q = is_served_in (lock_at locks q.ino.0 (part_of_operation q.operation)) (head_of_operation q.client q.operation)

-- both hold of the request
abbrev pub may_serve : LockMap → Request → Bool
may_serve locks q = is_first locks.queue q && is_servable locks q

-- of the requests that may be served, this one has the least number
pub record IsFirstServed (locks : LockMap) (q : Request) : Type 0 where
  pub waits : Contains locks.queue q
  pub may : IsTrue (may_serve locks q)
  pub least : (r : Request) → Contains locks.queue r → IsTrue (may_serve locks r) → q.ticket.0 ≤ r.ticket.0

-- ---- the first that applies

-- the state that a lock has reached, or leaves in a gather
abbrev pub present_state : Option LockState → StableState
present_state None = Sync
present_state (Some (Stable state)) = state
present_state (Some (Gather from to)) = from

-- the state that a lock has reached, or is to reach
abbrev pub coming_state : Option LockState → StableState
coming_state None = Sync
coming_state (Some (Stable state)) = state
coming_state (Some (Gather from to)) = to

-- the lock's gather ends
abbrev pub end_of : LockId → Move
end_of at = End (record { 0 = at.0 }) at.1

-- the request is served
abbrev pub serve_of : Request → Move
serve_of q = Serve q.ticket

-- a gather begins that brings the lock to its target
abbrev pub begin_of : Scene → LockId → Move
begin_of s at = Begin (record { 0 = at.0 }) at.1 (target s at.0 at.1 (present_state (lock_at s.locks at.0 at.1)))

-- the moves that apply: the gathers that may end, the requests that may be served, the locks that may begin a gather
abbrev pub applicable : Scene → List Move
applicable s =
    each end_of (filter (may_end s) (lock_ids s.locks))
    ++ each serve_of (filter (may_serve s.locks) s.locks.queue)
    ++ each (begin_of s) (filter (may_begin s) (lock_ids s.locks))

-- the first of them: the least gather that may end; else the oldest request that may be served; else the least lock that may begin
unfoldable pub first_move : Scene → Move
first_move s = get_or (applicable s) 0 Settled

-- ---- what they do

-- the lock gathers
abbrev pub begun_locks : LockMap → ℕ → Part → StableState → LockMap
begun_locks locks ino part to = with_lock locks ino part (Gather (present_state (lock_at locks ino part)) to)

-- the lock is stable in the target of its gather
abbrev pub gathered_locks : LockMap → ℕ → Part → LockMap
gathered_locks locks ino part = with_lock locks ino part (Stable (coming_state (lock_at locks ino part)))

-- the locks after a move: a request that is served waits no more
abbrev pub moved : LockMap → Move → LockMap
moved locks (Begin ino part to) = begun_locks locks ino.0 part to
moved locks (End ino part) = gathered_locks locks ino.0 part
moved locks (Serve ticket) = without_request locks ticket.0
moved locks Settled = locks

-- the request that a move hands out to be judged
abbrev pub handed : LockMap → Move → Option Request
handed locks (Begin ino part to) = None
handed locks (End ino part) = None
handed locks (Serve ticket) = request_at locks ticket.0
handed locks Settled = None

-- the scene with the locks as a move leaves them
abbrev pub with_moved : Scene → Move → Scene
with_moved s step = record s { locks = moved s.locks step }

-- ---- rest

-- the lock is stable at its target and nobody waits for it; or it gathers, and some caps are still to be
-- acknowledged or released; where there is no lock, nobody waits
abbrev pub IsLockAtRest : Scene → ℕ → Part → Option LockState → Type 0
IsLockAtRest s ino part None = first_for s.locks.queue ino part ≡ None
IsLockAtRest s ino part (Some (Stable state)) = (target s ino part state ≡ state) × (first_for s.locks.queue ino part ≡ None)
IsLockAtRest s ino part (Some (Gather from to)) = is_open s ino part to ≡ true

-- each lock is quiet
pub record IsAtRest (s : Scene) : Type 0 where
  pub each : (ino : ℕ) (part : Part) → IsLockAtRest s ino part (lock_at s.locks ino part)

-- who waits, waits for a lock that is there
abbrev pub WaitAtLocks : Scene → Type 0
WaitAtLocks s = (ino : ℕ) (part : Part) → lock_at s.locks ino part ≡ None → first_for s.locks.queue ino part ≡ None

-- each lock of an inode that is not among these is quiet
pub record IsAtRestOutside (at : ℕ → Bool) (s : Scene) : Type 0 where
  pub each_other : (other : ℕ) (part : Part) → at other ≡ false → IsLockAtRest s other part (lock_at s.locks other part)
