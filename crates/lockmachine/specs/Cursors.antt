-- Where a sweep over the inodes that a step affects has come to: a caller goes over them in the order of their numbers.
use Rattle.std.specs.Prelude.{◌≡◌, ◌≢◌, ◌<◌, ◌==◌, ℕ, Bool, true, false, IsTrue, List, Option, Some, None, Contains, if◌then◌else◌}
use Rattle.std.specs.List.{find, list_any}
use Rattle.capbits.specs.declared.cap.Part.{Part}
use Rattle.capbits.specs.declared.ids.Ticket.{Ticket}
use Rattle.locktable.specs.declared.states.StableState.{StableState}
use Rattle.locktable.specs.declared.states.LockState.TheVariants.{Gather}
use Rattle.captable.specs.Table.{Table}
use Rattle.lockmachine.specs.declared.request.Request.{Request}
use Rattle.lockmachine.specs.declared.wants.Wants.{Wants}
use Rattle.lockmachine.specs.declared.moves.QueueScope.{QueueScope}
use Rattle.lockmachine.specs.declared.moves.QueueScope.TheVariants.{Everybody, Here, Nobody}
use Rattle.lockmachine.specs.declared.moves.Move.{Move}
use Rattle.lockmachine.specs.declared.moves.Move.TheVariants.{Begin, End, Serve, Settled}
use Rattle.lockmachine.specs.Requests.{part_of_operation, waits_for}
use Rattle.lockmachine.specs.Locks.{LockMap, lock_at}
use Rattle.lockmachine.specs.Scene.{Scene, target_by, wanted_in_all}
use Rattle.lockmachine.specs.Moves.{LockId, first_move, is_open, is_servable, lock_ids, may_begin, may_begin_in, may_end, may_end_in, may_serve, present_state}

-- ---- the first move, by what a search finds

-- the lock is in a gather that is not open, by the entries of the table
abbrev pub may_end_by : Table → LockMap → LockId → Bool
may_end_by table locks at = may_end_in table at (lock_at locks at.0 at.1)

-- the lock is stable, and not at its target, by what is wanted of its inode
abbrev pub may_begin_by : LockMap → Wants → LockId → Bool
may_begin_by locks wants at = may_begin_in locks.queue wants at (lock_at locks at.0 at.1)

-- the number of a request whose lock serves it
abbrev pub served_of : LockMap → Option Request → Option Ticket
served_of locks None = None
served_of locks (Some q) = if is_servable locks q then Some q.ticket else None

-- the beginning of a gather that brings the lock to its target, where these requests wait and by what is wanted of its inode
abbrev pub beginning_by : List Request → LockMap → Wants → LockId → Move
beginning_by queue locks wants at =
    Begin (record { 0 = at.0 }) at.1 (target_by queue wants at.0 at.1 (present_state (lock_at locks at.0 at.1)))

-- the same, where all requests wait that do
abbrev pub beginning : LockMap → Wants → LockId → Move
beginning locks wants at = beginning_by locks.queue locks wants at

-- of a lock that may begin a gather, if any
abbrev pub begin_or_rest : Scene → Option LockId → Move
begin_or_rest s None = Settled
begin_or_rest s (Some at) = beginning s.locks (wanted_in_all s at.0) at

-- of a request that may be served, if any; else what begins
abbrev pub serve_or_begin : Scene → Option Request → Move
serve_or_begin s None = begin_or_rest s (find (may_begin s) (lock_ids s.locks))
serve_or_begin s (Some q) = Serve q.ticket

-- of a gather that may end, if any; else what is served or begins
abbrev pub end_or_serve : Scene → Option LockId → Move
end_or_serve s None = serve_or_begin s (find (may_serve s.locks) s.locks.queue)
end_or_serve s (Some at) = End (record { 0 = at.0 }) at.1

-- ---- where the sweep has come to

-- a sweep has come to this inode: no gather of another inode may end, and no lock of a lower inode may begin one
pub record IsCursorAt (s : Scene) (ino : ℕ) : Type 0 where
  pub ends : (other : ℕ) (part : Part) → other ≢ ino → may_end s (other, part) ≡ false
  pub begins : (other : ℕ) (part : Part) → other < ino → may_begin s (other, part) ≡ false

-- no move applies at the inode, and no request may be served
pub record IsDoneAt (s : Scene) (ino : ℕ) : Type 0 where
  pub ends : (part : Part) → may_end s (ino, part) ≡ false
  pub begins : (part : Part) → may_begin s (ino, part) ≡ false
  pub serves : (q : Request) → Contains s.locks.queue q → may_serve s.locks q ≡ false

-- no gather may end
abbrev pub NothingEnds : Scene → Type 0
NothingEnds s = (ino : ℕ) (part : Part) → may_end s (ino, part) ≡ false

-- what is next where it is an inode's turn: a move there, or a request that is served; or else nothing, there
abbrev pub IsNextAt : Scene → ℕ → Move → Type 0
IsNextAt s ino (Begin i part to) = (first_move s ≡ Begin i part to) × (i.0 ≡ ino)
IsNextAt s ino (End i part) = (first_move s ≡ End i part) × (i.0 ≡ ino)
IsNextAt s ino (Serve ticket) = first_move s ≡ Serve ticket
IsNextAt s ino Settled = IsDoneAt s ino

-- and once its locks are done: the request that is to be served, or none
abbrev pub IsServable : Scene → ℕ → Option Ticket → Type 0
IsServable s ino None = IsDoneAt s ino
IsServable s ino (Some ticket) = first_move s ≡ Serve ticket

-- ---- who waits elsewhere

-- the request waits for a lock in a gather that is open
pub record IsHeldUp (s : Scene) (q : Request) : Type 0 where
  pub from : StableState
  pub to : StableState
  pub gathers : lock_at s.locks q.ino.0 (part_of_operation q.operation) ≡ Some (Gather from to)
  pub is_held : is_open s q.ino.0 (part_of_operation q.operation) to ≡ true

-- who waits at an inode that is not among these, is held up
abbrev pub WaitAt : (ℕ → Bool) → Scene → Type 0
WaitAt at s = (q : Request) → Contains s.locks.queue q → at q.ino.0 ≡ false → IsHeldUp s q

-- nobody who waits at another inode may be served
abbrev pub NobodyElsewhere : LockMap → ℕ → Type 0
NobodyElsewhere locks ino = (q : Request) → Contains locks.queue q → (q.ino.0 == ino) ≡ false → may_serve locks q ≡ false

-- a request that may be served is one of those in the scope
abbrev pub Suffices : QueueScope → LockMap → ℕ → Type 0
Suffices Everybody locks ino = IsTrue true
Suffices Here locks ino = NobodyElsewhere locks ino
Suffices Nobody locks ino = NobodyElsewhere locks ino × (list_any (waits_for ino) locks.queue ≡ false)

-- one may wait at the inode
abbrev pub may_wait : QueueScope → Bool
may_wait Everybody = true
may_wait Here = true
may_wait Nobody = false
