-- Who waits, sorted by lock.
use Rattle.std.specs.Prelude.{◌≡◌, ℕ, ◌+◌, ◌*◌, ◌<◌, ◌≤◌, nat_le, Bool, ◌==◌, List, [], Option, Some, None, filter, length, if◌then◌else◌}
use Rattle.std.specs.List.{AllWithin}
use Rattle.std.specs.List.Sorted.{IsNonDecreasingBy}
use Rattle.capbits.specs.declared.cap.Part.{Part}
use Rattle.capbits.specs.declared.ids.Ticket.{Ticket}
use Rattle.lockmachine.specs.declared.request.Request.{Request}
use Rattle.lockmachine.specs.declared.waiters.Waiter.{Waiter}
use Rattle.lockmachine.specs.Requests.{head_of_operation, part_of_operation, part_place}

-- what is kept of a request
abbrev pub waiter_of : Request → Waiter
waiter_of q = record { ino = q.ino; part = part_of_operation q.operation; ticket = q.ticket; client = q.client; head = head_of_operation q.client q.operation }

-- locks count by inode, and then in the order A, L, X, F
abbrev pub lock_number : ℕ → Part → ℕ
lock_number ino part = ino * 4 + part_place part

-- the lock that it waits for
abbrev pub lock_of : Waiter → ℕ
lock_of w = lock_number w.ino.0 w.part

-- it waits for this lock
abbrev pub is_at : ℕ → Waiter → Bool
is_at lock w = lock_of w == lock

-- it waits at this inode
abbrev pub is_at_inode : ℕ → Waiter → Bool
is_at_inode ino w = w.ino.0 == ino

-- all who wait
abbrev pub WaiterList : Type 0
WaiterList = List Waiter

abbrev pub AreSorted : WaiterList → Type 0
AreSorted waiters = IsNonDecreasingBy lock_of waiters

-- so many wait for lower locks than this
pub record AreLower (lock : ℕ) (waiters : WaiterList) (count : ℕ) : Type 0 where
  pub within : count ≤ length waiters
  pub lower : AllWithin (λ w. lock_of w < lock) waiters 0 count
  pub others : AllWithin (λ w. lock ≤ lock_of w) waiters count (length waiters)

-- for each lock the same wait in both, in the same order
abbrev pub StandAlike : WaiterList → WaiterList → Type 0
StandAlike xs ys = (lock : ℕ) → filter (is_at lock) xs ≡ filter (is_at lock) ys

-- the queue, where somebody may wait
abbrev pub queue_if : Bool → List Request → List Request
queue_if waits queue = if waits then queue else []

-- the number that was given first, of at most two
abbrev pub earlier : Option Ticket → Option Ticket → Option Ticket
earlier None b = b
earlier (Some a) None = Some a
earlier (Some a) (Some b) = Some (if nat_le a.0 b.0 then a else b)
