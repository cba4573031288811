-- The locks as a value: the four locks of each inode, the queue, and the last number that a request was given.
use Rattle.std.specs.Prelude.{◌≡◌, ℕ, ◌+◌, ◌≤◌, nat_le, Option, List, [], ◌∷◌, ◌++◌, length, filter, not, All}
use Rattle.std.specs.List.{find}
use Rattle.std.specs.Option.{option_map}
use Rattle.std.specs.FinMap as map
use Rattle.capbits.specs.declared.cap.Part.{Part}
use Rattle.capbits.specs.declared.ids.ClientId.{ClientId}
use Rattle.capbits.specs.declared.ids.Ino.{Ino}
use Rattle.capbits.specs.declared.ids.Ticket.{Ticket}
use Rattle.capbits.specs.declared.refusal.Refusal.TheVariants as refusal
use Rattle.capbits.specs.Refusal.{Test, refused_if}
use Rattle.capbits.specs.Maps.{change_at}
use Rattle.locktable.specs.declared.states.LockState.{LockState}
use Rattle.lockmachine.specs.declared.request.Operation.{Operation}
use Rattle.lockmachine.specs.declared.request.Request.{Request}
use Rattle.lockmachine.specs.Requests.{AreTicketsRising, is_numbered, is_of_client}
use Rattle.lockmachine.specs.Inodes.{StateMap, in_sync, lock_in, with_lock_in}

-- the locks of each inode, the requests that wait, the oldest first, and the last number that a request was given
pub record LockMap : Type 0 where
  pub states : StateMap
  pub queue : List Request
  pub last : ℕ

-- requests are numbered from 1 on and stand in the order of their numbers, and no more wait than may
pub record IsLockMap (locks : LockMap) : Type 0 where
  pub rising : AreTicketsRising locks.queue
  pub given : All (λ q. (1 ≤ q.ticket.0) × (q.ticket.0 ≤ locks.last)) locks.queue
  pub room : length locks.queue ≤ 1024

-- nothing is locked, nobody waits, and no number was given
abbrev pub no_locks : LockMap
no_locks = record { states = map.empty; queue = []; last = 0 }

-- ---- locks

-- the lock of an inode's part, where the inode has locks
abbrev pub lock_at : LockMap → ℕ → Part → Option LockState
lock_at locks ino part = option_map (lock_in part) (map.get locks.states ino)

-- the locks, with this one in another state
abbrev pub with_lock : LockMap → ℕ → Part → LockState → LockMap
with_lock locks ino part state = record locks { states = change_at (with_lock_in part state) locks.states ino }

-- the locks, with those of a new inode
abbrev pub with_ino : LockMap → ℕ → LockMap
with_ino locks ino = record locks { states = map.insert locks.states ino in_sync }

-- the locks, without those of an inode
abbrev pub without_ino : LockMap → ℕ → LockMap
without_ino locks ino = record locks { states = map.remove locks.states ino }

-- ---- requests

-- there may wait one more
abbrev pub queue_tests : LockMap → List Test
queue_tests locks = refused_if (nat_le 1024 (length locks.queue)) refusal.Limit ∷ []

-- the request with this number, where it waits
abbrev pub request_at : LockMap → ℕ → Option Request
request_at locks ticket = find (is_numbered ticket) locks.queue

-- a client's operation, under the next number
abbrev pub next_request : LockMap → ClientId → Ino → Operation → Request
next_request locks client ino operation = record { ticket = record { 0 = locks.last + 1 }; client = client; ino = ino; operation = operation }

-- it waits, and comes last
abbrev pub with_request : LockMap → ClientId → Ino → Operation → LockMap
with_request locks client ino operation = record locks { queue = locks.queue ++ next_request locks client ino operation ∷ []; last = locks.last + 1 }

-- the request with this number waits no more
abbrev pub without_request : LockMap → ℕ → LockMap
without_request locks ticket = record locks { queue = filter (λ q. not (is_numbered ticket q)) locks.queue }

-- the request alone is taken out: those before it and those behind it are left, and the locks and the last number are as before
pub record TakesOnly (q : Request) (old new : LockMap) : Type 0 where
  pub earlier : List Request
  pub later : List Request
  pub queue_was : old.queue ≡ earlier ++ q ∷ later
  pub queue_is : new.queue ≡ earlier ++ later
  pub states_are : new.states ≡ old.states
  pub last_is : new.last ≡ old.last

-- the requests of a client, the oldest first
abbrev pub requests_of : LockMap → ClientId → List Request
requests_of locks client = filter (is_of_client client) locks.queue

-- the number of the oldest of them, if any
abbrev pub oldest_of : LockMap → ClientId → Option Ticket
oldest_of locks client = option_map (λ q. q.ticket) (find (is_of_client client) locks.queue)

-- none of them waits any more
abbrev pub without_requests_of : LockMap → ClientId → LockMap
without_requests_of locks client = record locks { queue = filter (λ q. not (is_of_client client q)) locks.queue }
