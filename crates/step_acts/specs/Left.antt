-- What goes with a client's session, and what is left, where it ends or does not.
use Rattle.std.specs.Prelude.{Bool, not, List, [], filter, if◌then◌else◌}
use Rattle.std.specs.Prelude.{map as each}
use Rattle.capbits.specs.declared.ids.ClientId.{ClientId}
use Rattle.captable.specs.Calls.{without_client}
use Rattle.captable.specs.Table.{Table}
use Rattle.capstep.specs.declared.outcome.Ended.{Ended}
use Rattle.capstep.specs.DueEndings.{is_to}
use Rattle.lockmachine.specs.Locks.{LockMap, requests_of, without_requests_of}
use Rattle.capstep.specs.Serving.{dropped_of}

abbrev pub table_left : Bool → Table → ClientId → Table
table_left ends table client = if ends then without_client table client else table

abbrev pub locks_left : Bool → LockMap → ClientId → LockMap
locks_left ends locks client = if ends then without_requests_of locks client else locks

abbrev pub messages_left : Bool → List Ended → ClientId → List Ended
messages_left ends messages client = if ends then filter (λ m. not (is_to client m)) messages else messages

-- the requests that are dropped, the oldest first
abbrev pub dropped_by : Bool → LockMap → ClientId → List Ended
dropped_by ends locks client = if ends then each dropped_of (requests_of locks client) else []
