-- The requests that ended and that no client was told of, and the room for them.
use Rattle.std.specs.Global.{Vec}
use Rattle.std.specs.List.{list_any}
use Rattle.std.specs.Prelude.{◌≡◌, ◌≢◌, ℕ, ◌+◌, ◌≤◌, Bool, false, ◌==◌, ◌&&◌, not, List, AllPairs, length, filter, vec_capacity}
use Rattle.capbits.specs.declared.ids.ClientId.{ClientId}
use Rattle.capbits.specs.declared.ids.Ticket.{Ticket}
use Rattle.lockmachine.specs.Locks.{LockMap}
use Rattle.capstep.specs.declared.outcome.Ended.{Ended}
use Rattle.capstep.specs.declared.outcome.Message.{Message}

-- in the order in which they ended
abbrev pub DueEndings : Type 0
DueEndings = Vec Ended

-- there is room for each request that waits, when it ends
abbrev pub HasRoom : DueEndings → LockMap → Type 0
HasRoom due locks = length due.items + length locks.queue ≤ vec_capacity due

-- the others of a list
abbrev pub but_for : Ticket → List Ended → List Ended
but_for ticket ended = filter (λ m. not (m.ticket.0 == ticket.0)) ended

-- no two have the same number
abbrev pub HaveOwnNumbers : List Ended → Type 0
HaveOwnNumbers ended = AllPairs (λ earlier later. later.ticket.0 ≢ earlier.ticket.0) ended

-- it has this number
abbrev pub is_of_ticket : Ticket → Ended → Bool
is_of_ticket ticket m = m.ticket.0 == ticket.0

-- ---- what is left when clients are told

-- its client is this one
abbrev pub is_to : ClientId → Ended → Bool
is_to client m = m.client.0 == client.0

-- the message tells how the request with this number ended
abbrev pub is_end_of : Ticket → Message → Bool
is_end_of ticket (Message.Ended t outcome) = t.0 == ticket.0
is_end_of ticket m = false

-- the numbers are those of the requests of whose ends the messages tell
abbrev pub AreEndsOf : List Message → List ℕ → Type 0
AreEndsOf messages numbers = (ticket : Ticket) → list_any (λ number. number == ticket.0) numbers ≡ list_any (is_end_of ticket) messages

-- a request that ended is still due to its client, once a client was given these messages
abbrev pub is_left : ClientId → List Message → Ended → Bool
is_left client given m = not (is_to client m && list_any (is_end_of m.ticket) given)
