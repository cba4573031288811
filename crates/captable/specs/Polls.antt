-- What is kept of each client with an entry: a place before which none of its entries is due, and how many are.
use Rattle.std.specs.Prelude.{◌≡◌, ℕ, ◌+◌, ◌-◌, Bool, true, false, Option, Some, None, List, filter, length, is_some, if◌then◌else◌}
use Rattle.std.specs.FinMap as map
use Rattle.std.specs.Option.{option_map, unwrap_or}
use Rattle.std.specs.Ordering.{nat_cmp}
use Rattle.capbits.specs.declared.ids.ClientId.{ClientId}
use Rattle.captable.specs.declared.entry.EntryRow.{EntryRow}
use Rattle.captable.specs.declared.polls.Poll.{Poll}
use Rattle.captable.specs.Calls.{is_due, is_of_client}

-- by the client's number
abbrev pub Polls : Type 0
Polls = map.FinMap nat_cmp Poll

-- a part of what is kept of a client
abbrev pub part_of : {V : Type 0} → (Poll → V) → Polls → ClientId → Option V
part_of part polls client = option_map part (map.get polls client.0)

abbrev pub places_of : Polls → ClientId → Option (Option ℕ)
places_of polls = part_of (λ poll. poll.place) polls

abbrev pub counts_of : Polls → ClientId → Option ℕ
counts_of polls = part_of (λ poll. poll.due) polls

-- ---- counts

-- how many of the client's entries are due
abbrev pub due_count : ClientId → List EntryRow → ℕ
due_count client rows = length (filter is_due (filter (is_of_client client) rows))

-- so many are kept of each client; of one of whom nothing is kept, none is due
abbrev pub AreCounted : List EntryRow → (ClientId → Option ℕ) → Type 0
AreCounted rows counts = (client : ClientId) → unwrap_or (counts client) 0 ≡ due_count client rows

-- one more or one less, by whether an entry was due and is due
abbrev pub recounted : Bool → Bool → ℕ → ℕ
recounted false true count = count + 1
recounted true false count = count - 1
recounted true true count = count
recounted false false count = count

-- ---- a client's first entry, and its last

-- the end of the list, and nothing due
abbrev pub new_poll : Poll
new_poll = record { place = None; due = 0 }

-- one of whom nothing is kept gets this
abbrev pub begun : Polls → ClientId → Polls
begun polls client = if is_some (map.get polls client.0) then polls else map.insert polls client.0 new_poll

-- of one whose list has no first key nothing is kept
abbrev pub ended : Option ℕ → Polls → ClientId → Polls
ended None polls client = map.remove polls client.0
ended (Some first) polls client = polls
