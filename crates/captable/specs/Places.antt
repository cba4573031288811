-- Places in the lists of clients, before which no entry is due.
use Rattle.std.specs.Prelude.{◌≡◌, ◌<◌, ℕ, Bool, true, false, ◌==◌, Option, Some, None, List, nat_eq, nat_lt, is_some, slice_get, if◌then◌else◌}
use Rattle.std.specs.Option.{option_map_or}
use Rattle.capbits.specs.declared.ids.ClientId.{ClientId}
use Rattle.cap_arena.specs.declared.nodes.Node.{Node}
use Rattle.cap_arena.specs.Walks.{is_among}
use Rattle.cap_arena.specs.Lists.{Lists, OfClient, keys, node_at}
use Rattle.captable.specs.declared.entry.Slot.{Slot}
use Rattle.captable.specs.Calls.{is_due_entry}
use Rattle.captable.specs.Walks.{IsPlaceIn, keys_from, keys_on}

abbrev pub same_client : ClientId → ClientId → Bool
same_client a b = a.0 == b.0

-- ---- nodes

-- whether the key has a node whose entry is due
abbrev pub is_due_at : Lists Slot → ℕ → Bool
is_due_at lists key = option_map_or (λ (node : Node Slot). is_due_entry node.value.entry) (node_at lists key) false

-- how many entries were made before that of the key
abbrev pub number_at : Lists Slot → ℕ → ℕ
number_at lists key = option_map_or (λ (node : Node Slot). node.value.number) (node_at lists key) 0

-- the numbers of the keys rise
pub record AreInOrder (number : ℕ → ℕ) (ks : List ℕ) : Type 0 where
  pub rises : (i j : ℕ) → is_among (keys_on ks i) j ≡ true → nat_eq i j ≡ false → number i < number j

-- ---- places

-- the place is one of these keys, or their end, and each key that is due comes from there on
pub record NoneDueIn (ks : List ℕ) (due : ℕ → Bool) (place : Option ℕ) : Type 0 where
  pub placed : IsPlaceIn ks place
  pub later : (key : ℕ) → is_among ks key ≡ true → due key ≡ true → is_among (keys_from ks place) key ≡ true

-- no entry of the client before the place is due
abbrev pub NoneDueBefore : Lists Slot → ClientId → Option ℕ → Type 0
NoneDueBefore lists client place = NoneDueIn (keys lists (OfClient client)) (is_due_at lists) place

-- so it is of each place that is kept
abbrev pub NoneDueBeforeAny : Lists Slot → (ClientId → Option (Option ℕ)) → Type 0
NoneDueBeforeAny lists places = (client : ClientId) (place : Option ℕ) → places client ≡ Some place → NoneDueBefore lists client place

-- a value, as a place, is kept of each client with an entry, and of nobody else
abbrev pub ArePlaced : {V : Type 0} → Lists Slot → (ClientId → Option V) → Type 0
ArePlaced lists places = (client : ClientId) → is_some (places client) ≡ is_some (slice_get (keys lists (OfClient client)) 0)

-- the place that is kept; the end, where none is
abbrev pub place_of : Option (Option ℕ) → Option ℕ
place_of None = None
place_of (Some place) = place

-- ---- changes of a place

-- whether the key's entry was made before that of the place
abbrev pub is_before : Lists Slot → ℕ → Option ℕ → Bool
is_before lists key None = true
is_before lists key (Some other) = nat_lt (number_at lists key) (number_at lists other)

-- the place, or the key, whichever comes first
abbrev pub lowered : Lists Slot → ℕ → Option ℕ → Option ℕ
lowered lists key place = if is_before lists key place then Some key else place

-- the place, or the next one if it is the key's
abbrev pub moved_on : ℕ → Option ℕ → Option ℕ → Option ℕ
moved_on key next None = None
moved_on key next (Some at) = if nat_eq at key then next else Some at
