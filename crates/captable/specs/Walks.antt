-- The entries that a walk gives.
use Rattle.std.specs.Prelude.{◌≡◌, ℕ, true, Option, Some, None, List, [], ◌∷◌, map, nat_eq, slice_get, if◌then◌else◌}
use Rattle.cap_arena.specs.Walks.{is_among}
use Rattle.cap_arena.specs.Lists.{ListName, Lists, OfClient, OfInode, keys, node_at}
use Rattle.captable.specs.declared.entry.Holder.{Holder}
use Rattle.captable.specs.declared.entry.EntryRow.{EntryRow}
use Rattle.captable.specs.declared.entry.KeptEntry.{KeptEntry}
use Rattle.captable.specs.declared.entry.Slot.{Slot}
use Rattle.captable.specs.declared.walk.WalkOver.{WalkOver}
use Rattle.captable.specs.declared.walk.WalkOver.TheVariants as by
use Rattle.captable.specs.Table.{holders_of_rows}
use Rattle.captable.specs.Nodes.{kept_entry_of, nodes_at, row_of}

-- the list that is walked
abbrev pub name_of : WalkOver → ListName
name_of (by.Client client) = OfClient client
name_of (by.Inode ino) = OfInode ino

-- the keys from this one on
abbrev pub keys_on : List ℕ → ℕ → List ℕ
keys_on [] key = []
keys_on (k ∷ keys) key = if nat_eq key k then k ∷ keys else keys_on keys key

-- the keys from a place on, of which there are none after the end
abbrev pub keys_from : List ℕ → Option ℕ → List ℕ
keys_from keys None = []
keys_from keys (Some key) = keys_on keys key

-- the rows from a place of the list on
abbrev pub rows_from : Lists Slot → ListName → Option ℕ → List EntryRow
rows_from lists name place = map row_of (nodes_at (node_at lists) (keys_from (keys lists name) place))

-- the same, each with what is kept beside it
abbrev pub kept_from : Lists Slot → ListName → Option ℕ → List KeptEntry
kept_from lists name place = map kept_entry_of (nodes_at (node_at lists) (keys_from (keys lists name) place))

-- the place is the end, or the key of a node of the list
abbrev pub IsPlaceIn : List ℕ → Option ℕ → Type 0
IsPlaceIn keys None = Unit {0}
IsPlaceIn keys (Some key) = is_among keys key ≡ true

abbrev pub IsPlaceOf : Lists Slot → ListName → Option ℕ → Type 0
IsPlaceOf lists name place = IsPlaceIn (keys lists name) place

-- the holder of the first row
abbrev pub first_holder : List EntryRow → Option Holder
first_holder rows = slice_get (holders_of_rows rows) 0
