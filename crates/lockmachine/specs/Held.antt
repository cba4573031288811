-- What is held that a state of a lock does not allow.
use Rattle.std.specs.Prelude.{Bool, filter, length, not, ℕ}
use Rattle.std.specs.List.{list_any}
use Rattle.capbits.specs.declared.cap.Part.{Part}
use Rattle.capbits.specs.declared.ids.Ino.{Ino}
use Rattle.capbits.specs.Caps.{Caps}
use Rattle.capbits.specs.Sets.{is_empty, minus, of_part}
use Rattle.locktable.specs.declared.states.StableState.{StableState}
use Rattle.locktable.specs.Rows.{row_of}
use Rattle.captable.specs.declared.entry.EntryRow.{EntryRow}
use Rattle.captable.specs.Table.{Table}
use Rattle.captable.specs.Calls.{entries_on}

-- the entry's caps of a part that its client may not hold where the part's lock is stable in a state
abbrev pub outside : Part → StableState → EntryRow → Caps
outside part state row = minus (of_part part row.entry.held) (row_of part state row.holder.client)

-- the entry's client has such caps
abbrev pub has_outside : Part → StableState → EntryRow → Bool
has_outside part state row = not (is_empty (outside part state row))

-- some client has caps of the part that it may not hold where the part's lock is stable in a state
abbrev pub is_held_outside : Table → Ino → Part → StableState → Bool
is_held_outside table ino part state = list_any (λ row. not (is_empty (outside part state row))) (entries_on table ino)

-- how many clients have such caps
abbrev pub holders_outside : Table → Ino → Part → StableState → ℕ
holders_outside table ino part state = length (filter (has_outside part state) (entries_on table ino))
