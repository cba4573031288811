-- Entries of several holders that are changed, one after another or all at once.
use Rattle.std.specs.Prelude.{Bool, if◌then◌else◌, map, true}
use Rattle.captable.specs.declared.entry.Holder.{Holder}
use Rattle.captable.specs.declared.entry.Entry.{Entry}
use Rattle.captable.specs.declared.entry.EntryRow.{EntryRow}
use Rattle.captable.specs.Table.{Table}
use Rattle.captable.specs.Calls.{changed, with_asked}

-- the table, in which the holder's entry becomes what g makes of its row
abbrev pub changed_by : (EntryRow → Entry) → Table → Holder → Table
changed_by g table k = changed table k (λ e. g (record { holder = k; entry = e }))

-- the entry of a row, marked as asked to release caps
abbrev pub asking : EntryRow → Entry
asking row = with_asked true row.entry

-- the row, with the entry that g makes of it
abbrev pub remade : (EntryRow → Entry) → EntryRow → EntryRow
remade g row = record row { entry = g row }

-- the table, in which the entry of each row that passes a test becomes what g makes of that row
abbrev pub changed_where : (EntryRow → Bool) → (EntryRow → Entry) → Table → Table
changed_where passes g table = record table { rows = map (λ row. if passes row then remade g row else row) table.rows }
