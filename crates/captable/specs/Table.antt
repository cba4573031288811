-- The table of entries as a value: its rows in the order of making, the order of recall, and how many were made.
use Rattle.std.specs.Prelude.{◌≡◌, ◌≤◌, ℕ, Bool, ◌&&◌, ◌==◌, Option, Some, None, List, [], map, length}
use Rattle.std.specs.List.{IsDistinct, find, list_any}
use Rattle.capbits.specs.declared.ids.ClientId.{ClientId}
use Rattle.capbits.specs.declared.ids.Ino.{Ino}
use Rattle.captable.specs.declared.entry.Holder.{Holder}
use Rattle.captable.specs.declared.entry.Entry.{Entry}
use Rattle.captable.specs.declared.entry.EntryRow.{EntryRow}

-- each entry with its holder, the first made first; and the holders, the first to be asked for caps first
pub record Table : Type 0 where
  pub rows : List EntryRow
  pub recall : List Holder
  -- how many entries were made so far, those that are gone too
  pub made : ℕ

-- the client on the inode
abbrev pub holder : ClientId → Ino → Holder
holder client ino = record { client = client; ino = ino }

-- whether two are the same client on the same inode
abbrev pub same : Holder → Holder → Bool
same a b = (a.client.0 == b.client.0) && (a.ino.0 == b.ino.0)

-- whether the row has the holder's entry
abbrev pub is_row_of : Holder → EntryRow → Bool
is_row_of k row = same k row.holder

abbrev pub entry_of : Option EntryRow → Option Entry
entry_of None = None
entry_of (Some row) = Some row.entry

-- the holder's entry, where it has one
abbrev pub entry_at : Table → Holder → Option Entry
entry_at table k = entry_of (find (is_row_of k) table.rows)

abbrev pub holders_of_rows : List EntryRow → List Holder
holders_of_rows rows = map (λ row. row.holder) rows

-- whether the holder is among these
abbrev pub is_among : List Holder → Holder → Bool
is_among holders k = list_any (same k) holders

-- each holder has one row and stands once in the order of recall, and there are at most 65,536
pub record IsTable (table : Table) : Type 0 where
  pub one_row : IsDistinct same (holders_of_rows table.rows)
  pub one_recall : IsDistinct same table.recall
  pub in_both : (k : Holder) → is_among table.recall k ≡ is_among (holders_of_rows table.rows) k
  pub room : length table.rows ≤ 65536

-- nobody has an entry, and nobody had one
abbrev pub empty : Table
empty = record { rows = []; recall = []; made = 0 }
