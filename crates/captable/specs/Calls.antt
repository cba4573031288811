-- What each call on the table changes and answers.
use Rattle.std.specs.Prelude.{ℕ, ◌+◌, Bool, true, false, not, ◌==◌, ◌&&◌, ◌||◌, nat_lt, Option, None, List, [], ◌∷◌, ◌++◌, map, filter, take, slice_get}
use Rattle.std.specs.Prelude.{is_some, if◌then◌else◌}
use Rattle.capbits.specs.declared.cap.Cap.TheVariants.{P}
use Rattle.capbits.specs.declared.ids.ClientId.{ClientId}
use Rattle.capbits.specs.declared.ids.Ino.{Ino}
use Rattle.capbits.specs.Caps.{Caps, has}
use Rattle.capbits.specs.Sets.{is_empty, minus, no_caps, union}
use Rattle.captable.specs.declared.entry.Holder.{Holder}
use Rattle.captable.specs.declared.entry.Entry.{Entry}
use Rattle.captable.specs.declared.entry.EntryRow.{EntryRow}
use Rattle.captable.specs.Table.{Table, entry_at, is_among, is_row_of, same}
use Rattle.captable.specs.Tests.{test_at}

-- ---- one holder's entry

-- the entry of one that opens an inode
abbrev pub new_entry : Entry
new_entry = record { held = no_caps; want = no_caps; seq = 0; revoke_seq = 0; told_seq = 0; asked = false; size_due = false }

-- the table with a new entry for the holder, last in both orders
abbrev pub opened : Table → Holder → Table
opened table k = record {
  rows = table.rows ++ record { holder = k; entry = new_entry } ∷ [];
  recall = table.recall ++ k ∷ [];
  made = table.made + 1;
}

-- the table in which the holder has an entry, a new one where it had none
abbrev pub with_entry : Table → Holder → Table
with_entry table k = if is_some (entry_at table k) then table else opened table k

-- the rows, with the holder's entry changed by f
abbrev pub change_rows : List EntryRow → Holder → (Entry → Entry) → List EntryRow
change_rows [] k f = []
change_rows (row ∷ rows) k f = if is_row_of k row then record row { entry = f row.entry } ∷ rows else row ∷ change_rows rows k f

-- the table with the holder's entry changed by f, where it has one
abbrev pub changed : Table → Holder → (Entry → Entry) → Table
changed table k f = record table { rows = change_rows table.rows k f }

-- the table without the holder
abbrev pub without : Table → Holder → Table
without table k = record table {
  rows = filter (λ row. not (is_row_of k row)) table.rows;
  recall = filter (λ h. not (same k h)) table.recall;
}

-- ---- changes of an entry

abbrev pub wanting : Caps → Entry → Entry
wanting want e = record e { want = want }

-- more is held
abbrev pub issued : Caps → Entry → Entry
issued caps e = record e { held = union e.held caps }

-- these are held no more
abbrev pub without_acked : Caps → Entry → Entry
without_acked caps e = record e { held = minus e.held caps }

-- these are neither held nor wanted
abbrev pub without_released : Caps → Entry → Entry
without_released caps e = record e { held = minus e.held caps; want = minus e.want caps }

-- what the client is to know of was one set and is another: the entry's number rises if the sets differ, and it is the
-- number of a revocation too if a cap went
abbrev pub renumbered : Caps → Caps → Entry → Entry
renumbered before after e =
    if not (is_empty (minus before after)) then record e { seq = e.seq + 1; revoke_seq = e.seq + 1 }
    else if not (is_empty (minus after before)) then record e { seq = e.seq + 1 } else e

-- the client was told of the last change
abbrev pub with_told : Entry → Entry
with_told e = record e { told_seq = e.seq }

abbrev pub with_asked : Bool → Entry → Entry
with_asked asked e = record e { asked = asked }

abbrev pub with_size_due : Bool → Entry → Entry
with_size_due due e = record e { size_due = due }

-- the client was not told of the last change, is still to be told the size, or is asked to release
abbrev pub is_due_entry : Entry → Bool
is_due_entry e = nat_lt e.told_seq e.seq || (e.size_due || e.asked)

abbrev pub is_due : EntryRow → Bool
is_due row = is_due_entry row.entry

-- ---- release

-- the table after a release: with the pin the whole entry goes
abbrev pub released : Table → Holder → Caps → Table
released table k caps = if has caps P then without table k else changed table k (without_released caps)

-- the pin is held
abbrev pub has_pin : Entry → Bool
has_pin e = has e.held P

-- the table after an acknowledgement, where these are being revoked: with the pin, if that is held and among them, the whole entry
-- goes, whatever else it holds
abbrev pub acked : Table → Holder → Caps → Table
acked table k against = if has against P && test_at has_pin table k then without table k else changed table k (without_acked against)

-- ---- the order of recall

-- the holder after this one
abbrev pub newer_in : List Holder → Holder → Option Holder
newer_in [] k = None
newer_in (h ∷ holders) k = if same k h then slice_get holders 0 else newer_in holders k

-- the holder, if it is among these, comes last
abbrev pub moved_last : List Holder → Holder → List Holder
moved_last holders k = filter (λ h. not (same k h)) holders ++ filter (same k) holders

abbrev pub touched : Table → Holder → Table
touched table k = record table { recall = moved_last table.recall k }

-- the entry is marked as asked to release caps, if its holder is among those named
abbrev pub asked_row : List Holder → EntryRow → EntryRow
asked_row named row = if is_among named row.holder then record row { entry = with_asked true row.entry } else row

-- the first n in the order of recall are marked as asked to release caps
abbrev pub recalled : Table → ℕ → Table
recalled table n = record table { rows = map (asked_row (take n table.recall)) table.rows }

-- ---- the entries of one client, and of one inode

abbrev pub is_of_client : ClientId → EntryRow → Bool
is_of_client client row = row.holder.client.0 == client.0

abbrev pub is_of_inode : Ino → EntryRow → Bool
is_of_inode ino row = row.holder.ino.0 == ino.0

-- the entries on an inode
abbrev pub entries_on : Table → Ino → List EntryRow
entries_on table ino = filter (is_of_inode ino) table.rows

-- the table without the client
abbrev pub without_client : Table → ClientId → Table
without_client table client = record table {
  rows = filter (λ row. not (is_of_client client row)) table.rows;
  recall = filter (λ h. not (h.client.0 == client.0)) table.recall;
}
