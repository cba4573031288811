-- What is kept beside the entries of a table: sets that follow from the tree, the grants and the locks, and are no part of an entry.
use Rattle.std.specs.Prelude.{◌≡◌, Bool, not, Option, List, [], ◌∷◌, ◌++◌, map, filter, ◌==◌, ◌&&◌, is_some, unwrap_or, if◌then◌else◌}
use Rattle.std.specs.List.{find}
use Rattle.std.specs.Option.{option_map}
use Rattle.capbits.specs.declared.cap.Cap.TheVariants.{P}
use Rattle.capbits.specs.declared.ids.ClientId.{ClientId}
use Rattle.capbits.specs.Caps.{Caps, has}
use Rattle.capbits.specs.Sets.{no_caps}
use Rattle.captable.specs.declared.entry.Holder.{Holder}
use Rattle.captable.specs.declared.entry.Entry.{Entry}
use Rattle.captable.specs.declared.entry.EntryRow.{EntryRow}
use Rattle.captable.specs.declared.entry.KeptEntry.{KeptEntry}
use Rattle.captable.specs.declared.entry.ClientView.{ClientView}
use Rattle.captable.specs.Table as table
use Rattle.captable.specs.Table.{Table, entry_at, holders_of_rows, same}
use Rattle.captable.specs.Calls.{acked, changed, has_pin, opened, released, without, without_client}
use Rattle.captable.specs.Tests.{test_at}

-- the sets beside one entry, with its holder
pub record KeptRow : Type 0 where
  pub holder : Holder
  pub sets : ClientView

-- the table, and what is kept beside its entries
pub record KeptTable : Type 0 where
  pub entries : Table
  pub kept : List KeptRow

abbrev pub is_kept_of : Holder → KeptRow → Bool
is_kept_of k row = same k row.holder

-- the sets beside the holder's entry, where it has one
abbrev pub sets_beside : List KeptRow → Holder → Option ClientView
sets_beside kept k = option_map (λ (row : KeptRow). row.sets) (find (is_kept_of k) kept)

-- what its client is to know of, and what it is permitted
abbrev pub pending_beside : List KeptRow → Holder → Option Caps
pending_beside kept k = option_map (λ (sets : ClientView). sets.pending) (sets_beside kept k)

abbrev pub permitted_beside : List KeptRow → Holder → Option Caps
permitted_beside kept k = option_map (λ (sets : ClientView). sets.permitted) (sets_beside kept k)

-- nothing is kept yet
abbrev pub no_sets : ClientView
no_sets = record { pending = no_caps; permitted = no_caps }

-- an entry, with what is kept beside it
abbrev pub kept_entry : List KeptRow → EntryRow → KeptEntry
kept_entry kept row = record { row = row; sets = unwrap_or (sets_beside kept row.holder) no_sets }

-- they are kept of the holders that have an entry, and of nobody else
abbrev pub AreBeside : KeptTable → Type 0
AreBeside t = map (λ (row : KeptRow). row.holder) t.kept ≡ holders_of_rows t.entries.rows

-- nobody has an entry, and nobody had one
abbrev pub nothing : KeptTable
nothing = record { entries = table.empty; kept = [] }

-- ---- what the calls make of it

-- empty sets beside a new entry
abbrev pub kept_more : List KeptRow → Holder → List KeptRow
kept_more kept k = kept ++ record { holder = k; sets = no_sets } ∷ []

abbrev pub kept_without : List KeptRow → Holder → List KeptRow
kept_without kept k = filter (λ row. not (is_kept_of k row)) kept

abbrev pub kept_without_client : List KeptRow → ClientId → List KeptRow
kept_without_client kept client = filter (λ row. not (row.holder.client.0 == client.0)) kept

-- the holder's sets, changed by f
abbrev pub keeping : List KeptRow → Holder → (ClientView → ClientView) → List KeptRow
keeping kept k f = map (λ row. if is_kept_of k row then record row { sets = f row.sets } else row) kept

-- a new entry
abbrev pub with_opened : KeptTable → Holder → KeptTable
with_opened t k = record { entries = opened t.entries k; kept = kept_more t.kept k }

-- the holder has an entry, a new one where it had none
abbrev pub with_entry : KeptTable → Holder → KeptTable
with_entry t k = if is_some (entry_at t.entries k) then t else with_opened t k

-- the entry, changed by f, beside which all stays
abbrev pub with_changed : KeptTable → Holder → (Entry → Entry) → KeptTable
with_changed t k f = record t { entries = changed t.entries k f }

-- the entry goes, with what is beside it
abbrev pub with_none : KeptTable → Holder → KeptTable
with_none t k = record { entries = without t.entries k; kept = kept_without t.kept k }

-- and so do those of a client
abbrev pub with_no_client : KeptTable → ClientId → KeptTable
with_no_client t client = record { entries = without_client t.entries client; kept = kept_without_client t.kept client }

-- where these are acknowledged, an entry goes with the pin that it holds
abbrev pub with_acked : KeptTable → Holder → Caps → KeptTable
with_acked t k against = record { entries = acked t.entries k against; kept = if has against P && test_at has_pin t.entries k then kept_without t.kept k else t.kept }

-- where they are released, it goes with the pin
abbrev pub with_released : KeptTable → Holder → Caps → KeptTable
with_released t k caps = record { entries = released t.entries k caps; kept = if has caps P then kept_without t.kept k else t.kept }

-- other sets beside the entry
abbrev pub with_kept : KeptTable → Holder → (ClientView → ClientView) → KeptTable
with_kept t k f = record t { kept = keeping t.kept k f }

abbrev pub permitting : Caps → ClientView → ClientView
permitting caps sets = record sets { permitted = caps }

abbrev pub telling : Caps → ClientView → ClientView
telling caps sets = record sets { pending = caps }
