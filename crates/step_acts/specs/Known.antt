-- What is kept of each entry from the end of the last step: the set that its client is to know of.
pub use Rattle.captable.specs.Known.{ClientViews, known_of, permitted_of, sets_of}
use Rattle.std.specs.List.{find}
use Rattle.std.specs.Prelude.{◌≡◌, Bool, true, false, Option, Some, None, IsSome, unwrap_or}
use Rattle.capbits.specs.Caps.{Caps}
use Rattle.capbits.specs.Sets.{IsSubset, no_caps}
use Rattle.captable.specs.Table.{Table, entry_at, is_row_of, same}
use Rattle.captable.specs.declared.entry.Entry.{Entry}
use Rattle.captable.specs.declared.entry.EntryRow.{EntryRow}
use Rattle.captable.specs.declared.entry.Holder.{Holder}
use Rattle.capstep.specs.Finish.{issuable}
use Rattle.lockmachine.specs.Policy.{ArePermitted}
use Rattle.lockmachine.specs.Scene.{Scene, pending_of}

-- what is kept of a holder, and nothing where nothing is
abbrev pub known_in : ClientViews → Holder → Caps
known_in sets k = unwrap_or (known_of sets k) no_caps

-- of each entry it is kept, and it is what its client is to know of. What is kept of others counts for nothing
abbrev pub AreKnown : ClientViews → Scene → Type 0
AreKnown sets s = (k : Holder) (e : Entry) → entry_at s.table k ≡ Some e → known_of sets k ≡ Some (pending_of s (record { holder = k; entry = e }))

-- ---- as an event leaves it

-- of an entry that was there, the same is kept; of a new one something is
abbrev pub is_still_known : Option Entry → Option Caps → Option Caps → Type 0
is_still_known (Some e) was now = now ≡ was
is_still_known None was now = IsSome now

-- so it is of each entry of the new table
abbrev pub StillKnown : Table → Table → ClientViews → ClientViews → Type 0
StillKnown old new was now = (k : Holder) (e : Entry) → entry_at new k ≡ Some e → is_still_known (entry_at old k) (known_of was k) (known_of now k)

-- what is known of each entry is kept still; and where it was kept what their clients are permitted, it is of a new one too
pub record StillKept (s : Scene) (new : Table) (was now : ClientViews) : Type 0 where
  pub known : StillKnown s.table new was now
  pub permitted : ArePermitted was s.fs s.tree s.sessions s.table → ArePermitted now s.fs s.tree s.sessions new

-- ---- who has all

-- all that is due to the entry is held, and what is kept of it is what its client is to know of: the end of a step leaves it so
abbrev pub HasAll : ClientViews → Scene → EntryRow → Type 0
HasAll sets s row = IsSubset (issuable s row) row.entry.held × (known_of sets row.holder ≡ Some (pending_of s row))

-- so it is of each entry on the holder's inode but its own
abbrev pub OthersHaveAll : ClientViews → Scene → Holder → Type 0
OthersHaveAll sets s k =
    (j : Holder) (e : Entry) → j.ino.0 ≡ k.ino.0 → same j k ≡ false → entry_at s.table j ≡ Some e → HasAll sets s (record { holder = j; entry = e })

-- ---- at the end of the step

-- where the holder is among those, and has an entry, its set is this; else it is as it was
abbrev pub known_anew : Bool → (EntryRow → Caps) → Option EntryRow → Option Caps → Option Caps
known_anew true set_of (Some row) was = Some (set_of row)
known_anew among set_of row was = was

-- of each entry of the table whose holder is among those, its new set is kept
abbrev pub KnownAnew : (Holder → Bool) → (EntryRow → Caps) → Table → ClientViews → ClientViews → Type 0
KnownAnew among set_of table was now =
    (k : Holder) → known_of now k ≡ known_anew (among k) set_of (find (is_row_of k) table.rows) (known_of was k)
