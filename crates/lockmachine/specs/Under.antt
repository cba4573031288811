-- What the locks of an inode let the client of an entry hold, and revoke of what it holds.
use Rattle.std.specs.Prelude.{Option, Some, None, [], ◌∷◌}
use Rattle.std.specs.Option.{option_map}
use Rattle.capbits.specs.declared.cap.Cap.TheVariants.{P}
use Rattle.capbits.specs.declared.cap.Part.{Part}
use Rattle.capbits.specs.declared.cap.Part.TheVariants.{A, F, L, X}
use Rattle.capbits.specs.Caps.{Caps}
use Rattle.capbits.specs.Sets.{caps_in, minus, no_caps, union}
use Rattle.locktable.specs.declared.states.LockState.{LockState}
use Rattle.locktable.specs.declared.states.LockState.TheVariants.{Gather, Stable}
use Rattle.locktable.specs.Rows.{allowed_of}
use Rattle.captable.specs.declared.entry.EntryRow.{EntryRow}
use Rattle.lockmachine.specs.Held.{outside}
use Rattle.lockmachine.specs.Inodes.{lock_in}
use Rattle.lockmachine.specs.declared.states.InodeLocks.{InodeLocks}

-- the lock of a part, where the inode has locks
abbrev pub lock_under : Option InodeLocks → Part → Option LockState
lock_under locks part = option_map (lock_in part) locks

-- what a lock revokes of the entry: where it gathers, what is held outside the row of its target
abbrev pub against_lock : Part → EntryRow → Option LockState → Caps
against_lock part row None = no_caps
against_lock part row (Some (Stable state)) = no_caps
against_lock part row (Some (Gather from to)) = outside part to row

-- what the locks revoke of the entry
abbrev pub against_under : Option InodeLocks → EntryRow → Caps
against_under locks row =
    union (against_lock A row (lock_under locks A))
    (union (against_lock L row (lock_under locks L)) (union (against_lock X row (lock_under locks X)) (against_lock F row (lock_under locks F))))

-- what its client is to know that it holds, where it is permitted these caps
abbrev pub pending_under : Caps → Option InodeLocks → EntryRow → Caps
pending_under permitted locks row = minus row.entry.held (union (against_under locks row) (minus row.entry.held permitted))

-- what a lock lets its client hold of the part
abbrev pub allowed_by : Part → EntryRow → Option LockState → Caps
allowed_by part row None = no_caps
allowed_by part row (Some lock) = allowed_of part lock row.holder.client

-- what the locks let it hold, and the pin always
abbrev pub allowed_under : Option InodeLocks → EntryRow → Caps
allowed_under locks row =
    union (caps_in (P ∷ []))
    (union (allowed_by A row (lock_under locks A))
    (union (allowed_by L row (lock_under locks L)) (union (allowed_by X row (lock_under locks X)) (allowed_by F row (lock_under locks F)))))
