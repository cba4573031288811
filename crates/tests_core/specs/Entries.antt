-- One file, and two clients with an entry on it.
use Rattle.std.specs.Prelude.{ℕ, false, Option, Some, List, [], ◌∷◌, length}
use Rattle.capbits.specs.Caps.{Caps}
use Rattle.capbits.specs.Refusal.{first_failing}
use Rattle.capbits.specs.Sets.{caps_in}
use Rattle.capbits.specs.declared.cap.Cap.TheVariants.{Fb, Fc, Fr, Fs, Fw, Fx, P}
use Rattle.capbits.specs.declared.ids.Ino.{Ino}
use Rattle.capbits.specs.declared.refusal.Refusal.{Refusal}
use Rattle.locktable.specs.declared.states.LockState.{LockState}
use Rattle.captable.specs.Table.{Table, holder, holders_of_rows}
use Rattle.captable.specs.Tests.{ack_tests}
use Rattle.captable.specs.declared.entry.Entry.{Entry}
use Rattle.captable.specs.declared.entry.EntryRow.{EntryRow}
use Rattle.lockmachine.specs.Inodes.{in_sync}
use Rattle.lockmachine.specs.declared.states.InodeLocks.{InodeLocks}
use Rattle.tests_core.specs.Clients.{first, second}

abbrev pub file : Ino
file = record { 0 = 2 }

-- what is wanted by who opens a file to read and to write, and by who opens it to read
abbrev pub all : Caps
all = caps_in (P ∷ Fs ∷ Fx ∷ Fc ∷ Fr ∷ Fw ∷ Fb ∷ [])

abbrev pub reading : Caps
reading = caps_in (P ∷ Fs ∷ Fc ∷ Fr ∷ [])

-- what of all is left in MIX
abbrev pub mixed : Caps
mixed = caps_in (P ∷ Fr ∷ Fw ∷ [])

abbrev pub pin : Caps
pin = caps_in (P ∷ [])

-- what is held and wanted, and the numbers of the last change, of the last revocation and of the last change that was told
abbrev pub entry : Caps → Caps → ℕ → ℕ → ℕ → Entry
entry held want seq revoke_seq told_seq =
    record { held = held; want = want; seq = seq; revoke_seq = revoke_seq; told_seq = told_seq; asked = false; size_due = false }

abbrev pub of_first : Entry → EntryRow
of_first e = record { holder = holder first file; entry = e }

abbrev pub of_second : Entry → EntryRow
of_second e = record { holder = holder second file; entry = e }

abbrev pub table : List EntryRow → Table
table rows = record { rows = rows; recall = holders_of_rows rows; made = length rows }

-- the file's locks, where this is the one of its data
abbrev pub under : LockState → Option InodeLocks
under lock = Some (record in_sync { file = lock })

-- what refuses the first client's acknowledgement, where these are the entries and these caps are being revoked of its own
abbrev pub ack : List EntryRow → ℕ → Caps → Option Refusal
ack rows seq against = first_failing (ack_tests (table rows) (holder first file) seq against)
