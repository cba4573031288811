-- Tables of entries, step by step from one without entries.
use Rattle.std.specs.Prelude.{ℕ, Bool, Option, List, [], ◌∷◌, ◌++◌, filter}
use Rattle.std.specs.List.{fold}
use Rattle.capbits.specs.Caps.{Caps}
use Rattle.capbits.specs.Refusal.{first_failing}
use Rattle.capbits.specs.Sets.{caps_in, no_caps}
use Rattle.capbits.specs.declared.cap.Cap.{Cap}
use Rattle.capbits.specs.declared.cap.Cap.TheVariants.{Fb, Fc, Fr, Fs, Fw, Fx, P}
use Rattle.capbits.specs.declared.refusal.Refusal.{Refusal}
use Rattle.captable.specs.Calls.{entries_on, is_due, is_of_client, issued, recalled, renumbered, touched, wanting, with_asked, with_told}
use Rattle.captable.specs.Kept.{KeptTable, nothing, permitting, sets_beside, with_acked, with_changed, with_entry, with_kept, with_no_client, with_released}
use Rattle.captable.specs.Table.{Table, entry_at, holder, holders_of_rows}
use Rattle.captable.specs.Tests.{ack_tests, open_entry_tests, release_tests}
use Rattle.captable.specs.declared.entry.ClientView.{ClientView}
use Rattle.captable.specs.declared.entry.Entry.{Entry}
use Rattle.captable.specs.declared.entry.Holder.{Holder}
use Rattle.tests_core.specs.Entries.{all, mixed, pin, reading}

-- the client of one number on the inode of another
abbrev pub at : ℕ → ℕ → Holder
at client ino = holder (record { 0 = client }) (record { 0 = ino })

-- ---- what is done

abbrev pub Step : Type 0
Step = KeptTable → KeptTable

abbrev pub after : List Step → KeptTable
after steps = fold (λ table step. step table) nothing steps

abbrev pub opens : Holder → Step
opens k table = with_entry table k

abbrev pub wants : Holder → Caps → Step
wants k caps table = with_changed table k (wanting caps)

abbrev pub gets : Holder → Caps → Step
gets k caps table = with_changed table k (issued caps)

-- what it is to know of was one set and is another
abbrev pub renumbers : Holder → Caps → Caps → Step
renumbers k before after table = with_changed table k (renumbered before after)

abbrev pub is_told : Holder → Step
is_told k table = with_changed table k with_told

-- it is asked for caps, or not any more
abbrev pub is_asked : Holder → Bool → Step
is_asked k asked table = with_changed table k (with_asked asked)

abbrev pub releases : Holder → List Cap → Step
releases k caps table = with_released table k (caps_in caps)

-- where these are being revoked
abbrev pub acks : Holder → List Cap → Step
acks k against table = with_acked table k (caps_in against)

abbrev pub touches : Holder → Step
touches k table = record table { entries = touched table.entries k }

abbrev pub recalls : ℕ → Step
recalls n table = record table { entries = recalled table.entries n }

abbrev pub goes : ℕ → Step
goes client table = with_no_client table (record { 0 = client })

-- what is kept beside the entry
abbrev pub permits : Holder → Caps → Step
permits k caps table = with_kept table k (permitting caps)

abbrev pub keeps : Holder → Caps → Caps → Step
keeps k pending permitted table = with_kept table k (λ _. record { pending = pending; permitted = permitted })

-- ---- what is then there

abbrev pub found : List Step → Holder → Option Entry
found steps k = entry_at (after steps).entries k

abbrev pub beside : List Step → Holder → Option ClientView
beside steps k = sets_beside (after steps).kept k

abbrev pub view : Caps → Caps → ClientView
view pending permitted = record { pending = pending; permitted = permitted }

-- the order of recall; the entries on an inode, of a client, and those of a client's that are due, in the order of making
abbrev pub order : List Step → List Holder
order steps = (after steps).entries.recall

abbrev pub on : ℕ → List Step → List Holder
on ino steps = holders_of_rows (entries_on (after steps).entries (record { 0 = ino }))

abbrev pub of_client : ℕ → List Step → List Holder
of_client client steps = holders_of_rows (filter (is_of_client (record { 0 = client })) (after steps).entries.rows)

abbrev pub due : ℕ → List Step → List Holder
due client steps = holders_of_rows (filter is_due (filter (is_of_client (record { 0 = client })) (after steps).entries.rows))

-- those that are asked for caps
abbrev pub asked : List Step → List Holder
asked steps = holders_of_rows (filter (λ row. row.entry.asked) (after steps).entries.rows)

-- ---- what is refused

abbrev pub open_refusal : Table → Holder → Option Refusal
open_refusal table k = first_failing (open_entry_tests table k)

abbrev pub release_refusal : List Step → Holder → List Cap → Option Refusal
release_refusal steps k caps = first_failing (release_tests (after steps).entries k (caps_in caps))

-- where these are being revoked, and the client names this number
abbrev pub ack_refusal : List Step → Holder → List Cap → ℕ → Option Refusal
ack_refusal steps k against seq = first_failing (ack_tests (after steps).entries k seq (caps_in against))

-- ---- scenes

-- what of all is left to read, and what is left where two of them came back
abbrev pub read_only : Caps
read_only = caps_in (P ∷ Fr ∷ [])

abbrev pub regained : Caps
regained = caps_in (P ∷ Fs ∷ Fc ∷ Fr ∷ Fw ∷ [])

-- a client has a file for itself
abbrev pub alone : List Step
alone = opens (at 1 2) ∷ wants (at 1 2) all ∷ gets (at 1 2) all ∷ renumbers (at 1 2) no_caps all ∷ is_told (at 1 2) ∷ []

-- another opens it to read
abbrev pub two : List Step
two = alone ++ opens (at 2 2) ∷ wants (at 2 2) reading ∷ gets (at 2 2) pin ∷ renumbers (at 2 2) no_caps pin ∷ []

-- the first is told what it keeps, and releases the rest
abbrev pub one_released : List Step
one_released = two ++ renumbers (at 1 2) all mixed ∷ is_told (at 1 2) ∷ releases (at 1 2) (Fs ∷ Fx ∷ Fc ∷ Fb ∷ []) ∷ []

-- it gets two of them again, of which it has not heard
abbrev pub one_regained : List Step
one_regained = one_released ++ gets (at 1 2) (caps_in (Fs ∷ Fc ∷ [])) ∷ renumbers (at 1 2) mixed regained ∷ renumbers (at 1 2) regained regained ∷ []

-- a client that has a file for itself loses caps twice, of which it hears not yet, and then hears
abbrev pub lost_twice : List Step
lost_twice = alone ++ renumbers (at 1 2) all mixed ∷ renumbers (at 1 2) mixed read_only ∷ []

abbrev pub told_twice : List Step
told_twice = lost_twice ++ is_told (at 1 2) ∷ []

-- one client has two files, and another one of them
abbrev pub three : List Step
three = opens (at 1 2) ∷ opens (at 1 3) ∷ opens (at 2 2) ∷ []

-- one client has three files
abbrev pub three_files : List Step
three_files = opens (at 1 2) ∷ opens (at 1 3) ∷ opens (at 1 4) ∷ []
