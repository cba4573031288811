-- An event about one entry, by itself: it changes entries of its inode alone, and leaves of each what every state keeps, but that
-- what is due is held. It drops no request and leaves the messages.
use Rattle.std.proofs.Common.{◌≡◌, ◌≢◌, ◌≤◌, inl, inr, ℕ, ◌+◌, Bool, true, false, cond, ◌&&◌, ◌||◌, Option, Some, None, is_some, List, [], ◌∷◌, ◌++◌, refl}
use Rattle.std.proofs.Common.{sym, ap, subst, ◌∙◌, Contains, true≢false, arith, All}
use Rattle.std.proofs.lemmas.Bool.{and_from, or_right}
use Rattle.std.proofs.lemmas.List.Elements.{All-contains, All-filter, filter-append}
use Rattle.std.proofs.lemmas.List.Folds.{list_any-append}
use Rattle.std.specs.List.{find}
use Rattle.std.specs.Option.{option_map}
use Rattle.std.specs.FinMap as map
use Rattle.capbits.specs.Caps.{has}
use Rattle.capbits.specs.Sets.{no_caps}
use Rattle.capgrant.proofs.Pins.{pin_of_read, pin_of_write}
use Rattle.captable.proofs.ByInode.{entries_on-opened}
use Rattle.captable.proofs.Moves.{IsTable-touched}
use Rattle.captable.proofs.Tables.{IsTable-changed, IsTable-opened, IsTable-without}
use Rattle.captable.specs.Tests.{open_tests}
use Rattle.lockmachine.proofs.SameBut.{same-entries}
use Rattle.capstep.specs.Direct.{with_table}
use Rattle.capstep.specs.Judge.{after, basic_tests, before, needs, room_for}
use Rattle.capcore.proofs.CommonPieces.{AreGiven, ClientId, Direct, Entry, EntryRow, Event, Holder, Ino, IsInRow, IsInRowOf, IsLockAtRest, IsSound}
use Rattle.capcore.proofs.CommonPieces.{IsSoundEntry, IsSubset, IsTable, LockState, OpenMode, P, Part, Scene, StableState, State, StateMap, Table, WaitAt}
use Rattle.capcore.proofs.CommonPieces.{and_parts, change_rows, changed, effect, effective_want, entries_on, entries_on-changed, entries_on-without, entry_at}
use Rattle.capcore.proofs.CommonPieces.{entry_of, first_failing, has-caps_in, has-meet, has-none, has-of_part, has-union, has_pin, has_session, holder}
use Rattle.capcore.proofs.CommonPieces.{is_of_inode, is_open, is_row_of, judged, lock_at, lock_in, new_entry, opened, opening_wants, part_of_operation}
use Rattle.capcore.proofs.CommonPieces.{permitted, revoked_of, row_found, row_of-entry, same_equiv, test_at, union, wanting, without, without_acked}
use Rattle.capcore.proofs.CommonPieces.{without_released}
use Rattle.capcore.proofs.EntryStays.{IsLess, IsMade, each-after}
use Rattle.capcore.proofs.Forgotten.{all_rows}
use Rattle.capcore.proofs.Passed.{no_test}
use Rattle.capcore.proofs.LeftAlone.{found-contains}
use Rattle.capcore.proofs.Moved.{sound-waits}
use Rattle.capcore.proofs.Placed.{placed-in_row}
use Rattle.capcore.specs.Affected.{AffectsOne, IsAffectedEntry}
use Rattle.capcore.specs.EntryRequest.{entry_event, entry_request_tests, table_after}
use Rattle.capcore.specs.declared.entry_request.EntryRequest.{EntryRequest}
use Rattle.capcore.specs.declared.entry_request.EntryRequest.TheVariants.{Ack, Open, Release, Want}

-- ---- the tests of an event that nothing rejects

pub before-passed : (s : Scene) (e : Event) → judged s e ≡ None → first_failing (before s e) ≡ None
before-passed s e free = no_test s (before s e) (needs s e) (after s e) free

pub after-passed : (s : Scene) (e : Event) → judged s e ≡ None → first_failing (after s e) ≡ None
after-passed s e free = grind arith

-- what the table tests was passed
affected-tests : (s : Scene) (client : ClientId) (ino : Ino) (request : EntryRequest) → judged s (entry_event client ino request) ≡ None
    → first_failing (entry_request_tests s (holder client ino) request) ≡ None
affected-tests s client ino request free = grind arith

pub effect-affected : (old : State) (client : ClientId) (ino : Ino) (request : EntryRequest)
    → (effect old (entry_event client ino request)).state ≡ with_table old (table_after old.scene (holder client ino) request)
effect-affected old client ino request = grind arith

-- and where an opening may be, the pin is permitted
opening-pin : (s : Scene) (client : ClientId) (ino : Ino) (mode : OpenMode) → judged s (Event.Open client ino mode) ≡ None → has (permitted s.fs s.tree s.sessions (holder client ino)) P ≡ true
opening-pin s client ino mode free = grind (arith, pin_of_read, pin_of_write)

-- ---- an entry whose pin is held

-- what every state keeps of an entry, and where what it holds is
abbrev pub IsSoundInRow : Scene → EntryRow → Type 0
IsSoundInRow s row = IsSoundEntry s row × ((part : Part) → IsInRow s row part)

-- so an event may leave it, where its client has a session still, and the same inodes and locks are there
pub sound_in_row-left : (s new : Scene) (row : EntryRow) → has_session new.sessions row.holder.client.0 ≡ has_session s.sessions row.holder.client.0 → new.locks.states ≡ s.locks.states
    → ((ino : ℕ) → map.contains_key new.tree.nodes ino ≡ map.contains_key s.tree.nodes ino) → IsSoundInRow s row → IsAffectedEntry new row
sound_in_row-left s new row sessions states exist (entry, in_row) = record {
  of_session = sessions ∙ entry.of_session;
  on_inode = exist row.holder.ino.0 ∙ entry.on_inode;
  wants_pin = entry.wants_pin;
  pin = ap (λ b. b || has (effective_want new.fs new.tree new.sessions row) P) entry.holds_pin;
  in_row = λ part. subst (λ (m : StateMap). IsInRowOf row part (option_map (lock_in part) (map.get m row.holder.ino.0))) (sym states) (in_row part);
  told = entry.told;
  revoked = entry.revoked;
}

-- and every state keeps it
pub sound-row : (old : State) → IsSound old → (row : EntryRow) → Contains old.scene.table.rows row → find (is_row_of row.holder) old.scene.table.rows ≡ Some row → IsSoundInRow old.scene row
sound-row old sound row inside found = (
  All-contains (IsSoundEntry old.scene) old.scene.table.rows row sound.entries inside,
  λ part. placed-in_row old.scene row part (lock_at old.scene.locks row.holder.ino.0 part) (sound.in_place row part found),
)

pub sound-stays : (old : State) → IsSound old → IsTable old.scene.table → All (IsSoundInRow old.scene) old.scene.table.rows
sound-stays old sound table =
    all_rows (IsSoundInRow old.scene) old.scene.table.rows (λ row inside. sound-row old sound row inside (row_found old.scene.table row table inside))

-- so all are left, where the same sessions, inodes and locks are there
pub all-left : (old : State) (new : Scene) → IsSound old → IsTable old.scene.table → new.sessions ≡ old.scene.sessions → new.locks.states ≡ old.scene.locks.states
    → ((ino : ℕ) → map.contains_key new.tree.nodes ino ≡ map.contains_key old.scene.tree.nodes ino) → All (IsAffectedEntry new) old.scene.table.rows
all-left old new sound table sessions states exist = grind (arith, sound_in_row-left, sound-stays)

-- what becomes of it holds no more
less-in_row : (row : EntryRow) (e : Entry) (part : Part) (o : Option LockState) → IsSubset e.held row.entry.held → IsInRowOf row part o → IsInRowOf (record row { entry = e }) part o
less-in_row row e part o less is = grind (arith, and_parts, has-of_part)

less-affected : (s : Scene) (t : Table) (row : EntryRow) (was : Entry) → IsLess row.entry was → IsSoundInRow s (record row { entry = was }) → IsAffectedEntry (record s { table = t }) row
less-affected s t row was less (entry, in_row) =
    let rows : (part : Part) → IsInRow s row part = λ part. less-in_row (record row { entry = was }) row.entry part (lock_at s.locks row.holder.ino.0 part) less.held (in_row part) in grind arith

-- ---- an entry that an opening makes

-- the row of a holder, with this entry
abbrev row_with : Holder → Entry → EntryRow
row_with k e = record { holder = k; entry = e }

none_in_row : (row : EntryRow) (part : Part) (o : Option LockState) → row.entry.held ≡ no_caps → IsInRowOf row part o
none_in_row row part o none = grind (arith, has-of_part, has-none)

module _ (s : Scene) (client : ClientId) (ino : Ino) (passed : first_failing (basic_tests s client ino.0) ≡ None) where
  pub basic-session : has_session s.sessions client.0 ≡ true
  basic-session = grind arith

  pub basic-there : map.contains_key s.tree.nodes ino.0 ≡ true
  basic-there = grind arith

  -- it holds nothing, and wants what the opening takes: the pin is due
  new-affected : has (permitted s.fs s.tree s.sessions (holder client ino)) P ≡ true → (t : Table) (mode : OpenMode)
      → IsAffectedEntry (record s { table = t }) (row_with (holder client ino) (wanting (union no_caps (opening_wants mode)) new_entry))
  new-affected may t mode = grind (arith, or_right, none_in_row, has-meet, and_from, has-union, has-caps_in)

-- ---- the entries, as the event leaves them

-- where a holder had no row, it is its new one that changes
change-new : (rows : List EntryRow) (k : Holder) (f : Entry → Entry) (e : Entry) → entry_of (find (is_row_of k) rows) ≡ None
    → change_rows (rows ++ row_with k e ∷ []) k f ≡ rows ++ row_with k (f e) ∷ []
change-new [] k f e none = ap (λ b. cond b (row_with k (f e) ∷ []) (row_with k e ∷ [])) (same_equiv.refl k)
change-new (row ∷ rows) k f e none =
    elim (is_row_of k row) as (λ b. entry_of (cond b (Some row) (find (is_row_of k) rows)) ≡ None
    → cond b (record row { entry = f row.entry } ∷ (rows ++ row_with k e ∷ [])) (row ∷ change_rows (rows ++ row_with k e ∷ []) k f) ≡ row ∷ (rows ++ row_with k (f e) ∷ [])) [
      | true ↦ λ none. absurd (cc)
      | false ↦ λ none. ap (λ rest. row ∷ rest) (change-new rows k f e none)
    ] none

-- what is outside of a state, still is where an opening has made an entry
opened-open : (s : Scene) (k : Holder) (mode : OpenMode) (ino : ℕ) (part : Part) (to : StableState) → entry_at s.table k ≡ None → is_open s ino part to ≡ true
    → is_open (record s { table = table_after s k (Open mode) }) ino part to ≡ true
opened-open s k mode ino part to none is = grind (arith, change-new, filter-append {X = EntryRow}, list_any-append {X = EntryRow})

-- the entries on another inode stay
others-affected : (s : Scene) (k : Holder) (ino : Ino) → ino ≢ k.ino → (request : EntryRequest) → entries_on (table_after s k request) ino ≡ entries_on s.table ino
others-affected s k ino apart request = grind (arith, entries_on-changed, entries_on-opened, entries_on-without)

-- each holder has one row still
entry-table : (t : Table) (k : Holder) → IsTable t → first_failing (room_for t k) ≡ None → (o : Option Entry) → entry_at t k ≡ o → IsTable (cond (is_some o) t (opened t k))
entry-table t k is room (Some e) at = is
entry-table t k is room None at = IsTable-opened t k at (ap (λ o. first_failing (cond (is_some o) [] (open_tests t))) (sym at) ∙ room) is

less-table : (gone : Bool) (t : Table) (k : Holder) (g : Entry → Entry) → IsTable t → IsTable (cond gone (without t k) (changed t k g))
less-table true t k g is = IsTable-without t k is
less-table false t k g is = IsTable-changed t k g is

table-after : (s : Scene) (k : Holder) (request : EntryRequest) → IsTable s.table → first_failing (entry_request_tests s k request) ≡ None → IsTable (table_after s k request)
table-after s k (Open mode) is passed = IsTable-touched _ k (IsTable-changed _ k _ (entry-table s.table k is passed (entry_at s.table k) refl))
table-after s k (Want caps) is passed = IsTable-touched _ k (IsTable-changed s.table k _ is)
table-after s k (Ack seq) is passed = less-table (has (revoked_of s k) P && test_at has_pin s.table k) s.table k (without_acked (revoked_of s k)) is
table-after s k (Release caps) is passed = less-table (has caps P) s.table k (without_released caps) is

-- no entry has a higher number, and at most one more entry is made and one more request numbered
abbrev pub AreBelow : ℕ → State → Type 0
AreBelow count s = All (λ row. row.entry.seq ≤ count) s.scene.table.rows × (s.scene.table.made ≤ count + 1) × (s.scene.locks.last ≤ count + 1)

-- no request is dropped, and the messages stay
abbrev pub Keeps : State → Direct → Type 0
Keeps old d = (d.dropped ≡ []) × (d.state.messages ≡ old.messages)

pub keeps-of_request : (old : State) (k : Holder) (request : EntryRequest) → Keeps old (effect old (entry_event k.client k.ino request))
keeps-of_request old k request = grind arith

module _ (old : State) (k : Holder) (request : EntryRequest) (table : IsTable old.scene.table) (free : judged old.scene (entry_event k.client k.ino request) ≡ None) where
  abbrev rows : List EntryRow
  rows = old.scene.table.rows

  abbrev next : Scene
  next = record old.scene { table = table_after old.scene k request }

  pub request-table : IsTable next.table
  request-table = table-after old.scene k request table (affected-tests old.scene k.client k.ino request free)

  -- each row was there, with the entry that was; or an opening has made it
  by_row : (Fact : EntryRow → Type 0) → ((row : EntryRow) (was : Entry) → IsLess row.entry was → Contains rows (record row { entry = was }) → find (is_row_of row.holder) rows ≡ Some (record row { entry = was }) → Fact row)
      → ((row : EntryRow) → IsMade old.scene.table k row.holder request row.entry → Fact row) → (row : EntryRow) → Contains next.table.rows row → Fact row
  by_row Fact was made row inside = elim (each-after old.scene k request row.holder row.entry (ap entry_of (row_found next.table row request-table inside))) [
    | inl l ↦ (let found = row_of-entry old.scene.table row.holder l.was l.there in was row l.was l.less (found-contains (is_row_of row.holder) rows (record row { entry = l.was }) found) found)
    | inr m ↦ made row m
  ]

  pub below-of_request : (count : ℕ) → AreGiven count old → AreBelow count (effect old (entry_event k.client k.ino request)).state
  below-of_request count given =
      subst (AreBelow count) (sym (effect-affected old k.client k.ino request)) (
        all_rows (λ row. row.entry.seq ≤ count) next.table.rows
            (by_row (λ row. row.entry.seq ≤ count) (λ row was less inside found. rw (less.seq) (All-contains (λ row. row.entry.seq ≤ count) rows (record row { entry = was }) given.entries inside))
            (λ row m. rw (m.entry) (omega arith))),
        made-below request,
        omega (arith, given.last),
      )
    where
      made-below : (r : EntryRequest) → (table_after old.scene k r).made ≤ count + 1
      made-below r = grind (arith, given.made)

  module _ (sound : IsSound old) where
    affected-row : (row : EntryRow) → Contains next.table.rows row → IsAffectedEntry next row
    affected-row = by_row (IsAffectedEntry next)
        (λ row was less inside found. less-affected old.scene next.table row was less (sound-row old sound (record row { entry = was }) inside found))
        (λ row m.
        let opening : judged old.scene (Event.Open k.client k.ino m.mode) ≡ None = subst (λ r. judged old.scene (entry_event k.client k.ino r) ≡ None) m.is free in
        subst (IsAffectedEntry next) (λ i. row_with (sym m.own i) (sym m.entry i))
        (new-affected old.scene k.client k.ino (before-passed old.scene (Event.Open k.client k.ino m.mode) opening) (opening-pin old.scene k.client k.ino m.mode opening) next.table m.mode))

    -- of all rows but a new one the pin is held
    calm-row : (row : EntryRow) → Contains next.table.rows row → has row.entry.held P ≡ false → WaitAt (λ q. false) next
    calm-row = by_row (λ row. has row.entry.held P ≡ false → WaitAt (λ q. false) next)
        (λ row was less inside found none. (let e = All-contains (IsSoundEntry old.scene) rows (record row { entry = was }) sound.entries inside in absurd (true≢false (sym (less.pin e.holds_pin) ∙ none))))
        (λ row m none. subst (λ r. WaitAt (λ q. false) (record old.scene { table = table_after old.scene k r })) (sym m.is) (λ q waits off.
        let held = sound-waits old sound q waits off in
        record { from = held.from; to = held.to; gathers = held.gathers; is_held = opened-open old.scene k m.mode q.ino.0 (part_of_operation q.operation) held.to m.none held.is_held }))

    pub affects-of_request : AffectsOne k.ino.0 old next
    affects-of_request = record {
      same = same-entries k.ino.0 old.scene next.table (λ other apart. others-affected old.scene k other (λ same. apart (ap (λ (i : Ino). i.0) same)) request);
      states = refl;
      exist = λ other. refl;
      locked = sound.locked;
      waiting = sound.waiting;
      at_lock = λ part none. subst (IsLockAtRest old.scene k.ino.0 part) none (sound.at_rest.each k.ino.0 part);
      each = All-filter (is_of_inode (record { 0 = k.ino.0 })) (IsAffectedEntry next) next.table.rows (all_rows (IsAffectedEntry next) next.table.rows affected-row);
      calm = calm-row;
    }
