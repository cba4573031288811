-- What the changes of a table keep.
use Rattle.std.proofs.Common.{◌≡◌, ℕ, ◌<◌, ◌≤◌, Bool, true, false, not, take, ◌&&◌, ◌||◌, cond, Some, None, List, [], ◌∷◌, ◌++◌, map, length, filter, refl}
use Rattle.std.proofs.Common.{sym, ap, ◌∙◌, arith, suc, nat_le, length-append}
use Rattle.std.specs.List.{AllByRecursion, IsDistinct, find}
use Rattle.std.specs.Cmp.{IsEquivalence, nat_eq_equiv}
use Rattle.std.proofs.lemmas.List.Folds.{list_any-append}
use Rattle.std.proofs.lemmas.Map.Keys.{IsDistinct-push}
use Rattle.std.proofs.lemmas.Bool.{and_from, and_parts, leb-false}
use Rattle.std.specs.Prelude.{◌==◌}
use Rattle.std.proofs.Math.Bool.{or-false}
use Rattle.capbits.specs.declared.cap.Cap.TheVariants.{P}
use Rattle.capbits.specs.declared.ids.ClientId.{ClientId}
use Rattle.capbits.specs.Caps.{Caps, has}
use Rattle.capbits.specs.Sets.{true_eq}
use Rattle.capbits.specs.declared.refusal.Refusal.TheVariants.{Limit}
use Rattle.capbits.specs.Refusal.{first_failing}
use Rattle.capbits.proofs.Tests.{passed-if}
use Rattle.captable.specs.declared.entry.Holder.{Holder}
use Rattle.captable.specs.declared.entry.Entry.{Entry}
use Rattle.captable.specs.declared.entry.EntryRow.{EntryRow}
use Rattle.captable.specs.Table.{IsTable, Table, empty, entry_at, entry_of, holders_of_rows, is_among, is_row_of, same}
use Rattle.captable.specs.Tests.{open_tests}
use Rattle.captable.specs.Calls.{asked_row, change_rows, changed, new_entry, opened, recalled, released, without, without_client, without_released}

pub same_equiv : IsEquivalence same
same_equiv =
    record {
      refl = λ k. and_from _ _ (nat_eq_equiv.refl k.client.0) (nat_eq_equiv.refl k.ino.0);
      symm = λ j k. λ i. nat_eq_equiv.symm j.client.0 k.client.0 i && nat_eq_equiv.symm j.ino.0 k.ino.0 i;
      congr = λ x y z e. let p = and_parts _ _ e in λ i. nat_eq_equiv.congr x.client.0 y.client.0 z.client.0 p.0 i && nat_eq_equiv.congr x.ino.0 y.ino.0 z.ino.0 p.1 i;
    }

-- the same client on the same inode is one holder
pub same-is : (j k : Holder) → same j k ≡ true → j ≡ k
same-is j k e =
    let p = and_parts _ _ e in
    let client = true_eq j.client.0 k.client.0 p.0 in
    let ino = true_eq j.ino.0 k.ino.0 p.1 in
    λ i. record { client = record { 0 = client i }; ino = record { 0 = ino i } }

-- ---- another entry

-- a change keeps the holders
holders-change : (rows : List EntryRow) (k : Holder) (f : Entry → Entry) → holders_of_rows (change_rows rows k f) ≡ holders_of_rows rows
holders-change [] k f = refl
holders-change (row ∷ rows) k f =
    elim (same k row.holder) as (λ b. holders_of_rows (cond b (record row { entry = f row.entry } ∷ rows) (row ∷ change_rows rows k f)) ≡ row.holder ∷ holders_of_rows rows)
    [ true ↦ refl | false ↦ ap (λ hs. row.holder ∷ hs) (holders-change rows k f) ]

length-holders : (rows : List EntryRow) → length (holders_of_rows rows) ≡ length rows
length-holders [] = refl
length-holders (row ∷ rows) = ap suc (length-holders rows)

-- other rows of the same holders, with the same order of recall
pub IsTable-rows : (t : Table) (rows : List EntryRow) → holders_of_rows rows ≡ holders_of_rows t.rows → IsTable t → IsTable (record t { rows = rows })
IsTable-rows t rows e is =
    record {
      one_row = rw e is.one_row;
      one_recall = is.one_recall;
      in_both = λ q. rw e (is.in_both q);
      room = rw (sym (length-holders rows) ∙ ap length e ∙ length-holders t.rows) is.room;
    }

pub IsTable-changed : (t : Table) (k : Holder) (f : Entry → Entry) → IsTable t → IsTable (changed t k f)
IsTable-changed t k f is = IsTable-rows t (change_rows t.rows k f) (holders-change t.rows k f) is

holders-asked : (named : List Holder) (rows : List EntryRow) → holders_of_rows (map (asked_row named) rows) ≡ holders_of_rows rows
holders-asked named [] = refl
holders-asked named (row ∷ rows) =
    let rest = holders-asked named rows in
    elim (is_among named row.holder) as (λ b. (cond b (record row { entry = record row.entry { asked = true } }) row).holder ∷ holders_of_rows (map (asked_row named) rows) ≡ row.holder ∷ holders_of_rows rows)
    [ true ↦ ap (λ hs. row.holder ∷ hs) rest | false ↦ ap (λ hs. row.holder ∷ hs) rest ]

pub IsTable-asked : (t : Table) (named : List Holder) → IsTable t → IsTable (record t { rows = map (asked_row named) t.rows })
IsTable-asked t named is = IsTable-rows t (map (asked_row named) t.rows) (holders-asked named t.rows) is

-- ---- one more

pub is_among-push : (hs : List Holder) (k q : Holder) → is_among (hs ++ k ∷ []) q ≡ (is_among hs q || same q k)
is_among-push hs k q = list_any-append (same q) hs (k ∷ []) ∙ ap (λ b. is_among hs q || b) (or-false (same q k))

-- a holder with no entry has no row
pub no_row : (rows : List EntryRow) (k : Holder) → entry_of (find (is_row_of k) rows) ≡ None → is_among (holders_of_rows rows) k ≡ false
no_row [] k none = refl
no_row (r ∷ rows) k none =
    elim (same k r.holder) as (λ b. entry_of (cond b (Some r) (find (is_row_of k) rows)) ≡ None → (b || is_among (holders_of_rows rows) k) ≡ false)
    [ true ↦ λ none. absurd (cc) | false ↦ λ none. no_row rows k none ] none

holders-append : (rows : List EntryRow) (row : EntryRow) → holders_of_rows (rows ++ row ∷ []) ≡ holders_of_rows rows ++ row.holder ∷ []
holders-append [] row = refl
holders-append (r ∷ rows) row = ap (λ hs. r.holder ∷ hs) (holders-append rows row)

room_left : (t : Table) → first_failing (open_tests t) ≡ None → length t.rows < 65536
room_left t passed = let full = passed-if (nat_le 65536 (length t.rows)) Limit None passed in leb-false _ _ full.0

pub IsTable-opened : (t : Table) (k : Holder) → entry_at t k ≡ None → first_failing (open_tests t) ≡ None → IsTable t → IsTable (opened t k)
IsTable-opened t k none has_room is =
    let new_row : EntryRow = record { holder = k; entry = new_entry } in
    let e = holders-append t.rows new_row in
    let apart = no_row t.rows k none in
    record {
      one_row = rw e (IsDistinct-push same_equiv (holders_of_rows t.rows) k is.one_row apart);
      one_recall = IsDistinct-push same_equiv t.recall k is.one_recall (is.in_both k ∙ apart);
      in_both = λ q. is_among-push t.recall k q ∙ ap (λ b. b || same q k) (is.in_both q) ∙ sym (rw e (is_among-push (holders_of_rows t.rows) k q));
      room = omega (arith, room_left t has_room, length-append t.rows (new_row ∷ []));
    }

pub IsTable-empty : IsTable empty
unfolding IsDistinct
IsTable-empty = record { one_row = tt; one_recall = tt; in_both = λ q. refl; room = omega arith }

-- ---- fewer

pub holders-filter : (p : Holder → Bool) (rows : List EntryRow) → holders_of_rows (filter (λ row. p row.holder) rows) ≡ filter p (holders_of_rows rows)
holders-filter p [] = refl
holders-filter p (row ∷ rows) =
    elim (p row.holder) as (λ b. holders_of_rows (cond b (row ∷ filter (λ row. p row.holder) rows) (filter (λ row. p row.holder) rows)) ≡ cond b (row.holder ∷ filter p (holders_of_rows rows)) (filter p (holders_of_rows rows)))
    [ true ↦ ap (λ hs. row.holder ∷ hs) (holders-filter p rows) | false ↦ holders-filter p rows ]

apart-filter : (p : Holder → Bool) (k : Holder) (hs : List Holder) → AllByRecursion (λ h. same k h ≡ false) hs → AllByRecursion (λ h. same k h ≡ false) (filter p hs)
apart-filter p k [] all = tt
apart-filter p k (h ∷ hs) all =
    elim (p h) as (λ b. AllByRecursion (λ h. same k h ≡ false) (cond b (h ∷ filter p hs) (filter p hs)))
    [ true ↦ (all.0, apart-filter p k hs all.1) | false ↦ apart-filter p k hs all.1 ]

pub distinct-filter : (p : Holder → Bool) (hs : List Holder) → IsDistinct same hs → IsDistinct same (filter p hs)
unfolding IsDistinct
distinct-filter p [] all = tt
distinct-filter p (h ∷ hs) all =
    elim (p h) as (λ b. IsDistinct same (cond b (h ∷ filter p hs) (filter p hs)))
    [ true ↦ (apart-filter p h hs all.0, distinct-filter p hs all.1) | false ↦ distinct-filter p hs all.1 ]

length-filter_le : {X : Type 0} (p : X → Bool) (xs : List X) → length (filter p xs) ≤ length xs
length-filter_le p [] = omega arith
length-filter_le p (x ∷ xs) =
    elim (p x) as (λ b. length (cond b (x ∷ filter p xs) (filter p xs)) ≤ suc (length xs))
    [ true ↦ omega (arith, length-filter_le p xs) | false ↦ omega (arith, length-filter_le p xs) ]

among_here : (p : Holder → Bool) (h : Holder) (hs : List Holder) → is_among (filter p hs) h ≡ (p h && is_among hs h) → is_among (filter p (h ∷ hs)) h ≡ (p h && true)
among_here p h hs rest =
    elim (p h) as (λ b. is_among (filter p hs) h ≡ (b && is_among hs h) → is_among (cond b (h ∷ filter p hs) (filter p hs)) h ≡ (b && true))
    [ true ↦ λ rest. ap (λ s. s || is_among (filter p hs) h) (same_equiv.refl h) | false ↦ λ rest. rest ] rest

among_there : (p : Holder → Bool) (q h : Holder) (hs : List Holder) → same q h ≡ false → is_among (filter p hs) q ≡ (p q && is_among hs q) → is_among (filter p (h ∷ hs)) q ≡ (p q && is_among hs q)
among_there p q h hs e rest =
    elim (p h) as (λ b. is_among (cond b (h ∷ filter p hs) (filter p hs)) q ≡ (p q && is_among hs q))
    [ true ↦ ap (λ s. s || is_among (filter p hs) q) e ∙ rest | false ↦ rest ]

-- who is among those that pass a test
pub among-filter : (p : Holder → Bool) (hs : List Holder) (q : Holder) → is_among (filter p hs) q ≡ (p q && is_among hs q)
among-filter p [] q =
    elim (p q) as (λ b. false ≡ (b && false)) [ true ↦ refl | false ↦ refl ]
among-filter p (h ∷ hs) q =
    let here = among_here p h hs (among-filter p hs h) in
    let rest = among-filter p hs q in
    elim (same q h) as (λ s. same q h ≡ s → is_among (filter p (h ∷ hs)) q ≡ (p q && (s || is_among hs q))) [
      | true ↦ λ e. rw (same-is q h e) here
      | false ↦ λ e. among_there p q h hs e rest
    ] refl

-- those that pass a test
pub IsTable-stays : (t : Table) (p : Holder → Bool) → IsTable t → IsTable (record t { rows = filter (λ row. p row.holder) t.rows; recall = filter p t.recall })
IsTable-stays t p is =
    let e = holders-filter p t.rows in
    record {
      one_row = rw e (distinct-filter p (holders_of_rows t.rows) is.one_row);
      one_recall = distinct-filter p t.recall is.one_recall;
      in_both = λ q. among-filter p t.recall q ∙ ap (λ b. p q && b) (is.in_both q) ∙ sym (rw e (among-filter p (holders_of_rows t.rows) q));
      room = omega (arith, length-filter_le (λ (row : EntryRow). p row.holder) t.rows, is.room);
    }

pub IsTable-without : (t : Table) (k : Holder) → IsTable t → IsTable (without t k)
IsTable-without t k is = IsTable-stays t (λ h. not (same k h)) is

pub IsTable-without_client : (t : Table) (client : ClientId) → IsTable t → IsTable (without_client t client)
IsTable-without_client t client is = IsTable-stays t (λ h. not (h.client.0 == client.0)) is

pub IsTable-recalled : (t : Table) (n : ℕ) → IsTable t → IsTable (recalled t n)
IsTable-recalled t n is = IsTable-asked t (take n t.recall) is

pub IsTable-released : (t : Table) (k : Holder) (caps : Caps) → IsTable t → IsTable (released t k caps)
IsTable-released t k caps is =
    elim (has caps P) as (λ b. IsTable (cond b (without t k) (changed t k (without_released caps))))
    [ true ↦ IsTable-without t k is | false ↦ IsTable-changed t k (without_released caps) is ]
