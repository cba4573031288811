-- The entry of a holder, after a change of the table.
use Rattle.std.proofs.Common.{◌≡◌, ℕ, Bool, true, false, not, ◌&&◌, cond, Option, Some, None, List, [], ◌∷◌, take, refl, sym, ap, ◌∙◌}
use Rattle.std.specs.Prelude.{◌≢◌, ◌==◌}
use Rattle.std.specs.List.{AllByRecursion, Contains, IsDistinct, find}
use Rattle.std.specs.Option.{option_map, option_or}
use Rattle.std.proofs.lemmas.List.Folds.{find-append}
use Rattle.std.proofs.lemmas.List.Elements.{All-contains, All-from_recursion}
use Rattle.capbits.specs.declared.cap.Cap.TheVariants.{P}
use Rattle.capbits.specs.declared.ids.ClientId.{ClientId}
use Rattle.capbits.specs.Caps.{Caps, has}
use Rattle.capbits.specs.Sets.{true_eq}
use Rattle.capbits.specs.SetNumbers.{eq_true}
use Rattle.captable.specs.declared.entry.Holder.{Holder}
use Rattle.captable.specs.declared.entry.Entry.{Entry}
use Rattle.captable.specs.declared.entry.EntryRow.{EntryRow}
use Rattle.captable.specs.Table.{IsTable, Table, entry_at, entry_of, holders_of_rows, is_among, is_row_of, same}
use Rattle.captable.specs.Tests.{test_at}
use Rattle.captable.specs.Calls.{acked, asked_row, change_rows, changed, has_pin, is_of_client, new_entry, opened, recalled, released, with_asked, without}
use Rattle.captable.specs.Calls.{without_acked, without_client, without_released}
use Rattle.captable.proofs.Tables.{same-is, same_equiv}
use Rattle.captable.proofs.Changes.{no_entry}
use Rattle.captable.proofs.Searches.{find-filter_gone, find-filter_kept, find-map, find_passes}

-- two that differ are not the same
pub same-apart : (j k : Holder) → j ≢ k → same j k ≡ false
same-apart j k apart = by_test (same j k) refl
  where
    by_test : (b : Bool) → same j k ≡ b → b ≡ false
    by_test false e = refl
    by_test true e = absurd (apart (same-is j k e))

-- the row of a holder's entry
pub row_of-entry : (t : Table) (k : Holder) (e : Entry) → entry_at t k ≡ Some e → find (is_row_of k) t.rows ≡ Some (record { holder = k; entry = e })
row_of-entry t k e at = by_case (find (is_row_of k) t.rows) refl at
  where
    by_case : (o : Option EntryRow) → find (is_row_of k) t.rows ≡ o → entry_of o ≡ Some e → o ≡ Some (record { holder = k; entry = e })
    by_case None found at = absurd (cc)
    by_case (Some row) found at =
        let mine : k ≡ row.holder = same-is k row.holder (find_passes (is_row_of k) t.rows row found) in
        let its : row.entry ≡ e = cc in
        λ i. Some (record { holder = sym mine i; entry = its i })

-- ---- a change

-- the row of another holder
pub find-change_other : (rows : List EntryRow) (k j : Holder) (f : Entry → Entry) → same j k ≡ false → find (is_row_of j) (change_rows rows k f) ≡ find (is_row_of j) rows
find-change_other [] k j f apart = refl
find-change_other (row ∷ rows) k j f apart =
    elim (is_row_of k row) as (λ b. is_row_of k row ≡ b → find (is_row_of j) (cond b (record row { entry = f row.entry } ∷ rows) (row ∷ change_rows rows k f)) ≡ find (is_row_of j) (row ∷ rows)) [
      | true ↦ λ e. (let out : same j row.holder ≡ false = ap (same j) (sym (same-is k row.holder e)) ∙ apart in
          ap (λ b. cond b (Some (record row { entry = f row.entry })) (find (is_row_of j) rows)) out ∙ sym (ap (λ b. cond b (Some row) (find (is_row_of j) rows)) out))
      | false ↦ λ e. ap (λ o. cond (same j row.holder) (Some row) o) (find-change_other rows k j f apart)
    ] refl

entry-change : (rows : List EntryRow) (k : Holder) (f : Entry → Entry) → entry_of (find (is_row_of k) (change_rows rows k f)) ≡ option_map f (entry_of (find (is_row_of k) rows))
entry-change [] k f = refl
entry-change (row ∷ rows) k f =
    elim (is_row_of k row) as (λ b. is_row_of k row ≡ b → entry_of (find (is_row_of k) (cond b (record row { entry = f row.entry } ∷ rows) (row ∷ change_rows rows k f))) ≡ option_map f (entry_of (cond b (Some row) (find (is_row_of k) rows)))) [
      | true ↦ λ e. ap (λ c. entry_of (cond c (Some (record row { entry = f row.entry })) (find (is_row_of k) rows))) e
      | false ↦ λ e. ap (λ c. entry_of (cond c (Some row) (find (is_row_of k) (change_rows rows k f)))) e ∙ entry-change rows k f
    ] refl

pub entry_at-changed : (t : Table) (k : Holder) (f : Entry → Entry) → entry_at (changed t k f) k ≡ option_map f (entry_at t k)
entry_at-changed t k f = entry-change t.rows k f

pub entry_at-changed_other : (t : Table) (k j : Holder) (f : Entry → Entry) → j ≢ k → entry_at (changed t k f) j ≡ entry_at t j
entry_at-changed_other t k j f apart = ap entry_of (find-change_other t.rows k j f (same-apart j k apart))

-- ---- an opening

new_row : Holder → EntryRow
new_row k = record { holder = k; entry = new_entry }

pub entry_at-opened : (t : Table) (k : Holder) → entry_at t k ≡ None → entry_at (opened t k) k ≡ Some new_entry
unfolding new_row
entry_at-opened t k none =
    ap entry_of (find-append (is_row_of k) t.rows (new_row k ∷ [])
    ∙ ap (λ o. option_or o (find (is_row_of k) (new_row k ∷ []))) (no_entry (find (is_row_of k) t.rows) none)
    ∙ ap (λ b. cond b (Some (new_row k)) None) (same_equiv.refl k))

or_none : {X : Type 0} (o : Option X) → option_or o None ≡ o
or_none None = refl
or_none (Some x) = refl

pub entry_at-opened_other : (t : Table) (k j : Holder) → j ≢ k → entry_at (opened t k) j ≡ entry_at t j
unfolding new_row
entry_at-opened_other t k j apart =
    ap entry_of (find-append (is_row_of j) t.rows (new_row k ∷ [])
    ∙ ap (λ b. option_or (find (is_row_of j) t.rows) (cond b (Some (new_row k)) None)) (same-apart j k apart)
    ∙ or_none (find (is_row_of j) t.rows))

-- ---- fewer entries

pub entry_at-without : (t : Table) (k : Holder) → entry_at (without t k) k ≡ None
entry_at-without t k = ap entry_of (find-filter_gone (is_row_of k) (λ row. not (is_row_of k row)) (λ row e. ap not e) t.rows)

pub entry_at-without_other : (t : Table) (k j : Holder) → j ≢ k → entry_at (without t k) j ≡ entry_at t j
entry_at-without_other t k j apart =
    ap entry_of (find-filter_kept (is_row_of j) (λ row. not (is_row_of k row))
    (λ row e. ap not (ap (same k) (sym (same-is j row.holder e)) ∙ same_equiv.symm k j ∙ same-apart j k apart)) t.rows)

pub entry_at-without_client : (t : Table) (client : ClientId) (k : Holder) → k.client ≡ client → entry_at (without_client t client) k ≡ None
entry_at-without_client t client k of =
    ap entry_of (find-filter_gone (is_row_of k) (λ row. not (is_of_client client row))
    (λ row e. ap not (eq_true row.holder.client.0 client.0 (ap (λ (h : Holder). h.client.0) (sym (same-is k row.holder e)) ∙ ap (λ (c : ClientId). c.0) of))) t.rows)

client-apart : (a b : ClientId) → a ≢ b → (a.0 == b.0) ≡ false
client-apart a b apart = by_test (a.0 == b.0) refl
  where
    by_test : (t : Bool) → (a.0 == b.0) ≡ t → t ≡ false
    by_test false e = refl
    by_test true e = absurd (apart (λ i. record { 0 = true_eq a.0 b.0 e i }))

pub entry_at-without_client_other : (t : Table) (client : ClientId) (k : Holder) → k.client ≢ client → entry_at (without_client t client) k ≡ entry_at t k
entry_at-without_client_other t client k apart =
    ap entry_of (find-filter_kept (is_row_of k) (λ row. not (is_of_client client row))
    (λ row e. ap not (ap (λ (h : Holder). h.client.0 == client.0) (sym (same-is k row.holder e)) ∙ client-apart k.client client apart)) t.rows)

-- ---- a release

pub entry_at-released_pin : (t : Table) (k : Holder) (caps : Caps) → has caps P ≡ true → entry_at (released t k caps) k ≡ None
entry_at-released_pin t k caps pin = ap (λ b. entry_at (cond b (without t k) (changed t k (without_released caps))) k) pin ∙ entry_at-without t k

pub entry_at-released : (t : Table) (k : Holder) (caps : Caps) → has caps P ≡ false → entry_at (released t k caps) k ≡ option_map (without_released caps) (entry_at t k)
entry_at-released t k caps no_pin = ap (λ b. entry_at (cond b (without t k) (changed t k (without_released caps))) k) no_pin ∙ entry_at-changed t k (without_released caps)

pub entry_at-released_other : (t : Table) (k j : Holder) (caps : Caps) → j ≢ k → entry_at (released t k caps) j ≡ entry_at t j
entry_at-released_other t k j caps apart =
    elim (has caps P) as (λ b. entry_at (cond b (without t k) (changed t k (without_released caps))) j ≡ entry_at t j)
    [ true ↦ entry_at-without_other t k j apart | false ↦ entry_at-changed_other t k j (without_released caps) apart ]

-- ---- an acknowledgement

pub entry_at-acked_other : (t : Table) (k j : Holder) (against : Caps) → j ≢ k → entry_at (acked t k against) j ≡ entry_at t j
entry_at-acked_other t k j against apart =
    elim (has against P && test_at has_pin t k) as (λ b. entry_at (cond b (without t k) (changed t k (without_acked against))) j ≡ entry_at t j)
    [ true ↦ entry_at-without_other t k j apart | false ↦ entry_at-changed_other t k j (without_acked against) apart ]

-- ---- a recall

-- an entry that is asked keeps its holder
pub holder-asked : (named : List Holder) (row : EntryRow) → (asked_row named row).holder ≡ row.holder
holder-asked named row =
    elim (is_among named row.holder) as (λ b. (cond b (record row { entry = with_asked true row.entry }) row).holder ≡ row.holder) [ true ↦ refl | false ↦ refl ]

entry-asked : (named : List Holder) (k : Holder) (b : Bool) → is_among named k ≡ b → (o : Option EntryRow) → ((row : EntryRow) → o ≡ Some row → k ≡ row.holder)
    → entry_of (option_map (asked_row named) o) ≡ cond b (option_map (with_asked true) (entry_of o)) (entry_of o)
entry-asked named k true is None of = refl
entry-asked named k false is None of = refl
entry-asked named k true is (Some row) of =
    ap (λ b. Some (cond b (record row { entry = with_asked true row.entry }) row).entry) (ap (is_among named) (sym (of row refl)) ∙ is)
entry-asked named k false is (Some row) of =
    ap (λ b. Some (cond b (record row { entry = with_asked true row.entry }) row).entry) (ap (is_among named) (sym (of row refl)) ∙ is)

entry-recalled : (t : Table) (n : ℕ) (k : Holder) (b : Bool) → is_among (take n t.recall) k ≡ b → entry_at (recalled t n) k ≡ cond b (option_map (with_asked true) (entry_at t k)) (entry_at t k)
entry-recalled t n k b is =
    let named = take n t.recall in
    ap entry_of (find-map (is_row_of k) (asked_row named) (λ row. ap (same k) (holder-asked named row)) t.rows)
    ∙ entry-asked named k b is (find (is_row_of k) t.rows) (λ row found. same-is k row.holder (find_passes (is_row_of k) t.rows row found))

pub entry_at-recalled : (t : Table) (n : ℕ) (k : Holder) → is_among (take n t.recall) k ≡ true → entry_at (recalled t n) k ≡ option_map (with_asked true) (entry_at t k)
entry_at-recalled t n k is = entry-recalled t n k true is

pub entry_at-recalled_other : (t : Table) (n : ℕ) (k : Holder) → is_among (take n t.recall) k ≡ false → entry_at (recalled t n) k ≡ entry_at t k
entry_at-recalled_other t n k is = entry-recalled t n k false is

-- ---- the row of each

found_behind : (row : EntryRow) (rest whole : List EntryRow) → AllByRecursion (λ h. same row.holder h ≡ false) (holders_of_rows rest)
    → AllByRecursion (λ r. find (is_row_of r.holder) whole ≡ Some r) rest → AllByRecursion (λ r. find (is_row_of r.holder) (row ∷ whole) ≡ Some r) rest
found_behind row [] whole apart found = tt
found_behind row (r ∷ rest) whole apart found =
    (ap (λ b. cond b (Some row) (find (is_row_of r.holder) whole)) (same_equiv.symm r.holder row.holder ∙ apart.0) ∙ found.0, found_behind row rest whole apart.1 found.1)

-- rows of different holders are found by them
pub each_found : (rows : List EntryRow) → IsDistinct same (holders_of_rows rows) → AllByRecursion (λ row. find (is_row_of row.holder) rows ≡ Some row) rows
unfolding IsDistinct
each_found [] apart = tt
each_found (row ∷ rows) apart =
    (ap (λ b. cond b (Some row) (find (is_row_of row.holder) rows)) (same_equiv.refl row.holder), found_behind row rows rows apart.0 (each_found rows apart.1))

pub row_found : (t : Table) (row : EntryRow) → IsTable t → Contains t.rows row → find (is_row_of row.holder) t.rows ≡ Some row
row_found t row is there =
    let Found : EntryRow → Type 0 = λ row. find (is_row_of row.holder) t.rows ≡ Some row in
    All-contains Found t.rows row (All-from_recursion Found t.rows (each_found t.rows is.one_row)) there
