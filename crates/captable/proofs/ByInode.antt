-- The entries on an inode, after a change of the table.
use Rattle.std.proofs.Common.{◌≡◌, ℕ, Bool, true, false, not, cond, List, [], ◌∷◌, ◌++◌, map, filter, take, refl, sym, ap, ◌∙◌, append-nil}
use Rattle.std.specs.Prelude.{◌≢◌, ◌==◌}
use Rattle.std.proofs.lemmas.List.Elements.{filter-append}
use Rattle.capbits.specs.declared.cap.Cap.TheVariants.{P}
use Rattle.capbits.specs.declared.ids.ClientId.{ClientId}
use Rattle.capbits.specs.declared.ids.Ino.{Ino}
use Rattle.capbits.specs.Caps.{Caps, has}
use Rattle.capbits.specs.Sets.{true_eq}
use Rattle.captable.specs.declared.entry.Holder.{Holder}
use Rattle.captable.specs.declared.entry.Entry.{Entry}
use Rattle.captable.specs.declared.entry.EntryRow.{EntryRow}
use Rattle.captable.specs.Table.{Table, is_row_of}
use Rattle.captable.specs.Calls.{asked_row, change_rows, changed, entries_on, is_of_client, is_of_inode, new_entry, opened, recalled, released, without}
use Rattle.captable.specs.Calls.{without_client, without_released}
use Rattle.captable.proofs.Tables.{same-is}
use Rattle.captable.proofs.ByHolder.{holder-asked}
use Rattle.captable.proofs.Searches.{filter-filter, filter-filter_kept, filter-map}

inos-apart : (a b : Ino) → b ≢ a → (a.0 == b.0) ≡ false
inos-apart a b apart = by_test (a.0 == b.0) refl
  where
    by_test : (t : Bool) → (a.0 == b.0) ≡ t → t ≡ false
    by_test false e = refl
    by_test true e = absurd (apart (λ i. record { 0 = sym (true_eq a.0 b.0 e) i }))

-- the row of a holder on another inode
elsewhere : (k : Holder) (ino : Ino) → ino ≢ k.ino → (row : EntryRow) → is_row_of k row ≡ true → is_of_inode ino row ≡ false
elsewhere k ino apart row is = ap (λ (h : Holder). h.ino.0 == ino.0) (sym (same-is k row.holder is)) ∙ inos-apart k.ino ino apart

filter-change : (rows : List EntryRow) (k : Holder) (f : Entry → Entry) (ino : Ino) → ino ≢ k.ino → filter (is_of_inode ino) (change_rows rows k f) ≡ filter (is_of_inode ino) rows
filter-change [] k f ino apart = refl
filter-change (row ∷ rows) k f ino apart =
    let on : EntryRow → Bool = is_of_inode ino in
    elim (is_row_of k row) as (λ b. is_row_of k row ≡ b → filter on (cond b (record row { entry = f row.entry } ∷ rows) (row ∷ change_rows rows k f)) ≡ filter on (row ∷ rows)) [
      | true ↦ λ e. (let out : on row ≡ false = elsewhere k ino apart row e in
          ap (λ b. cond b (record row { entry = f row.entry } ∷ filter on rows) (filter on rows)) out ∙ sym (ap (λ b. cond b (row ∷ filter on rows) (filter on rows)) out))
      | false ↦ λ e. ap (λ rest. cond (on row) (row ∷ rest) rest) (filter-change rows k f ino apart)
    ] refl

pub entries_on-changed : (t : Table) (k : Holder) (f : Entry → Entry) (ino : Ino) → ino ≢ k.ino → entries_on (changed t k f) ino ≡ entries_on t ino
entries_on-changed t k f ino apart = filter-change t.rows k f ino apart

pub entries_on-opened : (t : Table) (k : Holder) (ino : Ino) → ino ≢ k.ino → entries_on (opened t k) ino ≡ entries_on t ino
entries_on-opened t k ino apart =
    let row : EntryRow = record { holder = k; entry = new_entry } in
    filter-append (is_of_inode ino) t.rows (row ∷ [])
    ∙ ap (λ b. entries_on t ino ++ cond b (row ∷ []) []) (inos-apart k.ino ino apart) ∙ append-nil (entries_on t ino)

pub entries_on-without : (t : Table) (k : Holder) (ino : Ino) → ino ≢ k.ino → entries_on (without t k) ino ≡ entries_on t ino
entries_on-without t k ino apart = filter-filter_kept (is_of_inode ino) (λ row. not (is_row_of k row)) (λ row on. stays row on) t.rows
  where
    stays : (row : EntryRow) → is_of_inode ino row ≡ true → not (is_row_of k row) ≡ true
    stays row on = by_test (is_row_of k row) refl
      where
        by_test : (b : Bool) → is_row_of k row ≡ b → not b ≡ true
        by_test false e = refl
        by_test true e = sym (elsewhere k ino apart row e) ∙ on

pub entries_on-released : (t : Table) (k : Holder) (caps : Caps) (ino : Ino) → ino ≢ k.ino → entries_on (released t k caps) ino ≡ entries_on t ino
entries_on-released t k caps ino apart =
    elim (has caps P) as (λ b. entries_on (cond b (without t k) (changed t k (without_released caps))) ino ≡ entries_on t ino)
    [ true ↦ entries_on-without t k ino apart | false ↦ entries_on-changed t k (without_released caps) ino apart ]

pub entries_on-without_client : (t : Table) (client : ClientId) (ino : Ino) → entries_on (without_client t client) ino ≡ filter (λ row. not (is_of_client client row)) (entries_on t ino)
entries_on-without_client t client ino = filter-filter (is_of_inode ino) (λ row. not (is_of_client client row)) t.rows

pub entries_on-recalled : (t : Table) (n : ℕ) (ino : Ino) → entries_on (recalled t n) ino ≡ map (asked_row (take n t.recall)) (entries_on t ino)
entries_on-recalled t n ino =
    filter-map (is_of_inode ino) (asked_row (take n t.recall)) (λ row. ap (λ (h : Holder). h.ino.0 == ino.0) (holder-asked (take n t.recall) row)) t.rows
