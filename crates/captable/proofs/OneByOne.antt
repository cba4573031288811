-- Entries that are changed one after another are changed all at once: each holder has one row, and is named once.
use Rattle.std.proofs.Common.{◌≡◌, Bool, true, false, cond, ◌||◌, ◌&&◌, List, [], ◌∷◌, map, filter, refl, sym, ap, subst, ◌∙◌}
use Rattle.std.specs.Prelude.{◌==◌}
use Rattle.std.specs.List.{AllByRecursion, IsDistinct, fold}
use Rattle.std.proofs.Math.Bool.{and-true, or-true}
use Rattle.capbits.specs.declared.ids.Ino.{Ino}
use Rattle.captable.specs.declared.entry.Entry.{Entry}
use Rattle.captable.specs.declared.entry.EntryRow.{EntryRow}
use Rattle.captable.specs.declared.entry.Holder.{Holder}
use Rattle.captable.specs.Table.{IsTable, Table, holders_of_rows, is_among, is_row_of, same}
use Rattle.captable.specs.Calls.{change_rows, entries_on, is_of_inode}
use Rattle.captable.specs.Many.{changed_by, changed_where, remade}
use Rattle.captable.proofs.Tables.{among-filter, distinct-filter, holders-filter, same-is, same_equiv}

module _ (g : EntryRow → Entry) where
  -- the rows, in which the holder's entry becomes what g makes of its row
  abbrev pub change_by : List EntryRow → Holder → List EntryRow
  change_by rows k = change_rows rows k (λ e. g (record { holder = k; entry = e }))

  -- the row, remade if it passes a test
  abbrev pub if_passing : (EntryRow → Bool) → EntryRow → EntryRow
  if_passing passes row = cond (passes row) (remade g row) row

  -- ---- one holder

  none_there : (k : Holder) (rows : List EntryRow) → AllByRecursion (λ h. same k h ≡ false) (holders_of_rows rows) → map (if_passing (is_row_of k)) rows ≡ rows
  none_there k [] none = refl
  none_there k (row ∷ rows) none = λ i. cond (none.0 i) (remade g row) row ∷ none_there k rows none.1 i

  made_of : (k : Holder) (row : EntryRow) → k ≡ row.holder → ◌≡◌ {A = EntryRow} (record row { entry = g (record { holder = k; entry = row.entry }) }) (remade g row)
  made_of k row is = λ i. record row { entry = g (record { holder = is i; entry = row.entry }) }

  pub one_at_once : (k : Holder) (rows : List EntryRow) → IsDistinct same (holders_of_rows rows) → change_by rows k ≡ map (if_passing (is_row_of k)) rows
  unfolding IsDistinct
  one_at_once k [] apart = refl
  one_at_once k (row ∷ rows) apart =
      elim (is_row_of k row) as (λ b. is_row_of k row ≡ b
      → cond b (record row { entry = g (record { holder = k; entry = row.entry }) } ∷ rows) (row ∷ change_by rows k) ≡ cond b (remade g row) row ∷ map (if_passing (is_row_of k)) rows) [
        | true ↦ λ e. (let is : k ≡ row.holder = same-is k row.holder e in
            λ i. made_of k row is i ∷ sym (none_there k rows (subst (λ h. AllByRecursion (λ x. same h x ≡ false) (holders_of_rows rows)) (sym is) apart.0)) i)
        | false ↦ λ e. ap (λ rest. row ∷ rest) (one_at_once k rows apart.1)
      ] refl

  pub same_holder : (row : EntryRow) (b : Bool) → (cond b (remade g row) row).holder ≡ row.holder
  same_holder row true = refl
  same_holder row false = refl

  same_holders : (passes : EntryRow → Bool) (rows : List EntryRow) → holders_of_rows (map (if_passing passes) rows) ≡ holders_of_rows rows
  same_holders passes [] = refl
  same_holders passes (row ∷ rows) = λ i. same_holder row (passes row) i ∷ same_holders passes rows i

  -- ---- one holder after another

  not_among : (k : Holder) (ks : List Holder) → AllByRecursion (λ h. same k h ≡ false) ks → is_among ks k ≡ false
  not_among k [] none = refl
  not_among k (h ∷ ks) none = ap (λ b. b || is_among ks k) none.0 ∙ not_among k ks none.1

  one_row : (k : Holder) (ks : List Holder) → AllByRecursion (λ h. same k h ≡ false) ks → (row : EntryRow)
      → if_passing (λ row. is_among ks row.holder) (if_passing (is_row_of k) row) ≡ if_passing (λ row. is_among (k ∷ ks) row.holder) row
  one_row k ks none row =
      elim (is_row_of k row) as (λ b. is_row_of k row ≡ b → if_passing (λ row. is_among ks row.holder) (cond b (remade g row) row) ≡ if_passing (λ row. is_among (k ∷ ks) row.holder) row) [
        | true ↦ λ e. (let is : k ≡ row.holder = same-is k row.holder e in
            let out : is_among ks row.holder ≡ false = subst (λ h. is_among ks h ≡ false) is (not_among k ks none) in
            let back : same row.holder k ≡ true = same_equiv.symm row.holder k ∙ e in
            ap (λ b. cond b (remade g (remade g row)) (remade g row)) out ∙ sym (ap (λ b. cond (b || is_among ks row.holder) (remade g row) row) back))
        | false ↦ λ e. (let back : same row.holder k ≡ false = same_equiv.symm row.holder k ∙ e in
            sym (ap (λ b. cond (b || is_among ks row.holder) (remade g row) row) back))
      ] refl

  two_maps : (k : Holder) (ks : List Holder) → AllByRecursion (λ h. same k h ≡ false) ks → (rows : List EntryRow)
      → map (if_passing (λ row. is_among ks row.holder)) (map (if_passing (is_row_of k)) rows) ≡ map (if_passing (λ row. is_among (k ∷ ks) row.holder)) rows
  two_maps k ks none [] = refl
  two_maps k ks none (row ∷ rows) = λ i. one_row k ks none row i ∷ two_maps k ks none rows i

  untouched : (rows : List EntryRow) → map (if_passing (λ row. false)) rows ≡ rows
  untouched [] = refl
  untouched (row ∷ rows) = ap (λ rest. row ∷ rest) (untouched rows)

  -- rows of holders that differ
  pub fold-change_by : (ks : List Holder) (rows : List EntryRow) → IsDistinct same ks → IsDistinct same (holders_of_rows rows)
      → fold change_by rows ks ≡ map (if_passing (λ row. is_among ks row.holder)) rows
  unfolding IsDistinct
  fold-change_by [] rows named_once apart = sym (untouched rows)
  fold-change_by (k ∷ ks) rows named_once apart =
      let one = one_at_once k rows apart in
      let apart_now : IsDistinct same (holders_of_rows (change_by rows k)) = subst (IsDistinct same) (sym (ap holders_of_rows one ∙ same_holders (is_row_of k) rows)) apart in
      fold-change_by ks (change_by rows k) named_once.1 apart_now ∙ ap (map (if_passing (λ row. is_among ks row.holder))) one ∙ two_maps k ks named_once.0 rows

  of_table : (ks : List Holder) (t : Table) → fold (changed_by g) t ks ≡ record t { rows = fold change_by t.rows ks }
  of_table [] t = refl
  of_table (k ∷ ks) t = of_table ks (changed_by g t k)

  pub fold-changed_by : (t : Table) (ks : List Holder) → IsTable t → IsDistinct same ks → fold (changed_by g) t ks ≡ changed_where (λ row. is_among ks row.holder) g t
  fold-changed_by t ks is named_once = of_table ks t ∙ ap (λ (rows : List EntryRow). record t { rows = rows }) (fold-change_by ks t.rows named_once is.one_row)

  -- ---- the holders of some rows

  same_map : (p q : EntryRow → Bool) (rows : List EntryRow) → AllByRecursion (λ row. p row ≡ q row) rows → map (if_passing p) rows ≡ map (if_passing q) rows
  same_map p q [] all = refl
  same_map p q (row ∷ rows) all = λ i. cond (all.0 i) (remade g row) row ∷ same_map p q rows all.1 i

  -- those that are named, by another test
  by_test : (t : Table) (ks : List Holder) (q : EntryRow → Bool) → IsTable t → IsDistinct same ks → AllByRecursion (λ row. is_among ks row.holder ≡ q row) t.rows
      → fold (changed_by g) t ks ≡ changed_where q g t
  by_test t ks q is named_once all = fold-changed_by t ks is named_once ∙ ap (λ (rows : List EntryRow). record t { rows = rows }) (same_map (λ row. is_among ks row.holder) q t.rows all)

  among_more : (h : Holder) (hs : List Holder) (rows : List EntryRow) → AllByRecursion (λ row. is_among hs row.holder ≡ true) rows → AllByRecursion (λ row. is_among (h ∷ hs) row.holder ≡ true) rows
  among_more h hs [] all = tt
  among_more h hs (row ∷ rows) all = (ap (λ b. same row.holder h || b) all.0 ∙ or-true (same row.holder h), among_more h hs rows all.1)

  -- the holder of each row is one of the holders
  each_among : (rows : List EntryRow) → AllByRecursion (λ row. is_among (holders_of_rows rows) row.holder ≡ true) rows
  each_among [] = tt
  each_among (row ∷ rows) =
      (ap (λ b. b || is_among (holders_of_rows rows) row.holder) (same_equiv.refl row.holder), among_more row.holder (holders_of_rows rows) rows (each_among rows))

  among_on : (p : Holder → Bool) (hs : List Holder) (rows : List EntryRow) → AllByRecursion (λ row. is_among hs row.holder ≡ true) rows
      → AllByRecursion (λ row. is_among (filter p hs) row.holder ≡ p row.holder) rows
  among_on p hs [] all = tt
  among_on p hs (row ∷ rows) all = (among-filter p hs row.holder ∙ ap (λ b. p row.holder && b) all.0 ∙ and-true (p row.holder), among_on p hs rows all.1)

  pub fold-on_inode : (t : Table) (ino : Ino) → IsTable t → fold (changed_by g) t (holders_of_rows (entries_on t ino)) ≡ changed_where (is_of_inode ino) g t
  fold-on_inode t ino is =
      let p : Holder → Bool = λ h. h.ino.0 == ino.0 in
      let hs = holders_of_rows t.rows in
      ap (fold (changed_by g) t) (holders-filter p t.rows)
      ∙ by_test t (filter p hs) (is_of_inode ino) is (distinct-filter p hs is.one_row) (among_on p hs t.rows (each_among t.rows))

  among_recall : (t : Table) → IsTable t → (rows : List EntryRow) → AllByRecursion (λ row. is_among (holders_of_rows t.rows) row.holder ≡ true) rows
      → AllByRecursion (λ row. is_among t.recall row.holder ≡ true) rows
  among_recall t is [] all = tt
  among_recall t is (row ∷ rows) all = (is.in_both row.holder ∙ all.0, among_recall t is rows all.1)

  pub fold-recall : (t : Table) → IsTable t → fold (changed_by g) t t.recall ≡ record t { rows = map (remade g) t.rows }
  fold-recall t is = by_test t t.recall (λ row. true) is is.one_recall (among_recall t is t.rows (each_among t.rows))
