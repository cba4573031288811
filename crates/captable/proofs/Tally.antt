-- How many rows pass a test, after a change of one row, or once some rows went.
use Rattle.std.proofs.Common.{◌≡◌, ℕ, ◌+◌, Bool, true, false, not, cond, Option, Some, None, List, [], ◌∷◌, ◌++◌, filter, length, refl, sym, ap, subst, arith}
use Rattle.std.specs.List.{AllByRecursion, IsDistinct, find}
use Rattle.captable.specs.declared.entry.Holder.{Holder}
use Rattle.captable.specs.declared.entry.Entry.{Entry}
use Rattle.captable.specs.declared.entry.EntryRow.{EntryRow}
use Rattle.captable.specs.Table.{holders_of_rows, is_row_of, same}
use Rattle.captable.specs.Calls.{change_rows}
use Rattle.captable.proofs.Counting.{bit, none-left, with_change}
use Rattle.captable.proofs.Tables.{same-is}

module _ (p : EntryRow → Bool) where
  abbrev pub tally : List EntryRow → ℕ
  tally rows = length (filter p rows)

  abbrev pub passes_found : Option EntryRow → Bool
  passes_found None = false
  passes_found (Some row) = p row

  pub tally-first : (row : EntryRow) (rows : List EntryRow) → tally (row ∷ rows) ≡ bit (p row) + tally rows
  tally-first row rows = elim (p row) as (λ b. length (cond b (row ∷ filter p rows) (filter p rows)) ≡ bit b + tally rows) [ true ↦ omega arith | false ↦ omega arith ]

  -- after a change of the holder's entry
  pub tally-changed : (rows : List EntryRow) (k : Holder) (f : Entry → Entry)
      → tally (change_rows rows k f) + bit (passes_found (find (is_row_of k) rows)) ≡ tally rows + bit (passes_found (with_change f (find (is_row_of k) rows)))
  tally-changed [] k f = refl
  tally-changed (row ∷ rows) k f =
      elim (is_row_of k row) as (λ b. tally (cond b (record row { entry = f row.entry } ∷ rows) (row ∷ change_rows rows k f)) + bit (passes_found (cond b (Some row) (find (is_row_of k) rows)))
      ≡ tally (row ∷ rows) + bit (passes_found (with_change f (cond b (Some row) (find (is_row_of k) rows))))) [
        | true ↦ omega (arith, tally-first (record row { entry = f row.entry }) rows, tally-first row rows)
        | false ↦ omega (arith, tally-first row (change_rows rows k f), tally-first row rows, tally-changed rows k f)
      ]

  -- after one more at the end
  pub tally-more : (rows : List EntryRow) (row : EntryRow) → tally (rows ++ row ∷ []) ≡ tally rows + bit (p row)
  tally-more [] row = omega (arith, tally-first row [])
  tally-more (r ∷ rows) row = omega (arith, tally-first r (rows ++ row ∷ []), tally-first r rows, tally-more rows row)

  -- after the holder's row went
  pub tally-without : (rows : List EntryRow) (k : Holder) → IsDistinct same (holders_of_rows rows)
      → tally (filter (λ row. not (is_row_of k row)) rows) + bit (passes_found (find (is_row_of k) rows)) ≡ tally rows
  unfolding IsDistinct
  tally-without [] k once = refl
  tally-without (row ∷ rows) k once = by_test (is_row_of k row) refl (tally-without rows k once.1)
    where
      left : List EntryRow
      left = filter (λ row. not (is_row_of k row)) rows

      by_test : (b : Bool) → is_row_of k row ≡ b → tally left + bit (passes_found (find (is_row_of k) rows)) ≡ tally rows
          → tally (cond (not b) (row ∷ left) left) + bit (passes_found (cond b (Some row) (find (is_row_of k) rows))) ≡ tally (row ∷ rows)
      by_test true is rest =
          let mine : k ≡ row.holder = same-is k row.holder is in
          let all : left ≡ rows = none-left k rows (subst (λ h. AllByRecursion (λ j. same h j ≡ false) (holders_of_rows rows)) (sym mine) once.0) in
          omega (arith, ap tally all, tally-first row rows)
      by_test false is rest = omega (arith, tally-first row left, tally-first row rows, rest)

  -- those that pass another test and those that fail it
  pub tally-parted : (q : EntryRow → Bool) (rows : List EntryRow) → tally (filter (λ row. not (q row)) rows) + tally (filter q rows) ≡ tally rows
  tally-parted q [] = refl
  tally-parted q (row ∷ rows) =
      elim (q row) as (λ b. tally (cond (not b) (row ∷ filter (λ r. not (q r)) rows) (filter (λ r. not (q r)) rows)) + tally (cond b (row ∷ filter q rows) (filter q rows)) ≡ tally (row ∷ rows)) [
        | true ↦ omega (arith, tally-first row (filter q rows), tally-first row rows, tally-parted q rows)
        | false ↦ omega (arith, tally-first row (filter (λ r. not (q r)) rows), tally-first row rows, tally-parted q rows)
      ]
