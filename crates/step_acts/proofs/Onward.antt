-- A walk over rows that goes from each holder to the next: the rows that are left of it.
use Rattle.std.proofs.Common.{◌≡◌, Bool, true, false, cond, Option, Some, None, List, [], ◌∷◌, slice_get, refl, sym, ap, subst, ◌∙◌}
use Rattle.std.specs.List.{AllByRecursion, IsDistinct}
use Rattle.captable.specs.Calls.{newer_in}
use Rattle.captable.specs.Walks.{first_holder}
use Rattle.step_acts.proofs.Common.{EntryRow, Holder, holders_of_rows, is_row_of, same, same-is, same_equiv}

-- the rows from the holder's on
abbrev pub rows_on : List EntryRow → Holder → List EntryRow
rows_on [] k = []
rows_on (row ∷ rows) k = cond (is_row_of k row) (row ∷ rows) (rows_on rows k)

-- those that are left where this holder comes next
abbrev pub onward : List EntryRow → Option Holder → List EntryRow
onward rows None = []
onward rows (Some k) = rows_on rows k

-- the walk begins at the first of them
pub onward-first : (rows : List EntryRow) → onward rows (first_holder rows) ≡ rows
onward-first [] = refl
onward-first (row ∷ rows) = ap (λ b. cond b (row ∷ rows) (rows_on rows row.holder)) (same_equiv.refl row.holder)

-- the walk comes to this row, of the holder, and then to that one
pub record Comes (rows : List EntryRow) (k : Holder) (after : Option Holder) : Type 0 where
  pub row : EntryRow
  pub own : k ≡ row.holder
  pub left : rows_on rows k ≡ row ∷ onward rows after
  pub first : after ≡ first_holder (onward rows after)

-- a holder that is found behind a row is another
found_behind : (h : Holder) (rows : List EntryRow) (k : Holder) → AllByRecursion (λ j. same h j ≡ false) (holders_of_rows rows) → first_holder (rows_on rows k) ≡ Some k → same k h ≡ false
found_behind h [] k apart there = absurd (cc)
found_behind h (row ∷ rows) k apart there =
    elim (is_row_of k row) as (λ b. is_row_of k row ≡ b → first_holder (cond b (row ∷ rows) (rows_on rows k)) ≡ Some k → same k h ≡ false) [
      | true ↦ λ is _. same_equiv.symm k h ∙ ap (same h) (same-is k row.holder is) ∙ apart.0
      | false ↦ λ is there. found_behind h rows k apart.1 there
    ] refl there

module _ (row : EntryRow) (rows : List EntryRow) (apart : AllByRecursion (λ j. same row.holder j ≡ false) (holders_of_rows rows)) where
  -- behind the first row
  second : (rs : List EntryRow) → rs ≡ rows → (slice_get (holders_of_rows rs) 0 ≡ first_holder rs) × (onward (row ∷ rs) (slice_get (holders_of_rows rs) 0) ≡ rs)
  second [] is = (refl, refl)
  second (r ∷ rs) is =
      let other : same r.holder row.holder ≡ false = same_equiv.symm r.holder row.holder ∙ (subst (λ rs. AllByRecursion (λ j. same row.holder j ≡ false) (holders_of_rows rs)) (sym is) apart).0 in
      (refl, ap (λ b. cond b (row ∷ r ∷ rs) (rows_on (r ∷ rs) r.holder)) other ∙ ap (λ b. cond b (r ∷ rs) (rows_on rs r.holder)) (same_equiv.refl r.holder))

  -- behind a later one
  later : (next : Option Holder) → next ≡ first_holder (onward rows next) → onward (row ∷ rows) next ≡ onward rows next
  later None is = refl
  later (Some k) is = ap (λ b. cond b (row ∷ rows) (rows_on rows k)) (found_behind row.holder rows k apart (sym is))

pub onward-next : (rows : List EntryRow) (k : Holder) → IsDistinct same (holders_of_rows rows) → first_holder (rows_on rows k) ≡ Some k → Comes rows k (newer_in (holders_of_rows rows) k)
unfolding IsDistinct
onward-next [] k apart there = absurd (cc)
onward-next (row ∷ rows) k apart there = by_test (is_row_of k row) refl there (onward-next rows k apart.1)
  where
    after : Bool → Option Holder
    after b = cond b (slice_get (holders_of_rows rows) 0) (newer_in (holders_of_rows rows) k)

    by_test : (b : Bool) → is_row_of k row ≡ b → first_holder (cond b (row ∷ rows) (rows_on rows k)) ≡ Some k
        → (first_holder (rows_on rows k) ≡ Some k → Comes rows k (newer_in (holders_of_rows rows) k)) → Comes (row ∷ rows) k (after (is_row_of k row))
    by_test true is there rest =
        let behind = second row rows apart.0 rows refl in
        subst (λ b. Comes (row ∷ rows) k (after b)) (sym is) (record {
          row = row;
          own = same-is k row.holder is;
          left = ap (λ b. cond b (row ∷ rows) (rows_on rows k)) is ∙ ap (λ rs. row ∷ rs) (sym behind.1);
          first = behind.0 ∙ ap first_holder (sym behind.1);
        })
    by_test false is there rest =
        let comes = rest there in
        let behind = later row rows apart.0 (newer_in (holders_of_rows rows) k) comes.first in
        subst (λ b. Comes (row ∷ rows) k (after b)) (sym is) (record {
          row = comes.row;
          own = comes.own;
          left = ap (λ b. cond b (row ∷ rows) (rows_on rows k)) is ∙ comes.left ∙ ap (λ rs. comes.row ∷ rs) (sym behind);
          first = comes.first ∙ ap first_holder (sym behind);
        })
