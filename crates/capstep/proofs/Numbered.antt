-- The numbers of rows, and counts of the rows of each pass.
use Rattle.std.proofs.Common.{◌≡◌, ◌⊎◌, ◌+◌, ◌≤◌, ◌==◌, ℕ, Bool, true, false, cond, List, [], ◌∷◌, ◌++◌, length, Option, Some, None, IsSome, is_some, unwrap_or, refl, sym, ap, subst, ◌∙◌, nat_eq, inl}
use Rattle.std.proofs.Common.{inr, arith}
use Rattle.std.proofs.lemmas.Bool.{eqb-true}
use Rattle.std.proofs.lemmas.List.Sums.{count_by-le-length, sum_by-append, sum_by-cons}
use Rattle.std.specs.Cmp.{nat_cmp_total}
use Rattle.std.specs.FinMap as map
use Rattle.std.specs.FinMap.{FinMap, nat_cmp-IsAntisymmetric}
use Rattle.std.specs.List.{count_by}
use Rattle.std.specs.Ordering.{nat_cmp}
use Rattle.capbits.proofs.Maps.{insert-at, insert-here}
use Rattle.capbits.specs.Rows.{with_new}
use Rattle.capbits.specs.declared.ids.PassId.{PassId}
use Rattle.capstep.specs.Numbers.{AreCounted, AreNumbered, count_of}
use Rattle.capstep.proofs.Common.{Row, rows_of}

-- ---- the rows of a pass

-- no pass has more rows than there are
pub rows_of-le-length : (pass : PassId) (rows : List Row) → rows_of pass rows ≤ length rows
rows_of-le-length pass rows = count_by-le-length (λ row. row.pass.0 == pass.0) rows

-- ---- one more row

-- an element of a list with one more at the end is that one, or stands before it
record IsBefore {X : Type 0} (xs earlier : List X) (y : X) : Type 0 where
  between : List X
  splits : xs ≡ earlier ++ y ∷ between

split_push : {X : Type 0} (xs : List X) (x : X) (earlier later : List X) (y : X) → xs ++ x ∷ [] ≡ earlier ++ y ∷ later → ((earlier ≡ xs) × (y ≡ x)) ⊎ IsBefore xs earlier y
split_push [] x [] later y e = inl (refl, cc)
split_push [] x (z ∷ []) later y e = absurd cc
split_push [] x (z ∷ w ∷ zs) later y e = absurd cc
split_push (w ∷ xs) x [] later y e = inr (record { between = xs; splits = cc })
split_push (w ∷ xs) x (z ∷ zs) later y e =
    let same : w ≡ z = cc in
    let rest : xs ++ x ∷ [] ≡ zs ++ y ∷ later = cc in
    elim (split_push xs x zs later y rest) as (λ _. ((z ∷ zs ≡ w ∷ xs) × (y ≡ x)) ⊎ IsBefore (w ∷ xs) (z ∷ zs) y) [
      | inl at_end ↦ let first = at_end.0 in inl (cc, at_end.1)
      | inr before ↦ inr (record { between = before.between; splits = cc })
    ]

pub numbered-nil : AreNumbered []
numbered-nil [] later row e = absurd cc
numbered-nil (x ∷ earlier) later row e = absurd cc

-- a row with the next number of its pass
pub numbered-snoc : (rows : List Row) (row : Row) → AreNumbered rows → row.nth ≡ rows_of row.pass rows + 1 → AreNumbered (rows ++ row ∷ [])
numbered-snoc rows row numbered next earlier later other e =
    elim (split_push rows row earlier later other e) as (λ _. other.nth ≡ rows_of other.pass earlier + 1) [
      | inl at_end ↦
          ap (λ (r : Row). r.nth) at_end.1 ∙ next ∙ ap (λ (r : Row). rows_of r.pass rows + 1) (sym at_end.1)
          ∙ ap (λ (rs : List Row). rows_of other.pass rs + 1) (sym at_end.0)
      | inr before ↦ numbered earlier before.between other before.splits
    ]

-- ---- counts

-- room for the count of a pass
pub room_there : (m : FinMap nat_cmp ℕ) (number : ℕ) → IsSome (map.get (with_new m number 0) number)
room_there m number = by_case (map.get m number) refl
  where
    by_case : (o : Option ℕ) → map.get m number ≡ o → IsSome (map.get (with_new m number 0) number)
    by_case (Some count) is = subst (λ o. IsSome (map.get (cond (is_some o) m (map.insert m number 0)) number)) (sym is) (subst IsSome (sym is) refl)
    by_case None is = subst (λ o. IsSome (map.get (cond (is_some o) m (map.insert m number 0)) number)) (sym is) (subst IsSome (sym (insert-here nat_cmp_total nat_cmp-IsAntisymmetric m number 0)) refl)

-- it changes no count
pub room-counts : (m : FinMap nat_cmp ℕ) (number : ℕ) (pass : PassId) → count_of (with_new m number 0) pass ≡ count_of m pass
room-counts m number pass = by_case (map.get m number) refl
  where
    by_test : (b : Bool) → nat_eq number pass.0 ≡ b → map.get m number ≡ None → unwrap_or (cond b (Some 0) (map.get m pass.0)) 0 ≡ count_of m pass
    by_test true e none = sym (ap (λ n. unwrap_or (map.get m n) 0) (sym (eqb-true number pass.0 e)) ∙ ap (λ o. unwrap_or o 0) none)
    by_test false e none = refl

    by_case : (o : Option ℕ) → map.get m number ≡ o → count_of (with_new m number 0) pass ≡ count_of m pass
    by_case (Some count) is = ap (λ o. count_of (cond (is_some o) m (map.insert m number 0)) pass) is
    by_case None is = ap (λ o. count_of (cond (is_some o) m (map.insert m number 0)) pass) is ∙ ap (λ o. unwrap_or o 0) (insert-at m number pass.0 0) ∙ by_test (nat_eq number pass.0) refl is

rows_of-more : (pass : PassId) (rows : List Row) (row : Row) → rows_of pass (rows ++ row ∷ []) ≡ rows_of pass rows + cond (row.pass.0 == pass.0) 1 0
rows_of-more pass rows row =
    let f : Row → ℕ = λ r. cond (r.pass.0 == pass.0) 1 0 in
    let all = sum_by-append f rows (row ∷ []) in
    let one = sum_by-cons f row [] in
    omega (arith, all, one)

-- a new history has no rows to count
pub counted-nil : AreCounted map.empty []
counted-nil pass = ap (λ o. unwrap_or o 0) (map.get-empty nat_cmp pass.0)

-- one row more, which has the next number of its pass, is counted by that number
pub counted-snoc : (m : FinMap nat_cmp ℕ) (rows : List Row) (row : Row) → AreCounted m rows → row.nth ≡ rows_of row.pass rows + 1 → AreCounted (map.insert m row.pass.0 row.nth) (rows ++ row ∷ [])
counted-snoc m rows row counted next pass =
    ap (λ o. unwrap_or o 0) (insert-at m row.pass.0 pass.0 row.nth) ∙ by_test (nat_eq row.pass.0 pass.0) refl ∙ sym (rows_of-more pass rows row)
  where
    by_test : (b : Bool) → nat_eq row.pass.0 pass.0 ≡ b → unwrap_or (cond b (Some row.nth) (map.get m pass.0)) 0 ≡ rows_of pass rows + cond b 1 0
    by_test true e = next ∙ ap (λ n. count_by (λ r. r.pass.0 == n) rows + 1) (eqb-true row.pass.0 pass.0 e)
    by_test false e = let same = counted pass in omega (arith, same)
