-- How many of a list pass a test, beside whether any does.
use Rattle.std.proofs.Common.{◌≡◌, ℕ, suc, Bool, true, false, not, cond, ◌||◌, List, [], ◌∷◌, filter, length, refl, arith}
use Rattle.std.specs.Prelude.{◌==◌}
use Rattle.std.specs.List.{list_any}
use Rattle.std.proofs.lemmas.Bool.{eqb-true}

one-more : (n : ℕ) → (suc n == 0) ≡ false
one-more n = by_test (suc n == 0) refl
  where
    by_test : (b : Bool) → (suc n == 0) ≡ b → b ≡ false
    by_test true e = (let none : suc n ≡ 0 = eqb-true (suc n) 0 e in absurd (omega arith))
    by_test false e = refl

pub none-any : {X : Type 0} (p : X → Bool) (xs : List X) → (length (filter p xs) == 0) ≡ not (list_any p xs)
none-any p [] = refl
none-any p (x ∷ xs) =
    elim (p x) as (λ b. (length (cond b (x ∷ filter p xs) (filter p xs)) == 0) ≡ not (b || list_any p xs)) [ true ↦ one-more (length (filter p xs)) | false ↦ none-any p xs ]
