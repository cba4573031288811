-- Gids that are compared many at once.
use Rattle.std.proofs.Common.{◌≡◌, ℕ, zero, suc, ◌+◌, ◌-◌, ◌*◌, ◌%◌, ◌^◌, ◌<◌, Bool, true, false, ◌||◌, not, cond, eqb, List, [], ◌∷◌, ◌++◌, map, drop, length}
use Rattle.std.proofs.Common.{replicate, refl, sym, ap, ◌∙◌, arith, w32, eqb-true, eq-eqb, inl, inr}
use Rattle.std.specs.List.{list_any}
use Rattle.std.proofs.Math.Bool.{or-false}
use Rattle.std.proofs.lemmas.Simd.{bitmask_splat}
use Rattle.std.proofs.lemmas.Cmp.{nat_eq_equiv}
use Rattle.capspec.proofs.Fronts.{which}
use lib.Lanes.{mask_l, top, zip2}
use Rattle.capgrant.specs.Question.{contains}

-- ---- the mask of a comparison

no_bit : {X : Type 0} (p : X → Bool) (xs : List X) → list_any p xs ≡ false → mask_l (map p xs) ≡ 0
no_bit p [] none = refl
no_bit p (x ∷ xs) none = go (p x) (no_bit p xs) none
  where
    go : (b : Bool) → (list_any p xs ≡ false → mask_l (map p xs) ≡ 0) → (b || list_any p xs) ≡ false → cond b 1 0 + 2 * mask_l (map p xs) ≡ 0
    go true rest e = cc
    go false rest e = omega (arith, rest e)

some_bit : {X : Type 0} (p : X → Bool) (xs : List X) → list_any p xs ≡ true → 0 < mask_l (map p xs)
some_bit p [] some = cc
some_bit p (x ∷ xs) some = go (p x) (some_bit p xs) some
  where
    go : (b : Bool) → (list_any p xs ≡ true → 0 < mask_l (map p xs)) → (b || list_any p xs) ≡ true → 0 < cond b 1 0 + 2 * mask_l (map p xs)
    go true rest e = omega arith
    go false rest e = omega (arith, rest e)

set_where_one_is : (whole n : ℕ) → whole ≡ n → (b : Bool) → (b ≡ false → n ≡ 0) → (b ≡ true → 0 < n) → not (eqb whole 0) ≡ b
set_where_one_is whole n is true none some = elim (which (eqb whole 0)) [
  | inl e ↦ absurd (omega (arith, some refl, is, eqb-true whole 0 e))
  | inr e ↦ ap not e
]
set_where_one_is whole n is false none some = ap not (eq-eqb whole 0 (is ∙ none refl))

pub has_by_mask : (gids : List ℕ) (gid : ℕ) → length gids ≡ 16 → not (eqb (mask_l (map (top 31) (zip2 (λ a b. cond (eqb a b) (2 ^ 32 - 1) 0) gids (replicate 16 gid))) % 2 ^ 64) 0) ≡ contains gids gid
has_by_mask gids gid long =
    set_where_one_is _ (mask_l (map (λ x. eqb x gid) gids)) (bitmask_splat w32 eqb gids 16 gid long (omega arith)) (contains gids gid) (no_bit (λ x. eqb x gid) gids) (some_bit (λ x. eqb x gid) gids)

-- ---- places that are left

any_append : {X : Type 0} (p : X → Bool) (xs ys : List X) → list_any p (xs ++ ys) ≡ (list_any p xs || list_any p ys)
any_append p [] ys = refl
any_append p (x ∷ xs) ys = go (p x) (any_append p xs ys)
  where
    go : (b : Bool) → list_any p (xs ++ ys) ≡ (list_any p xs || list_any p ys) → (b || list_any p (xs ++ ys)) ≡ ((b || list_any p xs) || list_any p ys)
    go true rest = refl
    go false rest = rest

none_left : (p : ℕ → Bool) (d : ℕ) → p d ≡ false → (n m : ℕ) → list_any p (drop n (replicate m d)) ≡ false
none_left p d e zero zero = refl
none_left p d e zero (suc m) = rw e (none_left p d e zero m)
none_left p d e (suc n) zero = refl
none_left p d e (suc n) (suc m) = none_left p d e n m

pub left_to : (p : ℕ → Bool) (d : ℕ) (xs : List ℕ) (n m : ℕ) → (p d || list_any p (xs ++ drop n (replicate m d))) ≡ (p d || list_any p xs)
left_to p d xs n m = elim (which (p d)) [
  | inl e ↦ rw e refl
  | inr e ↦ ap (λ b. p d || b) (any_append p xs (drop n (replicate m d)) ∙ ap (λ b. list_any p xs || b) (none_left p d e n m) ∙ or-false (list_any p xs))
]

-- ---- one of these is listed, or one that is listed is one of these

none_in : (xs : List ℕ) → list_any (contains []) xs ≡ false
none_in [] = refl
none_in (x ∷ xs) = none_in xs

any_or : (f g : ℕ → Bool) (xs : List ℕ) → list_any (λ x. f x || g x) xs ≡ (list_any f xs || list_any g xs)
any_or f g [] = refl
any_or f g (x ∷ xs) = go (f x) (g x) (list_any f xs) (list_any g xs) (any_or f g xs)
  where
    go : (a b c d : Bool) → list_any (λ x. f x || g x) xs ≡ (c || d) → ((a || b) || list_any (λ x. f x || g x) xs) ≡ ((a || c) || (b || d))
    go true b c d e = refl
    go false true true d e = refl
    go false true false d e = refl
    go false false c d e = e

any_same : (f g : ℕ → Bool) → ((x : ℕ) → f x ≡ g x) → (xs : List ℕ) → list_any f xs ≡ list_any g xs
any_same f g same [] = refl
any_same f g same (x ∷ xs) = ap (λ b. b || list_any f xs) (same x) ∙ ap (λ b. g x || b) (any_same f g same xs)

pub commute : (xs ys : List ℕ) → list_any (contains xs) ys ≡ list_any (contains ys) xs
commute xs [] = sym (none_in xs)
commute xs (y ∷ ys) =
    ap (λ b. b || list_any (contains xs) ys) (any_same (λ x. eqb x y) (λ x. eqb y x) (λ x. nat_eq_equiv.symm x y) xs) ∙ ap (λ b. list_any (λ x. eqb y x) xs || b) (commute xs ys)
    ∙ sym (any_or (λ x. eqb y x) (contains ys) xs)
