-- What is found in a list, and what is kept of it, where the list was filtered or mapped.
use Rattle.std.proofs.Common.{◌≡◌, Bool, true, false, cond, Some, None, List, [], ◌∷◌, filter, map, refl, sym, ap, ◌∙◌}
use Rattle.std.specs.List.{find}
use Rattle.std.specs.Option.{option_map}

-- what fails one test fails each that implies it
fails : {X : Type 0} (p q : X → Bool) → ((x : X) → p x ≡ true → q x ≡ true) → (x : X) → q x ≡ false → p x ≡ false
fails p q keeps x out = by_test (p x) refl
  where
    by_test : (b : Bool) → p x ≡ b → b ≡ false
    by_test false e = refl
    by_test true e = sym (keeps x e) ∙ out

-- what passes one test fails each that excludes it
excluded : {X : Type 0} (p q : X → Bool) → ((x : X) → p x ≡ true → q x ≡ false) → (x : X) → q x ≡ true → p x ≡ false
excluded p q drops x kept = by_test (p x) refl
  where
    by_test : (b : Bool) → p x ≡ b → b ≡ false
    by_test false e = refl
    by_test true e = sym kept ∙ drops x e

-- what is found passes the test
pub find_passes : {X : Type 0} (p : X → Bool) (xs : List X) (x : X) → find p xs ≡ Some x → p x ≡ true
find_passes p [] x is = absurd (cc)
find_passes p (y ∷ ys) x is =
    elim (p y) as (λ b. p y ≡ b → cond b (Some y) (find p ys) ≡ Some x → p x ≡ true) [
      | true ↦ λ passes is. let same : y ≡ x = cc in ap p (sym same) ∙ passes
      | false ↦ λ _ is. find_passes p ys x is
    ] refl is

-- a filter that keeps all that is sought
pub find-filter_kept : {X : Type 0} (p q : X → Bool) → ((x : X) → p x ≡ true → q x ≡ true) → (xs : List X) → find p (filter q xs) ≡ find p xs
find-filter_kept p q keeps [] = refl
find-filter_kept p q keeps (x ∷ xs) =
    let rest = find-filter_kept p q keeps xs in
    elim (q x) as (λ b. q x ≡ b → find p (cond b (x ∷ filter q xs) (filter q xs)) ≡ cond (p x) (Some x) (find p xs)) [
      | true ↦ λ _. ap (λ o. cond (p x) (Some x) o) rest
      | false ↦ λ out. rest ∙ sym (ap (λ b. cond b (Some x) (find p xs)) (fails p q keeps x out))
    ] refl

-- and one that keeps nothing of it
pub find-filter_gone : {X : Type 0} (p q : X → Bool) → ((x : X) → p x ≡ true → q x ≡ false) → (xs : List X) → find p (filter q xs) ≡ None
find-filter_gone p q drops [] = refl
find-filter_gone p q drops (x ∷ xs) =
    let rest = find-filter_gone p q drops xs in
    elim (q x) as (λ b. q x ≡ b → find p (cond b (x ∷ filter q xs) (filter q xs)) ≡ None) [
      | true ↦ λ kept. ap (λ b. cond b (Some x) (find p (filter q xs))) (excluded p q drops x kept) ∙ rest
      | false ↦ λ _. rest
    ] refl

-- a map that the test doesn't see
pub find-map : {X : Type 0} (p : X → Bool) (g : X → X) → ((x : X) → p (g x) ≡ p x) → (xs : List X) → find p (map g xs) ≡ option_map g (find p xs)
find-map p g same [] = refl
find-map p g same (x ∷ xs) =
    ap (λ b. cond b (Some (g x)) (find p (map g xs))) (same x)
    ∙ elim (p x) as (λ b. cond b (Some (g x)) (find p (map g xs)) ≡ option_map g (cond b (Some x) (find p xs))) [ true ↦ refl | false ↦ find-map p g same xs ]

pub filter-filter_kept : {X : Type 0} (p q : X → Bool) → ((x : X) → p x ≡ true → q x ≡ true) → (xs : List X) → filter p (filter q xs) ≡ filter p xs
filter-filter_kept p q keeps [] = refl
filter-filter_kept p q keeps (x ∷ xs) =
    let rest = filter-filter_kept p q keeps xs in
    elim (q x) as (λ b. q x ≡ b → filter p (cond b (x ∷ filter q xs) (filter q xs)) ≡ cond (p x) (x ∷ filter p xs) (filter p xs)) [
      | true ↦ λ _. ap (λ ys. cond (p x) (x ∷ ys) ys) rest
      | false ↦ λ out. rest ∙ sym (ap (λ b. cond b (x ∷ filter p xs) (filter p xs)) (fails p q keeps x out))
    ] refl

-- two filters, in either order
pub filter-filter : {X : Type 0} (p q : X → Bool) (xs : List X) → filter p (filter q xs) ≡ filter q (filter p xs)
filter-filter p q [] = refl
filter-filter p q (x ∷ xs) =
    let rest = filter-filter p q xs in
    elim (q x) as (λ b. q x ≡ b → filter p (cond b (x ∷ filter q xs) (filter q xs)) ≡ filter q (cond (p x) (x ∷ filter p xs) (filter p xs))) [
      | true ↦ λ e. elim (p x) as (λ b. cond b (x ∷ filter p (filter q xs)) (filter p (filter q xs)) ≡ filter q (cond b (x ∷ filter p xs) (filter p xs))) [
        | true ↦ ap (λ ys. x ∷ ys) rest ∙ sym (ap (λ b. cond b (x ∷ filter q (filter p xs)) (filter q (filter p xs))) e)
        | false ↦ rest
      ]
      | false ↦ λ e. elim (p x) as (λ b. filter p (filter q xs) ≡ filter q (cond b (x ∷ filter p xs) (filter p xs))) [
        | true ↦ rest ∙ sym (ap (λ b. cond b (x ∷ filter q (filter p xs)) (filter q (filter p xs))) e)
        | false ↦ rest
      ]
    ] refl

pub filter-map : {X : Type 0} (p : X → Bool) (g : X → X) → ((x : X) → p (g x) ≡ p x) → (xs : List X) → filter p (map g xs) ≡ map g (filter p xs)
filter-map p g same [] = refl
filter-map p g same (x ∷ xs) =
    let rest = filter-map p g same xs in
    ap (λ b. cond b (g x ∷ filter p (map g xs)) (filter p (map g xs))) (same x)
    ∙ elim (p x) as (λ b. cond b (g x ∷ filter p (map g xs)) (filter p (map g xs)) ≡ map g (cond b (x ∷ filter p xs) (filter p xs))) [ true ↦ ap (λ ys. g x ∷ ys) rest | false ↦ rest ]
