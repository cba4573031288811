-- What a search of a list finds, and what one that finds nothing says.
use Rattle.std.proofs.Common.{◌≡◌, ℕ, zero, suc, ◌<◌, Bool, true, false, cond, Some, None, List, [], ◌∷◌, refl, sym, ap, subst, ◌∙◌, Contains, arith}
use Rattle.std.specs.List.{filter, find}
use Rattle.std.specs.declared.cmp.Ordering.TheVariants.{Equal, Greater, Less}
use Rattle.std.specs.Ordering.{nat_cmp}
use Rattle.std.specs.Cmp.{ranked}
use Rattle.std.proofs.lemmas.List.Elements.{All-contains, All-contains_itself, All-filter}
use Rattle.capbits.specs.declared.cap.Part.{Part}
use Rattle.capbits.specs.declared.cap.Part.TheVariants.{A, F, L, X}
use Rattle.lockmachine.specs.Moves.{parts}
use Rattle.lockmachine.proofs.Rest.{not_found}

-- a test that finds nothing fails at each element
pub fails_at : {T : Type 0} (p : T → Bool) (xs : List T) → find p xs ≡ None → (x : T) → Contains xs x → p x ≡ false
fails_at p [] none x (k, room, at) = absurd (omega arith)
fails_at p (y ∷ ys) none x (zero, room, at) = let e : y ≡ x = at in ap p (sym e) ∙ (not_found p y ys none).0
fails_at p (y ∷ ys) none x (suc k, room, at) = fails_at p ys (not_found p y ys none).1 x (k, omega arith, at)

-- and one that fails at each finds nothing
pub find_none : {T : Type 0} (p : T → Bool) (xs : List T) → ((x : T) → Contains xs x → p x ≡ false) → find p xs ≡ None
find_none p [] fails = refl
find_none p (y ∷ ys) fails =
    ap (λ b. cond b (Some y) (find p ys)) (fails y (zero, omega arith, refl))
    ∙ find_none p ys (λ x (inside : Contains ys x). fails x (suc inside.0, omega (arith, inside.1), inside.2))

-- a test that fails at no part of four
pub no_part : (p : Part → Bool) → find p parts ≡ None → (part : Part) → p part ≡ false
no_part p none part =
    let a = not_found p A (L ∷ X ∷ F ∷ []) none in
    let l = not_found p L (X ∷ F ∷ []) a.1 in
    let x = not_found p X (F ∷ []) l.1 in
    let f = not_found p F [] x.1 in
    elim part as (λ part. p part ≡ false) [ A ↦ a.0 | L ↦ l.0 | X ↦ x.0 | F ↦ f.0 ]

-- what a filter keeps was there
pub contains-filter : {T : Type 0} (p : T → Bool) (xs : List T) (x : T) → Contains (filter p xs) x → Contains xs x
contains-filter p xs x inside = All-contains (Contains xs) (filter p xs) x (All-filter p (Contains xs) xs (All-contains_itself xs)) inside

-- and what passes is kept
pub filter-contains : {T : Type 0} (p : T → Bool) (xs : List T) (x : T) → Contains xs x → p x ≡ true → Contains (filter p xs) x
filter-contains p [] x (k, room, is) passes = absurd (omega arith)
filter-contains p (y ∷ ys) x (zero, room, is) passes = subst (λ b. Contains (cond b (y ∷ filter p ys) (filter p ys)) x) (sym (ap p is ∙ passes)) (zero, omega arith, is)
filter-contains p (y ∷ ys) x (suc k, room, is) passes =
    let later = filter-contains p ys x (k, omega arith, is) passes in
    elim (p y) as (λ b. Contains (cond b (y ∷ filter p ys) (filter p ys)) x) [
      | true ↦ (suc later.0, omega (arith, later.1), later.2)
      | false ↦ later
    ]

-- a number is below another, equal to it, or above it
pub by_number : (x a : ℕ) (P : Type 0) → (x < a → P) → (x ≡ a → P) → (a < x → P) → P
by_number x a P below same above = elim (nat_cmp x a) as (λ r. r ≡ nat_cmp x a → P) [
  | Less ↦ λ is. below (ranked x a Less is)
  | Equal ↦ λ is. same (ranked x a Equal is)
  | Greater ↦ λ is. above (ranked x a Greater is)
] refl
