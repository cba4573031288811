-- Lists of which an element passes a test.
use Rattle.std.proofs.Common.{◌≡◌, ℕ, Bool, true, false, ◌||◌, ◌⊎◌, inl, inr, List, [], ◌∷◌, refl, ap, ◌∙◌}
use Rattle.std.specs.Prelude.{◌==◌, All}
use Rattle.std.specs.List.{list_any}
use Rattle.std.proofs.lemmas.Bool.{eq-eqb, eqb-true, false≢true, or_cases, or_left, or_parts, or_right}
use Rattle.std.proofs.lemmas.List.Elements.{All-cons, All-head, All-nil, All-tail}
use Rattle.capgrant.specs.Question.{contains}

-- an element that passes, with what holds of each
pub found : {X : Type 0} (P : X → Type 0) (p : X → Bool) (xs : List X) → All P xs → list_any p xs ≡ true → (x : X) × P x × (p x ≡ true)
found P p [] all some = absurd (false≢true some)
found P p (x ∷ xs) all some = by_case (or_cases (p x) (list_any p xs) some) (found P p xs (All-tail P x xs all))
  where
    by_case : (p x ≡ true) ⊎ (list_any p xs ≡ true) → (list_any p xs ≡ true → (y : _) × P y × (p y ≡ true)) → (y : _) × P y × (p y ≡ true)
    by_case (inl here) rest = (x, All-head P x xs all, here)
    by_case (inr later) rest = rest later

-- where no element passes, each fails
pub none_passes : {X : Type 0} (p : X → Bool) (xs : List X) → list_any p xs ≡ false → All (λ x. p x ≡ false) xs
none_passes p [] none = All-nil (λ x. p x ≡ false)
none_passes p (x ∷ xs) none =
    let parts = or_parts (p x) (list_any p xs) none in
    All-cons (λ y. p y ≡ false) x xs parts.0 (none_passes p xs parts.1)

-- where one test is passed, and each that passes it passes another
pub passes_other : {X : Type 0} (p r : X → Bool) (xs : List X) → All (λ x. p x ≡ true → r x ≡ true) xs → list_any p xs ≡ true → list_any r xs ≡ true
passes_other p r [] all some = some
passes_other p r (x ∷ xs) all some = by_case (or_cases (p x) (list_any p xs) some) (passes_other p r xs (All-tail (λ y. p y ≡ true → r y ≡ true) x xs all))
  where
    by_case : (p x ≡ true) ⊎ (list_any p xs ≡ true) → (list_any p xs ≡ true → list_any r xs ≡ true) → (r x || list_any r xs) ≡ true
    by_case (inl here) rest = or_left (r x) (list_any r xs) (All-head (λ y. p y ≡ true → r y ≡ true) x xs all here)
    by_case (inr later) rest = or_right (r x) (list_any r xs) (rest later)

-- what holds of each number of a list holds of one that is among them
pub holds_of : (P : ℕ → Type 0) (ns : List ℕ) (n : ℕ) → All P ns → contains ns n ≡ true → P n
holds_of P ns n all among =
    let one = found P (λ x. x == n) ns all among in
    rw (← eqb-true one.0 n one.2) one.1

-- a number that passes is among them
pub among_passes : (p : ℕ → Bool) (ns : List ℕ) (n : ℕ) → contains ns n ≡ true → p n ≡ true → list_any p ns ≡ true
among_passes p [] n among passes = absurd (false≢true among)
among_passes p (m ∷ ns) n among passes = by_case (or_cases (m == n) (contains ns n) among) (λ later. among_passes p ns n later passes)
  where
    by_case : ((m == n) ≡ true) ⊎ (contains ns n ≡ true) → (contains ns n ≡ true → list_any p ns ≡ true) → (p m || list_any p ns) ≡ true
    by_case (inl here) rest = or_left (p m) (list_any p ns) (ap p (eqb-true m n here) ∙ passes)
    by_case (inr later) rest = or_right (p m) (list_any p ns) (rest later)

-- and where one passes, it is a number of them
pub passes_among : (p : ℕ → Bool) (ns : List ℕ) → list_any p ns ≡ true → (n : ℕ) × (contains ns n ≡ true) × (p n ≡ true)
passes_among p [] some = absurd (false≢true some)
passes_among p (m ∷ ns) some = by_case (or_cases (p m) (list_any p ns) some) (passes_among p ns)
  where
    by_case : (p m ≡ true) ⊎ (list_any p ns ≡ true) → (list_any p ns ≡ true → (n : ℕ) × (contains ns n ≡ true) × (p n ≡ true)) → (n : ℕ) × (contains (m ∷ ns) n ≡ true) × (p n ≡ true)
    by_case (inl here) rest = (m, or_left (m == m) (contains ns m) (eq-eqb m m refl), here)
    by_case (inr later) rest = let one = rest later in (one.0, or_right (m == one.0) (contains ns one.0) one.1, one.2)

-- two tests that say the same of each element say the same of a list
pub same_any : {X : Type 0} (p r : X → Bool) → ((x : X) → p x ≡ r x) → (xs : List X) → list_any p xs ≡ list_any r xs
same_any p r same [] = refl
same_any p r same (x ∷ xs) = λ i. same x i || same_any p r same xs i
