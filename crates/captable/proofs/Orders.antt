-- The keys of a list from one of them on, after a change of the list, and numbers that rise along it.
use Rattle.std.proofs.Common.{◌≡◌, ◌<◌, ℕ, Bool, true, false, not, cond, ◌||◌, ◌⊎◌, inl, inr, List, [], ◌∷◌, ◌++◌, refl, sym, ap, ◌∙◌, arith, nat_eq}
use Rattle.std.specs.List.{AllByRecursion, IsDistinct}
use Rattle.std.proofs.Math.Bool.{or-false}
use Rattle.std.proofs.lemmas.Bool.{eqb-true}
use Rattle.std.proofs.lemmas.List.Folds.{list_any-append}
use Rattle.cap_arena.specs.Walks.{is_among}
use Rattle.cap_arena.specs.Calls.{keys_without}
use Rattle.captable.specs.Walks.{keys_on}
use Rattle.captable.specs.Places.{AreInOrder}
use Rattle.captable.proofs.NodesAt.{rest_in}
use Rattle.captable.proofs.WalkOn.{apart-from}

-- ---- the keys from one on

-- a key from another on is one of the list
pub on-in : (ks : List ℕ) (i j : ℕ) → is_among (keys_on ks i) j ≡ true → is_among ks j ≡ true
on-in [] i j there = there
on-in (k ∷ ks) i j there = by_test (nat_eq i k) there (on-in ks i j)
  where
    by_test : (b : Bool) → is_among (cond b (k ∷ ks) (keys_on ks i)) j ≡ true → (is_among (keys_on ks i) j ≡ true → is_among ks j ≡ true) → is_among (k ∷ ks) j ≡ true
    by_test true there rest = there
    by_test false there rest = rest_in k ks j (rest there)

-- and so is that other
pub on-there : (ks : List ℕ) (i j : ℕ) → is_among (keys_on ks i) j ≡ true → is_among ks i ≡ true
on-there [] i j there = there
on-there (k ∷ ks) i j there = by_test (nat_eq i k) refl there (on-there ks i j)
  where
    by_test : (b : Bool) → nat_eq i k ≡ b → is_among (cond b (k ∷ ks) (keys_on ks i)) j ≡ true → (is_among (keys_on ks i) j ≡ true → is_among ks i ≡ true) → is_among (k ∷ ks) i ≡ true
    by_test true e there rest = ap (λ b. b || is_among ks i) e
    by_test false e there rest = rest_in k ks i (rest there)

-- a key is the first one from it on
pub own-on : (ks : List ℕ) (key : ℕ) → is_among ks key ≡ true → is_among (keys_on ks key) key ≡ true
own-on [] key there = there
own-on (k ∷ ks) key there = by_test (nat_eq key k) refl there (own-on ks key)
  where
    by_test : (b : Bool) → nat_eq key k ≡ b → (b || is_among ks key) ≡ true → (is_among ks key ≡ true → is_among (keys_on ks key) key ≡ true) → is_among (cond b (k ∷ ks) (keys_on ks key)) key ≡ true
    by_test true e there rest = ap (λ b. b || is_among ks key) e
    by_test false e there rest = rest there

-- of two keys one is from the other on
pub either-on : (ks : List ℕ) (i j : ℕ) → is_among ks i ≡ true → is_among ks j ≡ true → (is_among (keys_on ks i) j ≡ true) ⊎ (is_among (keys_on ks j) i ≡ true)
either-on [] i j a b = inl a
either-on (k ∷ ks) i j a b = by_tests (nat_eq i k) a (nat_eq j k) refl b (either-on ks i j)
  where
    by_tests : (p : Bool) → (p || is_among ks i) ≡ true → (q : Bool) → nat_eq j k ≡ q → (q || is_among ks j) ≡ true
        → (is_among ks i ≡ true → is_among ks j ≡ true → (is_among (keys_on ks i) j ≡ true) ⊎ (is_among (keys_on ks j) i ≡ true))
        → (is_among (cond p (k ∷ ks) (keys_on ks i)) j ≡ true) ⊎ (is_among (cond q (k ∷ ks) (keys_on ks j)) i ≡ true)
    by_tests true a q f b rest = inl (ap (λ x. x || is_among ks j) f ∙ b)
    by_tests false a true f b rest = inr (rest_in k ks i a)
    by_tests false a false f b rest = rest a b

pub on-trans : (ks : List ℕ) (i j q : ℕ) → IsDistinct nat_eq ks → is_among (keys_on ks i) j ≡ true → is_among (keys_on ks j) q ≡ true → is_among (keys_on ks i) q ≡ true
unfolding IsDistinct
on-trans [] i j q once a b = a
on-trans (k ∷ ks) i j q once a b = by_tests (nat_eq i k) a (nat_eq j k) refl b once.0 (on-trans ks i j q once.1)
  where
    by_tests : (p : Bool) → is_among (cond p (k ∷ ks) (keys_on ks i)) j ≡ true → (r : Bool) → nat_eq j k ≡ r → is_among (cond r (k ∷ ks) (keys_on ks j)) q ≡ true → AllByRecursion (λ x. nat_eq k x ≡ false) ks
        → (is_among (keys_on ks i) j ≡ true → is_among (keys_on ks j) q ≡ true → is_among (keys_on ks i) q ≡ true) → is_among (cond p (k ∷ ks) (keys_on ks i)) q ≡ true
    by_tests true a true e b apart rest = b
    by_tests true a false e b apart rest = rest_in k ks q (on-in ks j q b)
    by_tests false a true e b apart rest = absurd (let other : nat_eq j k ≡ false = apart-from k ks j apart (on-in ks i j a) in cc)
    by_tests false a false e b apart rest = rest a b

-- ---- one key more

pub among-wider : (ks : List ℕ) (x j : ℕ) → is_among ks j ≡ true → is_among (ks ++ x ∷ []) j ≡ true
among-wider ks x j there = list_any-append (nat_eq j) ks (x ∷ []) ∙ ap (λ b. b || is_among (x ∷ []) j) there

pub among-narrow : (ks : List ℕ) (x j : ℕ) → is_among (ks ++ x ∷ []) j ≡ true → nat_eq j x ≡ false → is_among ks j ≡ true
among-narrow ks x j there other =
    sym (or-false (is_among ks j)) ∙ sym (ap (λ c. is_among ks j || (c || false)) other) ∙ sym (list_any-append (nat_eq j) ks (x ∷ [])) ∙ there

pub on-wider : (ks : List ℕ) (x i j : ℕ) → is_among (keys_on ks i) j ≡ true → is_among (keys_on (ks ++ x ∷ []) i) j ≡ true
on-wider [] x i j there = absurd (cc)
on-wider (k ∷ ks) x i j there = by_test (nat_eq i k) there (on-wider ks x i j)
  where
    by_test : (b : Bool) → is_among (cond b (k ∷ ks) (keys_on ks i)) j ≡ true → (is_among (keys_on ks i) j ≡ true → is_among (keys_on (ks ++ x ∷ []) i) j ≡ true)
        → is_among (cond b (k ∷ (ks ++ x ∷ [])) (keys_on (ks ++ x ∷ []) i)) j ≡ true
    by_test true there rest = among-wider (k ∷ ks) x j there
    by_test false there rest = rest there

pub on-narrow : (ks : List ℕ) (x i j : ℕ) → is_among (keys_on (ks ++ x ∷ []) i) j ≡ true → nat_eq j x ≡ false → is_among (keys_on ks i) j ≡ true
on-narrow [] x i j there other = by_test (nat_eq i x) there
  where
    by_test : (b : Bool) → is_among (cond b (x ∷ []) []) j ≡ true → false ≡ true
    by_test true there = sym (ap (λ b. b || false) other) ∙ there
    by_test false there = there
on-narrow (k ∷ ks) x i j there other = by_test (nat_eq i k) there (λ a. on-narrow ks x i j a other)
  where
    by_test : (b : Bool) → is_among (cond b (k ∷ (ks ++ x ∷ [])) (keys_on (ks ++ x ∷ []) i)) j ≡ true → (is_among (keys_on (ks ++ x ∷ []) i) j ≡ true → is_among (keys_on ks i) j ≡ true)
        → is_among (cond b (k ∷ ks) (keys_on ks i)) j ≡ true
    by_test true there rest = among-narrow (k ∷ ks) x j there other
    by_test false there rest = rest there

-- ---- one key less

pub among-left : (ks : List ℕ) (r j : ℕ) → is_among ks j ≡ true → nat_eq r j ≡ false → is_among (keys_without ks r) j ≡ true
among-left [] r j there other = there
among-left (k ∷ ks) r j there other = by_tests (nat_eq j k) refl there (nat_eq r k) refl (λ a. among-left ks r j a other)
  where
    by_tests : (p : Bool) → nat_eq j k ≡ p → (p || is_among ks j) ≡ true → (q : Bool) → nat_eq r k ≡ q → (is_among ks j ≡ true → is_among (keys_without ks r) j ≡ true)
        → is_among (cond (not q) (k ∷ keys_without ks r) (keys_without ks r)) j ≡ true
    by_tests true e there true f rest = absurd (let own : nat_eq r j ≡ true = ap (nat_eq r) (eqb-true j k e) ∙ f in cc)
    by_tests true e there false f rest = ap (λ b. b || is_among (keys_without ks r) j) e
    by_tests false e there true f rest = rest there
    by_tests false e there false f rest = rest_in k (keys_without ks r) j (rest there)

pub left-in : (ks : List ℕ) (r j : ℕ) → is_among (keys_without ks r) j ≡ true → is_among ks j ≡ true
left-in [] r j there = there
left-in (k ∷ ks) r j there = by_tests (nat_eq j k) refl (nat_eq r k) there (left-in ks r j)
  where
    by_tests : (p : Bool) → nat_eq j k ≡ p → (q : Bool) → is_among (cond (not q) (k ∷ keys_without ks r) (keys_without ks r)) j ≡ true → (is_among (keys_without ks r) j ≡ true → is_among ks j ≡ true) → (p || is_among ks j) ≡ true
    by_tests true e q there rest = refl
    by_tests false e true there rest = rest there
    by_tests false e false there rest = rest (sym (ap (λ b. b || is_among (keys_without ks r) j) e) ∙ there)

pub left-apart : (ks : List ℕ) (r j : ℕ) → is_among (keys_without ks r) j ≡ true → nat_eq r j ≡ false
left-apart [] r j there = absurd (cc)
left-apart (k ∷ ks) r j there = by_tests (nat_eq r k) refl (nat_eq j k) refl there (left-apart ks r j)
  where
    by_tests : (q : Bool) → nat_eq r k ≡ q → (p : Bool) → nat_eq j k ≡ p → is_among (cond (not q) (k ∷ keys_without ks r) (keys_without ks r)) j ≡ true → (is_among (keys_without ks r) j ≡ true → nat_eq r j ≡ false) → nat_eq r j ≡ false
    by_tests true f p e there rest = rest there
    by_tests false f true e there rest = ap (nat_eq r) (eqb-true j k e) ∙ f
    by_tests false f false e there rest = rest (sym (ap (λ b. b || is_among (keys_without ks r) j) e) ∙ there)

pub on-left : (ks : List ℕ) (r i j : ℕ) → is_among (keys_on ks i) j ≡ true → nat_eq r i ≡ false → nat_eq r j ≡ false → is_among (keys_on (keys_without ks r) i) j ≡ true
on-left [] r i j there apart other = there
on-left (k ∷ ks) r i j there apart other = by_tests (nat_eq i k) refl there (nat_eq r k) refl (λ a. on-left ks r i j a apart other)
  where
    by_tests : (p : Bool) → nat_eq i k ≡ p → is_among (cond p (k ∷ ks) (keys_on ks i)) j ≡ true → (q : Bool) → nat_eq r k ≡ q → (is_among (keys_on ks i) j ≡ true → is_among (keys_on (keys_without ks r) i) j ≡ true)
        → is_among (keys_on (cond (not q) (k ∷ keys_without ks r) (keys_without ks r)) i) j ≡ true
    by_tests true e there true f rest = absurd (let own : nat_eq r i ≡ true = ap (nat_eq r) (eqb-true i k e) ∙ f in cc)
    by_tests true e there false f rest =
        ap (λ b. is_among (cond b (k ∷ keys_without ks r) (keys_on (keys_without ks r) i)) j) e
        ∙ sym (ap (λ b. is_among (cond (not b) (k ∷ keys_without ks r) (keys_without ks r)) j) f) ∙ among-left (k ∷ ks) r j there other
    by_tests false e there true f rest = rest there
    by_tests false e there false f rest = ap (λ b. is_among (cond b (k ∷ keys_without ks r) (keys_on (keys_without ks r) i)) j) e ∙ rest there

left-on : (ks : List ℕ) (r i j : ℕ) → is_among (keys_on (keys_without ks r) i) j ≡ true → is_among (keys_on ks i) j ≡ true
left-on [] r i j there = there
left-on (k ∷ ks) r i j there = by_tests (nat_eq i k) refl (nat_eq r k) refl there (left-on ks r i j)
  where
    by_tests : (p : Bool) → nat_eq i k ≡ p → (q : Bool) → nat_eq r k ≡ q → is_among (keys_on (cond (not q) (k ∷ keys_without ks r) (keys_without ks r)) i) j ≡ true
        → (is_among (keys_on (keys_without ks r) i) j ≡ true → is_among (keys_on ks i) j ≡ true) → is_among (cond p (k ∷ ks) (keys_on ks i)) j ≡ true
    by_tests true e true f there rest = rest_in k ks j (on-in ks i j (rest there))
    by_tests true e false f there rest =
        left-in (k ∷ ks) r j (ap (λ b. is_among (cond (not b) (k ∷ keys_without ks r) (keys_without ks r)) j) f ∙ sym (ap (λ b. is_among (cond b (k ∷ keys_without ks r) (keys_on (keys_without ks r) i)) j) e) ∙ there)
    by_tests false e true f there rest = rest there
    by_tests false e false f there rest = rest (sym (ap (λ b. is_among (cond b (k ∷ keys_without ks r) (keys_on (keys_without ks r) i)) j) e) ∙ there)

-- ---- numbers that rise

pub order-same : (number number' : ℕ → ℕ) (ks : List ℕ) → ((k : ℕ) → is_among ks k ≡ true → number' k ≡ number k) → AreInOrder number ks → AreInOrder number' ks
order-same number number' ks same o = record {
  rises = λ i j there apart.
      let first = same i (on-there ks i j there) in
      let second = same j (on-in ks i j there) in
      let less : number i < number j = o.rises i j there apart in
      omega (arith, first, second, less);
}

pub order-left : (number : ℕ → ℕ) (ks : List ℕ) (r : ℕ) → AreInOrder number ks → AreInOrder number (keys_without ks r)
order-left number ks r o = record { rises = λ i j there apart. o.rises i j (left-on ks r i j there) apart }

pub order-wider : (number : ℕ → ℕ) (ks : List ℕ) (x : ℕ) → ((k : ℕ) → is_among ks k ≡ true → number k < number x) → AreInOrder number ks → AreInOrder number (ks ++ x ∷ [])
order-wider number ks x below o = record { rises = λ i j there apart. by_test i j there apart (nat_eq j x) refl }
  where
    by_test : (i j : ℕ) → is_among (keys_on (ks ++ x ∷ []) i) j ≡ true → nat_eq i j ≡ false → (b : Bool) → nat_eq j x ≡ b → number i < number j
    by_test i j there apart false e = o.rises i j (on-narrow ks x i j there e) apart
    by_test i j there apart true e =
        let is : j ≡ x = eqb-true j x e in
        let other : nat_eq i x ≡ false = ap (nat_eq i) (sym is) ∙ apart in
        let less : number i < number x = below i (among-narrow ks x i (on-there (ks ++ x ∷ []) i j there) other) in
        let same : number j ≡ number x = ap number is in
        omega (arith, less, same)
