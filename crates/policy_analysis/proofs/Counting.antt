-- A list of n numbers can't have each of 1 to n + 1.
use Rattle.std.proofs.Common.{◌≡◌, ℕ, suc, zero, ◌+◌, ◌<◌, ◌≤◌, Bool, true, false, not, ◌⊎◌, inl, inr, List, [], ◌∷◌, length, refl, ap, ◌∙◌, arith}
use Rattle.std.specs.Prelude.{◌==◌, filter}
use Rattle.std.proofs.lemmas.Bool.{and_from, false_from_ne_true, false≢true, ne_eqb, not_from_false}
use Rattle.std.proofs.lemmas.List.Filters.{length-filter_both}
use Rattle.capgrant.specs.Question.{contains}
use Rattle.capgrant.proofs.Listed.{contains-filter}

-- the others than this number
others : ℕ → List ℕ → List ℕ
others n ns = filter (λ x. not (x == n)) ns

no_more : (n : ℕ) (ns : List ℕ) → length (others n ns) ≤ length ns
unfolding others
no_more n ns =
    let both = length-filter_both (λ x. x == n) (λ x. not (x == n)) (λ x. refl) ns in
    omega (arith, both)

fewer : (n : ℕ) (ns : List ℕ) → contains ns n ≡ true → length (others n ns) + 1 ≤ length ns
unfolding others
fewer n [] among = absurd (false≢true among)
fewer n (m ∷ ns) among = by_case (m == n) refl (fewer n ns)
  where
    by_case : (b : Bool) → (m == n) ≡ b → (contains ns n ≡ true → length (filter (λ x. not (x == n)) ns) + 1 ≤ length ns) → length (filter (λ x. not (x == n)) (m ∷ ns)) + 1 ≤ length (m ∷ ns)
    by_case true is rest = let less = no_more n ns in rw is (omega arith)
    by_case false is rest = let less = rest (rw is at among) in rw is (omega arith)

pigeonhole : (n : ℕ) (ns : List ℕ) → ((k : ℕ) → 0 < k → k ≤ n → contains ns k ≡ true) → n ≤ length ns
unfolding others
pigeonhole zero ns all = omega arith
pigeonhole (suc n) ns all =
    let rest = pigeonhole n (filter (λ x. not (x == suc n)) ns) (λ k above most.
    contains-filter (λ x. not (x == suc n)) ns k
    ∙ and_from (not (k == suc n)) (contains ns k) (not_from_false (k == suc n) (ne_eqb k (suc n) (λ same. absurd (omega arith)))) (all k above (omega arith))) in
    let less = fewer (suc n) ns (all (suc n) (omega arith) (omega arith)) in
    omega arith

-- where each from 1 to the length is among them, the next is not
pub next_is_free : (ns : List ℕ) → ((k : ℕ) → 0 < k → k < length ns + 1 → contains ns k ≡ true) → contains ns (length ns + 1) ≡ false
next_is_free ns all = false_from_ne_true (contains ns (length ns + 1)) (λ among.
    let most : length ns + 1 ≤ length ns = pigeonhole (length ns + 1) ns (λ k above most. by_case k above (cases k most) among) in
    absurd (omega arith))
  where
    cases : (k : ℕ) → k ≤ length ns + 1 → (k < length ns + 1) ⊎ (k ≡ length ns + 1)
    cases k most = grind arith

    by_case : (k : ℕ) → 0 < k → (k < length ns + 1) ⊎ (k ≡ length ns + 1) → contains ns (length ns + 1) ≡ true → contains ns k ≡ true
    by_case k above (inl less) among = all k above less
    by_case k above (inr same) among = ap (contains ns) same ∙ among
