-- In ascending numbers an MDS finds each that is among them.
use Rattle.std.proofs.Common.{◌≡◌, ℕ, ◌<◌, suc, Bool, true, false, ◌||◌, List, [], ◌∷◌, ◌++◌, length, take, drop, refl, sym, ap, ◌∙◌, arith}
use Rattle.std.specs.Prelude.{All, nat_lt, if◌then◌else◌, ◌==◌}
use Rattle.std.specs.List.{refill}
use Rattle.std.specs.List.Sorted.{IsNonDecreasing, IsPermutation, IsSortedByKey}
use Rattle.std.specs.Ordering.{nat_cmp}
use Rattle.std.proofs.Math.Seq.{drop-length, take-length}
use Rattle.std.proofs.lemmas.Bool.{ltb-true, ne_eqb}
use Rattle.std.proofs.lemmas.List.{append-nil}
use Rattle.std.proofs.lemmas.List.Elements.{All-head, All-tail}
use Rattle.std.proofs.lemmas.List.Sorted.{IsNonDecreasingBy-from_sort, list_any-IsPermutation}
use Rattle.capgrant.specs.Question.{contains}
use Rattle.release_rules.specs.Question.{is_in_groups}
use Rattle.policy_analysis.specs.ComparingBy.{AreInOrder}

-- a number below all of them is none of them
none_so_low : (n : ℕ) (xs : List ℕ) → All (λ x. n < x) xs → contains xs n ≡ false
none_so_low n [] all = refl
none_so_low n (x ∷ xs) all =
    let above : n < x = All-head (λ y. n < y) x xs all in
    rw (ne_eqb x n (omega arith)) (none_so_low n xs (All-tail (λ y. n < y) x xs all))

in_order_more : (x gid : ℕ) (xs : List ℕ) → IsNonDecreasing (x ∷ xs) → is_in_groups gid xs ≡ contains xs gid → (b : Bool) → nat_lt gid x ≡ b → (if b then false else ((x == gid) || is_in_groups gid xs)) ≡ ((x == gid) || contains xs gid)
in_order_more x gid xs up later true is =
    let below : gid < x = ltb-true gid x is in
    sym (rw (ne_eqb x gid (omega arith)) (none_so_low gid xs (λ k d less. let step = up 0 (suc k) d (omega arith) (omega arith) in omega arith)))
in_order_more x gid xs up later false is = ap (λ (b : Bool). (x == gid) || b) later

pub found_in_order : (xs : List ℕ) → IsNonDecreasing xs → (gid : ℕ) → is_in_groups gid xs ≡ contains xs gid
found_in_order [] up gid = refl
found_in_order (x ∷ xs) up gid = in_order_more x gid xs up (found_in_order xs (λ i j d le less. up (suc i) (suc j) d (omega arith) (omega arith)) gid) (nat_lt gid x) refl

-- what a sort leaves is in order, and has the numbers that were there
pub sorted_is_found : (after result : List ℕ) → IsSortedByKey (λ x. x) nat_cmp after → result ≡ after → AreInOrder result
sorted_is_found after result sorted same gid = rw same (found_in_order after (IsNonDecreasingBy-from_sort (λ x. x) after sorted) gid)

pub sorted_has_same : (before after : List ℕ) → IsPermutation before after → (groups result : List ℕ) → before ≡ groups → result ≡ after → (gid : ℕ) → contains result gid ≡ contains groups gid
sorted_has_same before after moved groups result before_is result_is gid =
    ap (λ (xs : List ℕ). contains xs gid) result_is ∙ sym (list_any-IsPermutation (λ x. x == gid) before after moved) ∙ ap (λ (xs : List ℕ). contains xs gid) before_is

-- what is written over all elements is what is there
pub refill_all : {A : Type 0} (xs ws : List A) → length ws ≡ length xs → refill (length xs) xs ws ≡ ws
refill_all xs ws e =
    ap (λ n. take (length xs) (ws ++ drop n xs)) e ∙ ap (λ d. take (length xs) (ws ++ d)) (drop-length xs)
    ∙ ap (take (length xs)) (append-nil ws) ∙ ap (λ n. take n ws) (sym e) ∙ take-length ws
