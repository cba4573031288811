-- Grants that are left out, one after the other.
use Rattle.std.proofs.Common.{◌≡◌, ℕ, suc, ◌+◌, ◌<◌, ◌≤◌, Bool, true, false, ◌||◌, ◌⊎◌, inl, inr, List, [], ◌∷◌, ◌++◌, length, take, get_or, refl, sym, ap}
use Rattle.std.proofs.Common.{◌∙◌, subst, arith}
use Rattle.std.specs.Prelude.{◌==◌, not, is_some, Option, Some, None, position, MatchOption}
use Rattle.std.specs.List.{list_any}
use Rattle.std.proofs.lemmas.Bool.{both_ways, eq-eqb, eqb-true, or_cases, or_left, or_right}
use Rattle.std.proofs.lemmas.List.{append-nil, length-append, length-take-le, take_more}
use Rattle.std.proofs.lemmas.List.Folds.{list_any-append}
use Rattle.capspec.specs.declared.grant.Grant.{Grant}
use Rattle.capgrant.specs.Question.{Question, contains}
use Rattle.capgrant.specs.declared.answer.Verdict.TheVariants.{Allowed, Denied}
use Rattle.capgrant.specs.declared.rule.Rule.{Rule}
use Rattle.capgrant.specs.Verdict.{allows, first_failures, granted, verdict_at, verdict_of}
use Rattle.capgrant.proofs.Verdicts.{granted_somewhere}
use Rattle.policy_analysis.specs.declared.witness.Witness.{Witness}
use Rattle.policy_analysis.specs.Comparing.{Covers, IsWitness, question_of}
use Rattle.policy_analysis.specs.Linting.{left, left_from}

-- ---- the more numbers, the fewer grants

pub left_fewer : (p : Grant → Bool) (a b : List ℕ) (n : ℕ) (grants : List Grant) → ((k : ℕ) → contains a k ≡ true → contains b k ≡ true) → list_any p (left_from n b grants) ≡ true → list_any p (left_from n a grants) ≡ true
left_fewer p a b n [] more some = some
left_fewer p a b n (g ∷ grants) more some = by_case (λ there. left_fewer p a b (n + 1) grants more there) (contains a n) (contains b n) refl refl
  where
    by_head : (list_any p (left_from (n + 1) b grants) ≡ true → list_any p (left_from (n + 1) a grants) ≡ true) → (p g ≡ true) ⊎ (list_any p (left_from (n + 1) b grants) ≡ true) → (p g || list_any p (left_from (n + 1) a grants)) ≡ true
    by_head rest (inl here) = or_left (p g) (list_any p (left_from (n + 1) a grants)) here
    by_head rest (inr there) = or_right (p g) (list_any p (left_from (n + 1) a grants)) (rest there)

    by_case : (list_any p (left_from (n + 1) b grants) ≡ true → list_any p (left_from (n + 1) a grants) ≡ true) → (x y : Bool) → contains a n ≡ x → contains b n ≡ y → list_any p (left_from n a (g ∷ grants)) ≡ true
    by_case rest true true in_a in_b = rw in_a (rest (rw in_b at some))
    by_case rest true false in_a in_b = absurd (both_ways (contains b n) in_b (more n in_a))
    by_case rest false true in_a in_b = rw in_a (or_right (p g) (list_any p (left_from (n + 1) a grants)) (rest (rw in_b at some)))
    by_case rest false false in_a in_b = rw in_a (by_head rest (or_cases (p g) (list_any p (left_from (n + 1) b grants)) (rw in_b at some)))

pub covers_fewer : (a b : List ℕ) (grants : List Grant) → ((k : ℕ) → contains a k ≡ true → contains b k ≡ true) → Covers (left b grants) grants → Covers (left a grants) grants
covers_fewer a b grants more covers q some = left_fewer (allows q) a b 1 grants more (covers q some)

left_none : (n : ℕ) (grants : List Grant) → left_from n [] grants ≡ grants
left_none n [] = refl
left_none n (g ∷ grants) = ap (λ (gs : List Grant). g ∷ gs) (left_none (n + 1) grants)

-- ---- a number that stands before the others or behind them

behind : (numbers : List ℕ) (m k : ℕ) → contains (numbers ++ m ∷ []) k ≡ (contains numbers k || contains (m ∷ []) k)
behind numbers m k = list_any-append (λ x. x == k) numbers (m ∷ [])

one_itself : (m k : ℕ) → contains (m ∷ []) k ≡ true → (m == k) ≡ true
one_itself m k is = by_case (or_cases (m == k) false is)
  where
    by_case : ((m == k) ≡ true) ⊎ (false ≡ true) → (m == k) ≡ true
    by_case (inl same) = same
    by_case (inr never) = absurd (cc)

in_front : (numbers : List ℕ) (m k : ℕ) → contains (numbers ++ m ∷ []) k ≡ true → contains (m ∷ numbers) k ≡ true
in_front numbers m k is = by_case (or_cases (contains numbers k) (contains (m ∷ []) k) (sym (behind numbers m k) ∙ is))
  where
    by_case : (contains numbers k ≡ true) ⊎ (contains (m ∷ []) k ≡ true) → contains (m ∷ numbers) k ≡ true
    by_case (inl one) = or_right (m == k) (contains numbers k) one
    by_case (inr same) = or_left (m == k) (contains numbers k) (one_itself m k same)

-- what is in the numbers is still there with one more behind them
still : (numbers : List ℕ) (m n k : ℕ) → contains (n ∷ numbers) k ≡ true → contains (n ∷ (numbers ++ m ∷ [])) k ≡ true
still numbers m n k is = by_case (or_cases (n == k) (contains numbers k) is)
  where
    by_case : ((n == k) ≡ true) ⊎ (contains numbers k ≡ true) → contains (n ∷ (numbers ++ m ∷ [])) k ≡ true
    by_case (inl same) = or_left (n == k) (contains (numbers ++ m ∷ []) k) same
    by_case (inr one) = or_right (n == k) (contains (numbers ++ m ∷ []) k) (behind numbers m k ∙ or_left (contains numbers k) (contains (m ∷ []) k) one)

-- ---- the loop, from the last grant to the first

-- those of these numbers can be left out, and of those with a number above m no other
pub record AreRedundantAbove (grants : List Grant) (numbers : List ℕ) (m : ℕ) : Type 0 where
  pub enough : Covers (left numbers grants) grants
  pub needed : (n : ℕ) → m < n → n ≤ length grants → contains numbers n ≡ false → Covers (left (n ∷ numbers) grants) grants → ⊥

pub none_above : (grants : List Grant) (m : ℕ) → length grants ≤ m → AreRedundantAbove grants [] m
none_above grants m all = record {
  enough = λ q some. rw (left_none 1 grants) some;
  needed = λ n above within out covers. absurd (omega arith);
}

pub one_taken : (grants : List Grant) (numbers : List ℕ) (m : ℕ) → AreRedundantAbove grants numbers (m + 1) → Covers (left ((m + 1) ∷ numbers) grants) grants → AreRedundantAbove grants (numbers ++ (m + 1) ∷ []) m
one_taken grants numbers m before covers = record {
  enough = covers_fewer (numbers ++ (m + 1) ∷ []) ((m + 1) ∷ numbers) grants (in_front numbers (m + 1)) covers;
  needed = needed;
}
  where
    needed : (n : ℕ) → m < n → n ≤ length grants → contains (numbers ++ (m + 1) ∷ []) n ≡ false → Covers (left (n ∷ (numbers ++ (m + 1) ∷ [])) grants) grants → ⊥
    needed n above within out all = by_case ((m + 1) == n) refl
      where
        not_old : (b : Bool) → contains numbers n ≡ b → contains numbers n ≡ false
        not_old false is = is
        not_old true is = absurd (both_ways (contains (numbers ++ (m + 1) ∷ []) n) out (behind numbers (m + 1) n ∙ or_left (contains numbers n) (contains ((m + 1) ∷ []) n) is))

        by_case : (b : Bool) → ((m + 1) == n) ≡ b → ⊥
        by_case true same = both_ways (contains (numbers ++ (m + 1) ∷ []) n) out (behind numbers (m + 1) n ∙ or_right (contains numbers n) (contains ((m + 1) ∷ []) n) (or_left ((m + 1) == n) false same))
        by_case false other =
            let apart : (m + 1 ≡ n) → ⊥ = λ same. both_ways ((m + 1) == n) other (eq-eqb (m + 1) n same) in
            before.needed n (omega arith) within (not_old (contains numbers n) refl) (covers_fewer (n ∷ numbers) (n ∷ (numbers ++ (m + 1) ∷ [])) grants (still numbers (m + 1) n) all)

pub one_kept : (grants : List Grant) (numbers : List ℕ) (m : ℕ) → AreRedundantAbove grants numbers (m + 1) → (Covers (left ((m + 1) ∷ numbers) grants) grants → ⊥) → AreRedundantAbove grants numbers m
one_kept grants numbers m before open' = record { enough = before.enough; needed = needed }
  where
    needed : (n : ℕ) → m < n → n ≤ length grants → contains numbers n ≡ false → Covers (left (n ∷ numbers) grants) grants → ⊥
    needed n above within out all = by_case ((m + 1) == n) refl
      where
        by_case : (b : Bool) → ((m + 1) == n) ≡ b → ⊥
        by_case true same =
            let is : m + 1 ≡ n = eqb-true (m + 1) n same in
            open' (rw is all)
        by_case false other =
            let apart : (m + 1 ≡ n) → ⊥ = λ same. both_ways ((m + 1) == n) other (eq-eqb (m + 1) n same) in
            before.needed n (omega arith) within out all

-- the same as the loop has them: the number is k, and the numbers stand in a slice
pub taken : (grants : List Grant) (numbers slice after : List ℕ) (k m : ℕ) → AreRedundantAbove grants numbers k → k ≡ m + 1 → slice ≡ numbers → after ≡ numbers ++ k ∷ [] → Covers (left (k ∷ slice) grants) grants → AreRedundantAbove grants after m
taken grants numbers slice after k m before is same after_is covers =
    subst (λ (ns : List ℕ). AreRedundantAbove grants ns m) (sym (after_is ∙ ap (λ (j : ℕ). numbers ++ j ∷ []) is))
    (one_taken grants numbers m (subst (λ (j : ℕ). AreRedundantAbove grants numbers j) is before)
    (subst (λ (j : ℕ). Covers (left (j ∷ numbers) grants) grants) is (subst (λ (ns : List ℕ). Covers (left (k ∷ ns) grants) grants) same covers)))

pub kept : (grants : List Grant) (numbers slice after : List ℕ) (k m : ℕ) → AreRedundantAbove grants numbers k → k ≡ m + 1 → slice ≡ numbers → after ≡ numbers → (Covers (left (k ∷ slice) grants) grants → ⊥) → AreRedundantAbove grants after m
kept grants numbers slice after k m before is same after_is open' =
    subst (λ (ns : List ℕ). AreRedundantAbove grants ns m) (sym after_is)
    (one_kept grants numbers m (subst (λ (j : ℕ). AreRedundantAbove grants numbers j) is before)
    (λ covers. open' (subst (λ (ns : List ℕ). Covers (left (k ∷ ns) grants) grants) (sym same) (subst (λ (j : ℕ). Covers (left (j ∷ numbers) grants) grants) (sym is) covers))))

-- ---- the copies

left_from-append : (n : ℕ) (numbers : List ℕ) (xs ys : List Grant) → left_from n numbers (xs ++ ys) ≡ left_from n numbers xs ++ left_from (n + length xs) numbers ys
left_from-append n numbers [] ys = let same : n + 0 ≡ n = omega arith in rw same
left_from-append n numbers (x ∷ xs) ys =
    let same : (n + 1) + length xs ≡ n + suc (length xs) = omega arith in
    by_case (left_from-append (n + 1) numbers xs ys ∙ ap (λ (k : ℕ). left_from (n + 1) numbers xs ++ left_from k numbers ys) same) (contains numbers n) refl
  where
    by_case : left_from (n + 1) numbers (xs ++ ys) ≡ left_from (n + 1) numbers xs ++ left_from (n + suc (length xs)) numbers ys → (b : Bool) → contains numbers n ≡ b → left_from n numbers ((x ∷ xs) ++ ys) ≡ left_from n numbers (x ∷ xs) ++ left_from (n + suc (length xs)) numbers ys
    by_case rest true is = rw is rest
    by_case rest false is = rw is (ap (λ (gs : List Grant). x ∷ gs) rest)

-- of the first i + 1 grants: as of the first i, and the last with its number
one_more : (numbers : List ℕ) (grants : List Grant) (i : ℕ) (d : Grant) → i < length grants → left numbers (take (i + 1) grants) ≡ left numbers (take i grants) ++ left_from (i + 1) numbers (get_or grants i d ∷ [])
one_more numbers grants i d within =
    let long : length (take i grants) ≡ i = length-take-le i grants (omega arith) in
    let number : 1 + length (take i grants) ≡ i + 1 = omega arith in
    ap (left numbers) (take_more grants i d within)
    ∙ left_from-append 1 numbers (take i grants) (get_or grants i d ∷ [])
    ∙ ap (λ (n : ℕ). left numbers (take i grants) ++ left_from n numbers (get_or grants i d ∷ [])) number

pub one_stays : (numbers : List ℕ) (grants : List Grant) (i : ℕ) (d : Grant) → i < length grants → contains numbers (i + 1) ≡ false → left numbers (take (i + 1) grants) ≡ left numbers (take i grants) ++ get_or grants i d ∷ []
one_stays numbers grants i d within out = one_more numbers grants i d within ∙ rw out

pub one_goes : (numbers : List ℕ) (grants : List Grant) (i : ℕ) (d : Grant) → i < length grants → contains numbers (i + 1) ≡ true → left numbers (take (i + 1) grants) ≡ left numbers (take i grants)
one_goes numbers grants i d within in' = one_more numbers grants i d within ∙ rw in' (append-nil (left numbers (take i grants)))

-- the same as the loop has them: it knows whether the number is among those that are left out
pub grant_stays : (numbers : List ℕ) (grants rest after : List Grant) (i : ℕ) (g : Grant) (among : Bool) → rest ≡ left numbers (take i grants) → length rest ≤ i → i < length grants → g ≡ get_or grants i g → among ≡ contains numbers (i + 1) → among ≡ false → after ≡ rest ++ g ∷ [] → (after ≡ left numbers (take (i + 1) grants)) × (length after ≤ i + 1)
grant_stays numbers grants rest after i g among same few within at is out after_is =
    let long : length after ≡ length rest + 1 = ap length after_is ∙ length-append rest (g ∷ []) in
    (after_is ∙ ap (λ (gs : List Grant). gs ++ g ∷ []) same ∙ ap (λ (h : Grant). left numbers (take i grants) ++ h ∷ []) at ∙ sym (one_stays numbers grants i g within (sym is ∙ out)), omega arith)

pub grant_goes : (numbers : List ℕ) (grants rest after : List Grant) (i : ℕ) (g : Grant) (among : Bool) → rest ≡ left numbers (take i grants) → length rest ≤ i → i < length grants → among ≡ contains numbers (i + 1) → among ≡ true → after ≡ rest → (after ≡ left numbers (take (i + 1) grants)) × (length after ≤ i + 1)
grant_goes numbers grants rest after i g among same few within is in' after_is =
    let long : length after ≡ length rest = ap length after_is in
    (after_is ∙ same ∙ sym (one_goes numbers grants i g within (sym is ∙ in')), omega arith)

-- ---- what the comparison says

pub some_granted : (q : Question) (grants : List Grant) (n : ℕ) → verdict_of q grants ≡ Allowed n → granted q grants ≡ true
unfolding verdict_of
some_granted q grants n is = by_place (position (allows q) grants) refl
  where
    never : (rules : List Rule) (n : ℕ) → Denied rules ≡ Allowed n → ⊥
    never rules n e = cc

    by_place : (place : Option ℕ) → position (allows q) grants ≡ place → granted q grants ≡ true
    by_place (Some place) at = sym (granted_somewhere q grants place at)
    by_place None at = absurd (never (first_failures q grants) n (ap (λ (o : Option ℕ). verdict_at o (first_failures q grants)) (sym at) ∙ is))

pub not_covered : (old new : List Grant) (found : Option Witness) (none : Bool) → MatchOption found (Covers old new) (IsWitness old new) → is_some found ≡ not none → none ≡ false → Covers old new → ⊥
not_covered old new None true exact is e covers = absurd (cc)
not_covered old new None false exact is e covers = absurd (cc)
not_covered old new (Some w) none exact is e covers = both_ways (granted (question_of w) old) exact.denied (covers (question_of w) (some_granted (question_of w) new w.grant exact.allowed))
