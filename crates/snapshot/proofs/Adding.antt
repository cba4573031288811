-- The steps of the book keep its rule.
use Rattle.std.proofs.Common.{◌≡◌, ℕ, suc, ◌+◌, ◌*◌, ◌<◌, ◌≤◌, ◌==◌, Bool, true, false, List, [], ◌∷◌, ◌++◌, length, set, refl, ap, sym, ◌∙◌, subst, arith}
use Rattle.std.proofs.Common.{inl, length-append, None, MatchBool}
use Rattle.std.proofs.lemmas.List.{append-nil}
use Rattle.std.proofs.lemmas.Bool.Decides.{nat_tests}
use mathlib.Core.List.{IsPrefix}
use prog.Atomic.{either}
use Rattle.logbook.specs.Pages.{Away, Cell, Goes, Moves, adds, cell, gives, keeps, no_nib, step}
use Rattle.capstep.specs.declared.row.Row.{Row}
use Rattle.snapshot.specs.Rows.{Adds, IsStored, Looks, Makes, cells_of, next_of, words_of}
use Rattle.snapshot.proofs.Beginnings.{prefix_length, prefix_whole}
use Rattle.snapshot.proofs.Words.{cells_away, cells_set, words-length, words_home, words_more}

abbrev pub shown : List Row → List Row
shown log = []

abbrev pub moved : List Row → List Row → ℕ → Type 0
moved xs ys n = Unit {0}

-- the rule, where there is no row more, and as many words are away
stored_same : (n : ℕ) (log : List Row) (away : ℕ) → n ≡ 2 * length log + away → IsStored ((n, true) ∷ (0, true) ∷ words_of (length log) away) (log ++ [])
stored_same n log away e = subst (IsStored ((n, true) ∷ (0, true) ∷ words_of (length log) away)) (sym (append-nil log)) (record { away = away; cells_are = ap (λ (k : ℕ). (k, true) ∷ (0, true) ∷ words_of (length log) away) e })

-- and where one word more is away
stored_made : (n : ℕ) (log : List Row) (away : ℕ) → n ≡ 2 * length log + (away + 1) → IsStored ((n, true) ∷ (0, true) ∷ (words_of (length log) away ++ (0, false) ∷ [])) (log ++ [])
stored_made n log away e =
    subst (λ (ws : List Cell). IsStored ((n, true) ∷ (0, true) ∷ ws) (log ++ [])) (sym (words_more (length log) away)) (stored_same n log (away + 1) e)

-- and where a row was added, and its word came home
stored_added : (n : ℕ) (log : List Row) (row : Row) (away left k : ℕ) → n ≡ 2 * (length log + 1) + left → away ≡ left + 1 → k ≡ length log
    → IsStored (set ((n, true) ∷ (0, true) ∷ words_of (length log) away) (k + 2) (0, true)) (log ++ row ∷ [])
stored_added n log row away left k e one at =
    let more : length (log ++ row ∷ []) ≡ suc (length log) = omega (arith, length-append log (row ∷ [])) in
    let home : set (words_of (length log) away) k (0, true) ≡ words_of (length (log ++ row ∷ [])) left =
    ap (λ (j : ℕ). set (words_of (length log) away) j (0, true)) at ∙ (words_home (length log) away left (omega arith) ∙ ap (λ (j : ℕ). words_of j left) (sym more)) in
    let number : n ≡ 2 * length (log ++ row ∷ []) + left = omega (arith, more, e) in
    record {
      away = left;
      cells_are = cells_set (n, true) (0, true) (0, true) (words_of (length log) away) k ∙ (λ i. (number i, true) ∷ (0, true) ∷ home i);
    }

-- ---- the next word is made

makes_goes : (log v : List Row) (e : Row) (old away out : ℕ) → old ≡ 2 * length v + out → out ≤ 1 → IsPrefix v log
    → (b : Bool) → (2 * length log + away == old) ≡ b
    → Goes IsStored shown moved 0 (v, (no_nib, None)) (λ n. either (n == old) (old + 1) n) (Makes (step 0 old (old + 1) e) (v, (no_nib, None))) (cells_of (length log) away) log
makes_goes log v e old away out is few pre true found =
    let here : 2 * length log + away ≡ old = grind (arith, nat_tests) in
    let n : either (2 * length log + away == old) (old + 1) (2 * length log + away) ≡ 2 * length log + (away + 1) = rw found (omega arith) in
    let key : length (cells_of (length log) away) + length v ≡ old + 2 = omega (arith, words-length (length log) away, prefix_length v log pre, here, is) in (
      adds,
      [],
      None,
      tt,
      stored_made _ log away n,
      inl (refl, refl),
      rw found (refl, key),
    )
makes_goes log v e old away out is few pre false found =
    let n : either (2 * length log + away == old) (old + 1) (2 * length log + away) ≡ 2 * length log + away = rw found refl in (
      keeps,
      [],
      None,
      tt,
      stored_same _ log away n,
      inl (refl, refl),
      rw found tt,
    )

-- whatever the book is, the exchange makes the next word, or finds another number
pub makes_moves : (v : List Row) (e : Row) (old out : ℕ) → old ≡ 2 * length v + out → out ≤ 1
    → Moves IsStored shown moved 0 (v, (no_nib, None)) (λ n. either (n == old) (old + 1) n) (Makes (step 0 old (old + 1) e) (v, (no_nib, None)))
makes_moves v e old out is few cs log kept pre away =
    let P : List Cell → Type 0 = λ c. (0 < length c) × ((cell c 0).1 ≡ true) × Goes IsStored shown moved 0 (v, (no_nib, None)) (λ n. either (n == old) (old + 1) n) (Makes (step 0 old (old + 1) e) (v, (no_nib, None))) c log in
    subst P (sym kept.cells_are) (omega arith, refl, makes_goes log v e old kept.away out is few pre (2 * length log + kept.away == old) refl)

-- ---- a row is added

-- who has the pen of the row behind those that were seen has seen all
all_seen : (log v : List Row) (away : ℕ) → IsPrefix v log → Away (next_of v) (cells_of (length log) away) → v ≡ log
all_seen log v away pre out = let there = out refl in prefix_whole v log pre (cells_away (length log) away (length v) there.0 there.1)

adds_goes : (log v : List Row) (e : Row) (old away : ℕ) → old ≡ 2 * length v + 2 → IsPrefix v log → Away (next_of v) (cells_of (length log) away)
    → (b : Bool) → (2 * length log + away == old) ≡ b
    → Goes IsStored shown moved 0 (v, (next_of v, None)) (λ n. either (n == old) (old + 1) n) (Adds (step 0 old (old + 1) e) (v, (next_of v, None))) (cells_of (length log) away) log
adds_goes log v e old away is pre out true found =
    let here : 2 * length log + away ≡ old = grind (arith, nat_tests) in
    let same : v ≡ log = all_seen log v away pre out in
    let many : length v ≡ length log = ap length same in
    let n : either (2 * length log + away == old) (old + 1) (2 * length log + away) ≡ 2 * (length log + 1) + 1 = rw found (omega (arith, many, here, is)) in (
      gives,
      e ∷ [],
      None,
      refl,
      stored_added _ log e away 1 (length v) n (omega (arith, many, here, is)) many,
      inl (refl, refl),
      rw found (ap (λ w. w ++ e ∷ []) (sym same)),
    )
adds_goes log v e old away is pre out false found =
    let n : either (2 * length log + away == old) (old + 1) (2 * length log + away) ≡ 2 * length log + away = rw found refl in (
      keeps,
      [],
      None,
      tt,
      stored_same _ log away n,
      inl (refl, refl),
      rw found refl,
    )

-- whatever the book is, the exchange adds the row to all that was seen, or finds another number
pub adds_moves : (v : List Row) (e : Row) (old : ℕ) → old ≡ 2 * length v + 2
    → Moves IsStored shown moved 0 (v, (next_of v, None)) (λ n. either (n == old) (old + 1) n) (Adds (step 0 old (old + 1) e) (v, (next_of v, None)))
adds_moves v e old is cs log kept pre away =
    let P : List Cell → Type 0 = λ c. (0 < length c) × ((cell c 0).1 ≡ true) × Goes IsStored shown moved 0 (v, (next_of v, None)) (λ n. either (n == old) (old + 1) n) (Adds (step 0 old (old + 1) e) (v, (next_of v, None))) c log in
    let out : Away (next_of v) (cells_of (length log) kept.away) = subst (Away (next_of v)) kept.cells_are away in
    subst P (sym kept.cells_are) (omega arith, refl, adds_goes log v e old kept.away is pre out (2 * length log + kept.away == old) refl)

done_at : (Z : Type 0) (before after : List Row) (row : Row) (found old : ℕ) (b : Bool) → (found == old) ≡ b → found ≡ old → MatchBool b (after ≡ before ++ row ∷ []) Z → after ≡ before ++ row ∷ []
done_at Z before after row found old true same is added = added
done_at Z before after row found old false same is kept = absurd (grind (arith, nat_tests))

-- where it found the number that was expected, it added the row
pub adds_done : (Z : Type 0) (before after : List Row) (row : Row) (found old : ℕ) → found ≡ old → MatchBool (found == old) (after ≡ before ++ row ∷ []) Z → after ≡ before ++ row ∷ []
adds_done Z before after row found old is added = done_at Z before after row found old (found == old) refl is added

-- ---- the pen's word is looked for

looked : (n : ℕ) (b : Bool) → (n == 0) ≡ b → either (n == 0) 0 n ≡ n
looked n true is = let none : n ≡ 0 = grind (arith, nat_tests) in rw is (sym none)
looked n false is = rw is refl

looks_goes : (log v rows : List Row) (e : Row) (away : ℕ) → Away (next_of rows) (cells_of (length log) away)
    → Goes IsStored shown moved 0 (v, (next_of rows, None)) (λ n. either (n == 0) 0 n) (Looks (step 0 0 0 e) (v, (next_of rows, None))) (cells_of (length log) away) log
looks_goes log v rows e away out =
    let there = out refl in
    let few = cells_away (length log) away (length rows) there.0 there.1 in
    let n : either (2 * length log + away == 0) 0 (2 * length log + away) ≡ 2 * length log + away = looked (2 * length log + away) (2 * length log + away == 0) refl in (
      keeps,
      [],
      None,
      tt,
      stored_same _ log away n,
      inl (refl, refl),
      (omega (arith, length-append log [], few), refl),
    )

-- whatever the book is, who has the pen finds no row behind those that stand before its word
pub looks_moves : (v rows : List Row) (e : Row)
    → Moves IsStored shown moved 0 (v, (next_of rows, None)) (λ n. either (n == 0) 0 n) (Looks (step 0 0 0 e) (v, (next_of rows, None)))
looks_moves v rows e cs log kept pre away =
    let P : List Cell → Type 0 = λ c. (0 < length c) × ((cell c 0).1 ≡ true) × Goes IsStored shown moved 0 (v, (next_of rows, None)) (λ n. either (n == 0) 0 n) (Looks (step 0 0 0 e) (v, (next_of rows, None))) c log in
    let out : Away (next_of rows) (cells_of (length log) kept.away) = subst (Away (next_of rows)) kept.cells_are away in
    subst P (sym kept.cells_are) (omega arith, refl, looks_goes log v rows e kept.away out)
