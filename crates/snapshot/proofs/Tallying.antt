-- The number is written by the rule of its book.
use Rattle.std.proofs.Common.{◌≡◌, ℕ, ◌<◌, ◌≤◌, ◌==◌, Bool, true, false, List, [], ◌∷◌, ◌++◌, length, refl, sym, ◌∙◌, subst, arith, inl, None, MatchBool}
use Rattle.std.proofs.lemmas.Bool.Decides.{nat_tests}
use mathlib.Core.List.{IsPrefix}
use prog.Atomic.{either}
use Rattle.logbook.specs.Pages.{Cell, Goes, Moves, cell, keeps, no_nib, step}
use Rattle.snapshot.specs.Tallies.{IsTally, IsWritten}

abbrev pub shown : List ℕ → List ℕ
shown log = []

abbrev pub moved : List ℕ → List ℕ → ℕ → Type 0
moved xs ys n = Unit {0}

writes_goes : (log : List ℕ) (e : ℕ) → length log ≤ 1
    → Goes IsTally shown moved 0 ([], (no_nib, None)) (λ n. either (n == 0) 1 n) (IsWritten (step 0 0 1 e) ([], (no_nib, None))) ((length log, true) ∷ (0, true) ∷ []) log
writes_goes [] e few = (keeps, e ∷ [], None, tt, record { cells_are = refl; once = omega arith }, inl (refl, refl), refl)
writes_goes (m ∷ []) e few = (keeps, [], None, tt, record { cells_are = refl; once = omega arith }, inl (refl, refl), tt)
writes_goes (m ∷ k ∷ log) e few = absurd (omega arith)

-- whatever the book is, the exchange writes the number, or finds one there
pub writes_moves : (e : ℕ) → Moves IsTally shown moved 0 ([], (no_nib, None)) (λ n. either (n == 0) 1 n) (IsWritten (step 0 0 1 e) ([], (no_nib, None)))
writes_moves e cs log kept pre away =
    let P : List Cell → Type 0 = λ c. (0 < length c) × ((cell c 0).1 ≡ true) × Goes IsTally shown moved 0 ([], (no_nib, None)) (λ n. either (n == 0) 1 n) (IsWritten (step 0 0 1 e) ([], (no_nib, None))) c log in
    subst P (sym kept.cells_are) (omega arith, refl, writes_goes log e kept.once)

written_at : (Z : Type 0) (after : List ℕ) (e found : ℕ) (b : Bool) → (found == 0) ≡ b → found ≡ 0 → MatchBool b (after ≡ e ∷ []) Z → after ≡ e ∷ []
written_at Z after e found true same is written = written
written_at Z after e found false same is kept = absurd (grind (arith, nat_tests))

-- where it found none, it wrote the number
pub written : (Z : Type 0) (after : List ℕ) (e found : ℕ) → found ≡ 0 → MatchBool (found == 0) (after ≡ e ∷ []) Z → after ≡ e ∷ []
written Z after e found is done = written_at Z after e found (found == 0) refl is done

-- two numbers that begin one list are the same
pub one_first : (n m : ℕ) (xs : List ℕ) → IsPrefix (n ∷ []) xs → IsPrefix (m ∷ []) xs → n ≡ m
one_first n m [] one other = absurd (cc (one.1))
one_first n m (x ∷ xs) one other = cc (one.1, other.1)
