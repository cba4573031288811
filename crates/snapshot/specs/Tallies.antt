-- The book in which a number stands.
use Rattle.std.specs.Prelude.{◌≡◌, ◌≤◌, ◌==◌, ℕ, true, List, [], ◌∷◌, length, MatchBool}
use Rattle.logbook.specs.Pages.{Cell, Step}
use Rattle.logbook.specs.Pages.{View as Page}

-- it has two words: the first tells how many numbers stand there, which is one at most, and the second is left at 0
pub record IsTally (cells : List Cell) (log : List ℕ) : Type 0 where
  pub cells_are : cells ≡ (length log, true) ∷ (0, true) ∷ []
  pub once : length log ≤ 1

-- where none stood there, this one does now
abbrev pub IsWritten : Step ℕ → Page ℕ ℕ → ℕ → Page ℕ ℕ → Type 0
IsWritten s before found after = MatchBool (found == s.old) (after.0 ≡ s.ask ∷ []) (Unit {0})
