-- Openings as contracts see them.
use Rattle.std.specs.Prelude.{refl, ℕ}
use Rattle.std.specs.Coded.{Coded, code_by, coded_ℕ, coded×}
use Rattle.logbook.specs.Pages.{Book, book_coded}
use Rattle.capstep.specs.State.{State}
use Rattle.capcore.specs.Codes.{state_code}

-- the state that the core opens with, how many rows its history takes at most, the book for them, and the one for the number of passes
pub record Opened : Type 0 where
  pub state : State
  pub max_rows : ℕ
  pub history : Book
  pub tally : Book

abbrev pub opened : State → ℕ → Book → Book → Opened
opened state max_rows history tally = record { state = state; max_rows = max_rows; history = history; tally = tally }

abbrev pub opened_code : Coded Opened
opened_code =
    code_by (State × (ℕ × (Book × Book))) (coded× state_code (coded× coded_ℕ (coded× book_coded book_coded)))
    (λ o. (o.state, (o.max_rows, (o.history, o.tally)))) (λ p. opened p.0 p.1.0 p.1.1.0 p.1.1.1) (λ _. refl)
