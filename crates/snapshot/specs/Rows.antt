-- Rows of a history, and the rule of the book that keeps them.
use Rattle.std.specs.Prelude.{ℕ, ◌≡◌, ◌≤◌, ◌+◌, ◌*◌, ◌==◌, true, false, List, [], ◌∷◌, ◌++◌, length, replicate, MatchBool}
use Rattle.std.specs.Coded.{Coded, coded_list}
use Rattle.logbook.specs.Pages.{Book, Cell, Named, Nib, Step, may_make, may_write, nib}
use Rattle.logbook.specs.Pages.{View as Page}
use Rattle.capstep.specs.declared.event.Event.TheVariants.{Unblock}
use Rattle.capstep.specs.declared.row.Row.{Row}
use Rattle.capstep.specs.declared.reply.Reply.TheVariants.{Done}
use Rattle.capstep.specs.contracts.row.Row as history_row
use Rattle.capstep.specs.History.{IsLegal}
use Rattle.capstep.specs.State.{State}

-- a list of rows is stored as their codes
abbrev pub rows_code : Coded (List Row)
rows_code = coded_list history_row.the_row.coded

-- the rows are a legal history from the opening state, and lead to some state
pub record Legal (opening : State) (rows : List Row) : Type 0 where
  pub last : State
  pub is_legal : IsLegal opening rows last

-- a word for each row, which is at home, and then those of rows to come, which are away
abbrev pub words_of : ℕ → ℕ → List Cell
words_of rows away = replicate rows (0, true) ++ replicate away (0, false)

-- A book begins with two words. The first tells how many rows there are and how many words are away, the second is left at 0
abbrev pub cells_of : ℕ → ℕ → List Cell
cells_of rows away = (2 * rows + away, true) ∷ (0, true) ∷ words_of rows away

pub record IsStored (cells : List Cell) (log : List Row) : Type 0 where
  pub away : ℕ
  pub cells_are : cells ≡ cells_of (length log) away

-- the first word of the book
abbrev pub head_of : Book → Named
head_of book = record { tracked = true; key = 0; book = book }

-- the right to the word of the row behind these
abbrev pub next_of : List Row → Nib
next_of rows = nib may_write (length rows + 2) 0

-- what a step asks for that adds no row
abbrev pub no_row : Row
no_row = record { pass = record { 0 = 0 }; nth = 0; event = Unblock (record { 0 = 0 }); reply = Done; ended = [] }

-- where all rows had been seen, and so many words behind them, there is a pen for the one behind these
abbrev pub Makes : Step Row → Page Row ℕ → ℕ → Page Row ℕ → Type 0
Makes s before found after = MatchBool (found == s.old) ((after.1.0.right ≡ may_make) × (after.1.0.key + length before.0 ≡ s.old + 2)) (Unit {0})

-- the row was added to all that had been seen; or the pen is as it was
abbrev pub Adds : Step Row → Page Row ℕ → ℕ → Page Row ℕ → Type 0
Adds s before found after = MatchBool (found == s.old) (after.0 ≡ before.0 ++ s.ask ∷ []) (after.1.0 ≡ before.1.0)

-- the word of the pen is away, so there are no more rows than stand before it; the pen is as it was
abbrev pub Looks : Step Row → Page Row ℕ → ℕ → Page Row ℕ → Type 0
Looks s before found after = (length after.0 + 2 ≤ before.1.0.key) × (after.1.0 ≡ before.1.0)
