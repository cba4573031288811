-- What is told of a log that comes in pieces.
use Rattle.std.specs.Prelude.{◌≡◌, ℕ, ◌+◌, ◌≤◌, ◌<◌, Bool, List, [], ◌∷◌, ◌++◌, fold, length, if◌then◌else◌}
use Rattle.std.specs.List.{flat_map}
use Rattle.texts.specs.ScriptLines.{lines}
use Rattle.queries.specs.declared.log_text.LogTeller.{LogTeller}
use Rattle.queries.specs.Counts.{Count, counted_in, counts_of, ended, noted}
use Rattle.queries.specs.Reported.{AreReported, IsReported, Item, Scope, State, start, state_of, text_of}
use Rattle.queries.specs.Told.{passed_in}

-- where the telling is; the counts of what was told, where it is counted; and the line that has not ended yet
pub record Teller : Type 0 where
  pub state : State
  pub counted : List Count
  pub unfinished : List ℕ

abbrev pub teller_of : LogTeller → Teller
teller_of t = record { state = state_of t.state; counted = counts_of t.counts; unfinished = t.unfinished.items }

-- what is written at once of a text that tells of lines: nothing where it is counted
abbrev pub told_now : Scope → List ℕ → List ℕ
told_now scope text = if scope.counts then [] else text

-- the counts, where those of this text are added to them
abbrev pub counted_after : Scope → List Count → List ℕ → List Count
counted_after scope counted text = if scope.counts then fold noted counted (ended text) else counted

-- What is told of the lines that end in a text, and what is left behind them. With those before there are no more lines than bytes, and one.
pub record TellsLines (scope : Scope) (s : State) (text rest : List ℕ) (items : List Item) (next : State) : Type 0 where
  pub ended : List (List ℕ)
  pub parted : lines text ≡ ended ++ rest ∷ []
  pub reported : AreReported scope s ended items next
  pub left : next.number + length rest ≤ s.number + length text
  pub few : next.passed < next.number

-- what is told of the lines that end in a piece
abbrev pub TellsPiece : Scope → Teller → List ℕ → List Item → Teller → Type 0
TellsPiece scope t piece items next =
    TellsLines scope t.state (t.unfinished ++ piece) next.unfinished items next.state × (next.counted ≡ counted_after scope t.counted (text_of scope items))

-- what is written at the end of a log: of its last line, then the counts, if there are any, and how many lines were passed over
abbrev pub end_text : Scope → List Count → List Item → ℕ → List ℕ
end_text scope counted last passed =
    let text = text_of scope last in
    told_now scope text ++ (flat_map (counted_in scope.shape) (counted_after scope counted text) ++ passed_in scope.shape passed)

-- that is told; and whether each check was judged
pub record TellsEnd (scope : Scope) (t : Teller) (more : List ℕ) (judged : Bool) : Type 0 where
  pub last : List Item
  pub end : State
  pub reported : IsReported scope t.state t.unfinished last end
  pub more_is : more ≡ end_text scope t.counted last end.passed
  pub judged_is : judged ≡ end.judged

-- what was told of a log when so many of its bytes had come: these things of the lines that ended in them, and there are no more of these than bytes
pub record HasTold (scope : Scope) (log : List ℕ) (items : List Item) (t : Teller) : Type 0 where
  pub ended : List (List ℕ)
  pub parted : lines log ≡ ended ++ t.unfinished ∷ []
  pub reported_are : AreReported scope start ended items t.state
  pub counted_are : t.counted ≡ counted_after scope [] (text_of scope items)
  pub left : t.state.number + length t.unfinished ≤ length log + 1
  pub few : t.state.passed < t.state.number
