-- Pieces of a log, one behind the other.
use Rattle.std.proofs.Common.{◌≡◌, ℕ, ◌+◌, Bool, List, [], ◌∷◌, ◌++◌, refl, sym, ap, subst, ◌∙◌, append_assoc, arith, length-append}
use Rattle.texts.specs.ScriptLines.{lines}
use Rattle.queries.specs.Counts.{Count}
use Rattle.queries.specs.Reported.{AreReported, IsReportOf, Item, Scope, State, start, text_of}
use Rattle.queries.specs.LogPieces.{HasTold, Teller, TellsEnd, TellsLines, TellsPiece, counted_after, told_now}
use Rattle.queries.proofs.CountedLog.{counted_more, end_of_log}
use Rattle.queries.proofs.LogLines.{SoFar, alone, one_after_the_other}
use Rattle.queries.proofs.TextLines.{goes_on}

-- ---- what is told of them

pub piece_more : (scope : Scope) (log piece : List ℕ) (items more : List Item) (t next : Teller) → HasTold scope log items t → TellsPiece scope t piece more next → HasTold scope (log ++ piece) (items ++ more) next
piece_more scope log piece items more t next so says = record {
  ended = so.ended ++ says.0.ended;
  parted =
      goes_on log piece t.unfinished so.ended so.parted ∙ ap (λ (ls : List (List ℕ)). so.ended ++ ls) says.0.parted ∙ sym (append_assoc so.ended says.0.ended (next.unfinished ∷ []));
  reported_are = one_after_the_other scope start t.state next.state so.ended says.0.ended items more so.reported_are says.0.reported;
  counted_are = says.1 ∙ ap (λ (counted : List Count). counted_after scope counted (text_of scope more)) so.counted_are ∙ counted_more scope [] items more;
  left = omega (arith, so.left, says.0.left, length-append t.unfinished piece, length-append log piece);
  few = says.0.few;
}

-- what was written of it so far, and what is written at the end
pub all_of_log : (scope : Scope) (log more : List ℕ) (items : List Item) (t : Teller) (judged : Bool) → HasTold scope log items t → TellsEnd scope t more judged → IsReportOf scope log (told_now scope (text_of scope items) ++ more) judged
all_of_log scope log more items t judged so says = (
  items ++ says.last,
  says.end.passed,
  (
    says.end,
    subst (λ (ls : List (List ℕ)). AreReported scope start ls (items ++ says.last) says.end) (sym so.parted)
        (one_after_the_other scope start t.state says.end so.ended (t.unfinished ∷ []) items says.last so.reported_are (alone scope t.unfinished says.last t.state says.end says.reported)),
    refl,
    says.judged_is,
  ),
  ap (λ (m : List ℕ). told_now scope (text_of scope items) ++ m) says.more_is ∙ end_of_log scope t.counted items says.last says.end.passed so.counted_are,
)

-- ---- the lines of one text

-- the line that is left has not ended
pub lines_told : (scope : Scope) (text rest front reported : List ℕ) (old s : State) → SoFar scope text rest front reported old s → lines rest ≡ rest ∷ []
    → (items : List Item) × (reported ≡ front ++ text_of scope items) × TellsLines scope old text rest items s
lines_told scope text rest front reported old s so last = (
  so.items,
  so.told_is,
  record {
    ended = so.ended;
    parted = so.parted ∙ ap (λ (ls : List (List ℕ)). so.ended ++ ls) last;
    reported = so.reported_are;
    left = so.left;
    few = so.few;
  },
)
