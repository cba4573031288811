-- What a question is answered by what is published.
use Rattle.std.specs.Prelude.{List, Result}
use Rattle.capgrant.specs.declared.answer.Verdict.{Verdict}
use Rattle.capstep.specs.declared.row.Row.{Row}
use Rattle.capstep.specs.State.{State}
use Rattle.policy_view.specs.declared.answer.Question.{Question}
use Rattle.policy_view.specs.declared.answer.Unknown.{Unknown}
use Rattle.policy_view.specs.Answers.{IsAnswer}
use Rattle.capstep.specs.Noted.{view_of}
use Rattle.snapshot.specs.Rows.{Legal}

-- the rows that are known are legal, and the answer is that of the state to which they lead
pub record IsAnswered (opening : State) (known : List Row) (asked : Question) (answer : Result Verdict Unknown) : Type 0 where
  pub legal : Legal opening known
  pub answer_is : IsAnswer opening.scene.fs (view_of legal.last) asked answer
