-- An answer by what was read.
use Rattle.std.proofs.Common.{◌≡◌, ℕ, List, Result, Ok, Err, sym, subst}
use Rattle.logbook.specs.Pages.{Book}
use Rattle.capgrant.specs.declared.answer.Verdict.{Verdict}
use Rattle.capstep.specs.declared.row.Row.{Row}
use Rattle.capstep.specs.State.{State}
use Rattle.policy_view.specs.declared.answer.Question.{Question}
use Rattle.policy_view.specs.declared.answer.Unknown.{Unknown}
use Rattle.policy_view.specs.declared.answer.Unknown.TheVariants as unknown
use Rattle.policy_view.specs.declared.view.View.{View}
use Rattle.policy_view.specs.Answers.{IsAnswer}
use Rattle.policy_view.specs.Visible.{Shows}
use Rattle.snapshot.specs.declared.value.Published.{Published}
use Rattle.capstep.specs.Noted.{view_of}
use Rattle.snapshot.specs.Places.{IsPublished}
use Rattle.capserver.specs.Answers.{IsAnswered}

pub answered : (opening : State) (book : Book) (value : Published) (fs : List ℕ) (asked : Question) (known : List Row) (answer : Result Verdict Unknown)
    → IsPublished opening book value → fs ≡ opening.scene.fs → known ≡ value.rows.seen.log → ((real : View) → Shows value.view real → IsAnswer fs real asked answer) → IsAnswered opening known asked answer
answered opening book value fs asked known answer is named same by_all =
    subst (λ (rows : List Row). IsAnswered opening rows asked answer) (sym same) (record {
      legal = is.legal;
      answer_is = subst (λ (f : List ℕ). IsAnswer f (view_of is.legal.last) asked answer) named (by_all (view_of is.legal.last) is.shows);
    })

-- a view always answers
pub never_unseen : (fs : List ℕ) (view : View) (asked : Question) (answer : Result Verdict Unknown) → IsAnswer fs view asked answer → answer ≡ Err unknown.NoView → ⊥
never_unseen fs view asked (Ok verdict) is e = cc
never_unseen fs view asked (Err unknown.NoSession) is e = cc
never_unseen fs view asked (Err unknown.NoIno) is e = cc
never_unseen fs view asked (Err unknown.Gone) is e = cc
never_unseen fs view asked (Err unknown.NoView) is e = is
