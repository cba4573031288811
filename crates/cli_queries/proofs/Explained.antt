-- A question of `explain`, by the text of its grants from where it is.
use Rattle.std.proofs.Common.{Bool, List, Option, inr, ℕ}
use Rattle.std.specs.Global.{Vec}
use Rattle.std.specs.Prelude.{Err, IfErr, IfOk, IsFalse, Ok, Result}
use Rattle.cli_queries.specs.declared.fault.AnswerFault.{AnswerFault}
use Rattle.cli_queries.specs.declared.explain_args.ExplainArgs.{ExplainArgs}
use Rattle.cli_queries.specs.Answers.{AnswersExplainArgs, StopsBy, StopsExplainArgs}
use Rattle.cli_queries.specs.ExplainArgs.{AnswersBy, IsGrantsText, with_grants}

-- the text was had, and the question by it was answered, or it stopped
module _ (explain_args : ExplainArgs) (grants : Vec ℕ) (input old new : Option (List ℕ)) (text : IsGrantsText explain_args.source explain_args.values.grants.items input grants.items) where
  pub answered : (answer : Result ℕ AnswerFault) → IfOk answer (λ status. AnswersBy explain_args.mds explain_args.form (with_grants explain_args.values grants) status old new)
      → IfOk answer (λ status. AnswersExplainArgs explain_args input status old new)
  answered (Ok status) reported = record {
    grants = grants;
    text = text;
    answered = reported;
  }
  answered (Err fault) reported = tt

  pub stopped : (unread unwritten : Bool) (answer : Result ℕ AnswerFault) → IsFalse unread → IfErr answer (λ fault. StopsBy explain_args.mds (with_grants explain_args.values grants) fault unwritten old new)
      → IfErr answer (λ fault. StopsExplainArgs explain_args fault input unread unwritten old new)
  stopped unread unwritten (Ok status) clear why = tt
  stopped unread unwritten (Err fault) clear why = inr (grants, text, clear, why)
