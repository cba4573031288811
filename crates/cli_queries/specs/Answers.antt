-- What a command that answers a question about grants writes, and why it stops before that.
use Rattle.std.specs.Prelude.{◌≡◌, ◌⊎◌, ℕ, Bool, List, length, ◌++◌, Option, Some, None, Ok, Err, IsTrue, IsFalse, ◌==◌, codes, if◌then◌else◌}
use Rattle.std.specs.Global.{Vec}
use Rattle.std.specs.Io.KnownBytes.{Appends, Keeps}
use Rattle.capspec.specs.declared.grant.Grant.{Grant}
use Rattle.capspec.specs.Grants.{Reads}
use Rattle.capspec.specs.Written.{written}
use Rattle.release_grants.specs.declared.forms.NoForm.{NoForm}
use Rattle.release_rules.specs.declared.release.Release.{Release}
use Rattle.release_rules.specs.Releases.{switches_of}
use Rattle.release_grants.specs.Written.{IsForm}
use Rattle.queries.specs.Fault.{IsFaultOfText}
use Rattle.queries.specs.declared.fault.QuestionFault.{QuestionFault}
use Rattle.queries.specs.declared.mds.MdsFault.{MdsFault}
use Rattle.queries.specs.declared.question.Values.{Values}
use Rattle.queries.specs.Mds.{IsFaultThere, IsMdsFault}
use Rattle.queries.specs.Question.{IsFaultIn}
use Rattle.texts.specs.declared.shape.Shape.{Shape}
use Rattle.texts.specs.Shapes.{nothing_in}
use Rattle.queries.specs.declared.clients.Telling.{Telling}
use Rattle.queries.specs.Clients.{shape_of}
use Rattle.queries.specs.Comparing.{IsComparison}
use Rattle.queries.specs.ComparingBy.{IsComparisonBy, IsFaultBy}
use Rattle.queries.specs.Linting.{IsLintBy, IsLintOf}
use Rattle.queries.specs.declared.comparing_by.MdsCompareFault.{MdsCompareFault}
use Rattle.cli_queries.specs.declared.fault.AnswerFault.{AnswerFault}
use Rattle.cli_queries.specs.declared.fault.AnswerFault.TheVariants.{NoMemory, WriteFailed}
use Rattle.cli_queries.specs.declared.explain_args.ExplainArgs.{ExplainArgs}
use Rattle.cli_queries.specs.Fault.{Tells, TellsOfTexts, form_fault_of, mds_compare_fault_of, mds_fault_of}
use Rattle.cli_queries.specs.ExplainArgs.{AnswersBy, IsGrantsText, IsUnread, with_grants}

-- a write failed, or the fault is one of which this holds, and nothing was written
abbrev pub StopsBefore : (QuestionFault → Type 0) → AnswerFault → Bool → Option (List ℕ) → Option (List ℕ) → Type 0
StopsBefore P fault failed old new = ((fault ≡ WriteFailed) × IsTrue failed) ⊎ (Tells P fault × Keeps old new)

-- the lines that compare two texts, told in this way; by the rules of a release alone, with nothing more behind them, where one is named
abbrev pub IsComparisonFor : Option Release → Option (Vec ℕ) → Telling → List ℕ → List ℕ → List ℕ → Type 0
IsComparisonFor None addr telling before after lines = IsComparison telling before after lines
IsComparisonFor (Some release) addr telling before after lines = IsComparisonBy release addr (shape_of telling) before after lines

-- such lines were written
abbrev pub AnswersComparing : Option Release → Option (Vec ℕ) → Telling → List ℕ → List ℕ → Option (List ℕ) → Option (List ℕ) → Type 0
AnswersComparing mds addr telling before after old new = (lines : List ℕ) × IsComparisonFor mds addr telling before after lines × Appends old new lines

-- none were: a write failed, or nothing was written, by why the texts are not compared
abbrev pub StopsComparing : Option Release → Option (Vec ℕ) → List ℕ → List ℕ → AnswerFault → Bool → Option (List ℕ) → Option (List ℕ) → Type 0
StopsComparing None addr before after fault failed old new = ((fault ≡ WriteFailed) × IsTrue failed) ⊎ (TellsOfTexts before after fault × Keeps old new)
StopsComparing (Some release) addr before after fault failed old new =
    ((fault ≡ WriteFailed) × IsTrue failed) ⊎ ((found : MdsCompareFault) × (fault ≡ mds_compare_fault_of found) × IsFaultBy release addr before after found × Keeps old new)

-- the question of `explain` was answered with this status, by the text of the grants from where it is
pub record AnswersExplainArgs (explain_args : ExplainArgs) (input : Option (List ℕ)) (status : ℕ) (old new : Option (List ℕ)) : Type 0 where
  pub grants : Vec ℕ
  pub text : IsGrantsText explain_args.source explain_args.values.grants.items input grants.items
  pub answered : AnswersBy explain_args.mds explain_args.form (with_grants explain_args.values grants) status old new

-- what the values ask is not answered: a write failed, or nothing was written, by the first fault of the values, or of what a release makes of
-- the grants
abbrev pub StopsBy : Option Release → Values → AnswerFault → Bool → Option (List ℕ) → Option (List ℕ) → Type 0
StopsBy None v fault unwritten old new = StopsBefore (IsFaultIn v) fault unwritten old new
StopsBy (Some release) v fault unwritten old new =
    StopsBefore (IsFaultThere v) fault unwritten old new ⊎ ((found : MdsFault) × (fault ≡ mds_fault_of found) × IsMdsFault release v.grants.items found × Keeps old new)

-- the text of the grants can't be had, and nothing was written; or no read failed, and the question by that text stops
abbrev pub StopsExplainArgs : ExplainArgs → AnswerFault → Option (List ℕ) → Bool → Bool → Option (List ℕ) → Option (List ℕ) → Type 0
StopsExplainArgs explain_args fault input unread unwritten old new = (IsUnread explain_args.source fault input unread × Keeps old new)
    ⊎ ((grants : Vec ℕ) × IsGrantsText explain_args.source explain_args.values.grants.items input grants.items × IsFalse unread
    × StopsBy explain_args.mds (with_grants explain_args.values grants) fault unwritten old new)

-- the written form of the grants that a text means was written as a line, or the form of the text that a release reads
abbrev pub AnswersGrants : Option Release → List ℕ → Option (List ℕ) → Option (List ℕ) → Type 0
AnswersGrants None text old new = (grants : List Grant) × Reads text grants × Appends old new (written grants ++ codes "\n")
AnswersGrants (Some release) text old new = (form : Vec ℕ) × IsForm (switches_of release) text (Ok form) × Appends old new (form.items ++ codes "\n")

-- none was: a write failed, or nothing was written, by the first fault of the text, or as the release reads no form
abbrev pub StopsGrants : Option Release → List ℕ → AnswerFault → Bool → Option (List ℕ) → Option (List ℕ) → Type 0
StopsGrants None text fault failed old new = StopsBefore (IsFaultOfText text) fault failed old new
StopsGrants (Some release) text fault failed old new =
    ((fault ≡ WriteFailed) × IsTrue failed)
    ⊎ (((fault ≡ NoMemory) ⊎ ((none : NoForm) × (fault ≡ form_fault_of release none) × IsForm (switches_of release) text (Err none))) × Keeps old new)

-- these lines of what is found were written, with the status 3; or that there are none, with 0
abbrev pub WritesFound : Shape → List ℕ → ℕ → Option (List ℕ) → Option (List ℕ) → Type 0
WritesFound shape lines status old new = (status ≡ (if length lines == 0 then 0 else 3)) × Appends old new (if length lines == 0 then nothing_in shape else lines)

-- the lines for what is found in a text of grants, by the rules of a release alone where one is named
abbrev pub IsLintFor : Option Release → Shape → List ℕ → List ℕ → Type 0
IsLintFor None shape text lines = IsLintOf shape text lines
IsLintFor (Some release) shape text lines = IsLintBy release shape text lines

-- such lines were written in this shape, or that nothing is found
abbrev pub AnswersLint : Option Release → Shape → List ℕ → ℕ → Option (List ℕ) → Option (List ℕ) → Type 0
AnswersLint mds shape text status old new = (lines : List ℕ) × IsLintFor mds shape text lines × WritesFound shape lines status old new

-- none were: a write failed, or nothing was written, by the first fault of the text, or as the release does not read it
abbrev pub StopsLint : Option Release → List ℕ → AnswerFault → Bool → Option (List ℕ) → Option (List ℕ) → Type 0
StopsLint None text fault failed old new = StopsBefore (IsFaultOfText text) fault failed old new
StopsLint (Some release) text fault failed old new =
    ((fault ≡ WriteFailed) × IsTrue failed) ⊎ ((found : MdsFault) × (fault ≡ mds_fault_of found) × IsMdsFault release text found × Keeps old new)
