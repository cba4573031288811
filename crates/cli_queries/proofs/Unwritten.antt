-- What stops a command before anything is written.
use Rattle.std.proofs.Common.{◌≡◌, ℕ, Bool, List, Option, None, Some, inl, inr, refl, subst, sym}
use Rattle.std.specs.Global.{Vec}
use Rattle.std.specs.Io.KnownBytes.{Appends, Keeps}
use Rattle.std.proofs.lemmas.List.Elements.{All-from_recursion}
use Rattle.std.specs.Prelude.{◌⊎◌, All, IsTrue, Result, Ok, Err, IfErr, IfOk, OnOk, IsErrAnd, ◌++◌, codes}
use Rattle.capspec.specs.declared.fault.SpecFault.{SpecFault}
use Rattle.capspec.specs.declared.grant.Grant.{Grant}
use Rattle.capspec.specs.Faults.{IsFault, IsNoMemory}
use Rattle.capspec.specs.Grants.{Reads}
use Rattle.queries.specs.declared.fault.QuestionFault.{QuestionFault}
use Rattle.queries.specs.declared.fault.QuestionFault.TheVariants as asked
use Rattle.queries.specs.declared.question.Question.{Question}
use Rattle.queries.specs.declared.question.Values.{Values}
use Rattle.queries.specs.Fault.{IsFaultOf, IsFaultOfText}
use Rattle.queries.specs.Options.{all_options}
use Rattle.queries.specs.Question.{AsksFor, IsFaultIn, IsGood}
use Rattle.queries.specs.Mds.{AsksThere, IsFaultThere, IsMdsFault, MdsReads, answer_by}
use Rattle.queries.specs.declared.mds.MdsAnswer.{MdsAnswer}
use Rattle.queries.specs.declared.mds.MdsAsking.{MdsAsking}
use Rattle.release_grants.specs.declared.grant.Grant.{Grant as Given}
use Rattle.queries.specs.declared.mds.MdsFault.{MdsFault}
use Rattle.queries.specs.declared.mds.MdsFault.TheVariants as mds
use Rattle.release_grants.specs.declared.forms.NoForm.{NoForm as WithoutForm}
use Rattle.release_rules.specs.declared.release.Release.{Release}
use Rattle.release_grants.specs.declared.switches.Switches.{Switches}
use Rattle.release_rules.specs.Releases.{switches_of}
use Rattle.release_grants.specs.Written.{IsForm}
use Rattle.texts.specs.declared.shape.Shape.{Shape}
use Rattle.queries.proofs.TextFault.{text_fault}
use Rattle.cli_queries.specs.declared.fault.AnswerFault.{AnswerFault}
use Rattle.cli_queries.specs.declared.fault.AnswerFault.TheVariants.{NoMemory, WriteFailed}
use Rattle.queries.specs.declared.comparing.CompareFault.{CompareFault}
use Rattle.queries.specs.declared.comparing_by.MdsCompareFault.{MdsCompareFault}
use Rattle.queries.specs.Comparing.{IsFaultOfTexts}
use Rattle.queries.specs.ComparingBy.{IsFaultBy}
use Rattle.cli_queries.specs.Answers.{AnswersGrants, AnswersLint, IsLintFor, StopsBefore, StopsBy, StopsComparing, StopsGrants, StopsLint, WritesFound}
use Rattle.cli_queries.specs.declared.explain_args.Form.{Form}
use Rattle.cli_queries.specs.declared.explain_args.Form.TheVariants as forms
use Rattle.cli_queries.specs.ExplainArgs.{AnswersBy, IsAnswered, IsAnsweredBy}
use Rattle.queries.specs.Remarks.{remarked_answer, remarked_object}
use Rattle.cli_queries.specs.Fault.{Tells, compare_fault_of, fault_of, form_fault_of, mds_compare_fault_of, mds_fault_of}

pub unchanged : (known : Option (List ℕ)) → Keeps known known
unchanged None = tt
unchanged (Some bytes) = refl

-- a text that is refused, before anything is written
pub refused_unwritten : {T : Type 0} (text : List ℕ) (known : Option (List ℕ)) (failed : Bool) (refused : SpecFault) (answer : Result T AnswerFault) → IsFault text refused ⊎ (IsNoMemory refused × (grants : List Grant) × Reads text grants)
    → IsErrAnd answer (Tells (IsFaultOf refused)) → IfErr answer (λ fault. StopsBefore (IsFaultOfText text) fault failed known known)
refused_unwritten text known failed refused (Ok x) found passed = tt
refused_unwritten text known failed refused (Err fault) found passed = inr ((passed.0, passed.1, text_fault text refused passed.0 found passed.2), unchanged known)

-- values that ask a question are good
all_good : (v : Values) (q : Question) → AsksFor v q → All (IsGood v v.access.items) all_options
all_good v q asks =
    All-from_recursion (IsGood v v.access.items) all_options ((q.grants, asks.grants), ((q.fs, asks.fs), ((q.caller.uid, asks.uid), ((q.caller.gid, asks.gid), ((q.caller.groups, asks.groups), ((q.path, asks.path), ((q.attr.uid, asks.owner), ((q.attr.gid, asks.group), ((q.attr.mode, asks.mode), ((q.access, asks.access), (asks.address, tt)))))))))))

-- values that ask no question
pub refused_question : {T : Type 0} (v : Values) (known : Option (List ℕ)) (failed : Bool) (found : QuestionFault) (answer : Result T AnswerFault) → IsFaultIn v found → IsErrAnd answer (λ fault. fault ≡ fault_of found)
    → IfErr answer (λ fault. StopsBefore (IsFaultIn v) fault failed known known)
refused_question v known failed found (Ok x) why reported = tt
refused_question v known failed found (Err fault) why reported = inr ((found, reported, why), unchanged known)

-- no memory for the line of a question
pub missed_unwritten : {T : Type 0} (v : Values) (q : Question) (known : Option (List ℕ)) (failed : Bool) (answer : Result T AnswerFault) → AsksFor v q → IsErrAnd answer (λ fault. fault ≡ NoMemory) → IfErr answer (λ fault. StopsBefore (IsFaultIn v) fault failed known known)
missed_unwritten v q known failed (Ok x) asks missed = tt
missed_unwritten v q known failed (Err fault) asks missed = inr ((asked.NoMemory, missed, all_good v q asks), unchanged known)

-- the line of a question can't be written, or there is no memory for its end
pub line_unwritten : {T : Type 0} (v : Values) (q : Question) (old new : Option (List ℕ)) (failed : Bool) (answer : Result T AnswerFault) → AsksFor v q
    → IfErr answer (λ fault. ((fault ≡ WriteFailed) × IsTrue failed) ⊎ ((fault ≡ NoMemory) × Keeps old new)) → IfErr answer (λ fault. StopsBefore (IsFaultIn v) fault failed old new)
line_unwritten v q old new failed (Ok x) asks why = tt
line_unwritten v q old new failed (Err fault) asks (inl wrote) = inl wrote
line_unwritten v q old new failed (Err fault) asks (inr missed) = inr ((asked.NoMemory, missed.0, all_good v q asks), missed.1)

-- a question was answered by all that is worth a word
pub told_all : (Fine : Type 0) (form : Form) (v : Values) (q : Question) (old new : Option (List ℕ)) (lines : List ℕ) (answer : Result ℕ AnswerFault) → form ≡ forms.More → AsksFor v q → lines ≡ remarked_answer v.grants.items q
    → IfOk answer (λ status. status ≡ 0) → OnOk answer (Fine × Appends old new lines) → IfOk answer (λ status. (asked : Question) × AsksFor v asked × IsAnswered form v.grants.items asked status old new)
told_all Fine form v q old new lines (Ok status) more asks are done written =
    subst (λ (f : Form). (asked : Question) × AsksFor v asked × IsAnswered f v.grants.items asked status old new) (sym more) (q, asks, (done, subst (λ (text : List ℕ). Appends old new text) are written.1))
told_all Fine form v q old new lines (Err fault) more asks are done written = tt

-- the same by an object that says all of it
pub told_object : (Fine : Type 0) (form : Form) (v : Values) (q : Question) (old new : Option (List ℕ)) (object : List ℕ) (answer : Result ℕ AnswerFault) → form ≡ forms.Object → AsksFor v q → object ≡ remarked_object None v.grants.items q
    → IfOk answer (λ status. status ≡ 0) → OnOk answer (Fine × Appends old new object) → IfOk answer (λ status. (asked : Question) × AsksFor v asked × IsAnswered form v.grants.items asked status old new)
told_object Fine form v q old new object (Ok status) whole asks are done written =
    subst (λ (f : Form). (asked : Question) × AsksFor v asked × IsAnswered f v.grants.items asked status old new) (sym whole) (q, asks, (done, subst (λ (text : List ℕ). Appends old new text) are written.1))
told_object Fine form v q old new object (Err fault) whole asks are done written = tt

-- a write failed, and nothing else
pub text_unwritten : {T : Type 0} (v : Values) (old new : Option (List ℕ)) (failed : Bool) (answer : Result T AnswerFault) → IfErr answer (λ fault. (fault ≡ WriteFailed) × IsTrue failed) → IfErr answer (λ fault. StopsBefore (IsFaultIn v) fault failed old new)
text_unwritten v old new failed (Ok x) why = tt
text_unwritten v old new failed (Err fault) why = inl why

-- ---- by the rules of a release

module _ (release : Release) (v : Values) (old new : Option (List ℕ)) (failed : Bool) where
  -- the release reads no grants
  pub refused_by : {T : Type 0} (found : MdsFault) (answer : Result T AnswerFault) → IsMdsFault release v.grants.items found → IsErrAnd answer (λ fault. fault ≡ mds_fault_of found)
      → IfErr answer (λ fault. StopsBy (Some release) v fault failed old old)
  refused_by found (Ok x) why reported = tt
  refused_by found (Err fault) why reported = inr (found, reported, why, unchanged old)

  -- the values ask nothing
  pub refused_asking : {T : Type 0} (found : QuestionFault) (answer : Result T AnswerFault) → IsFaultThere v found → IsErrAnd answer (λ fault. fault ≡ fault_of found)
      → IfErr answer (λ fault. StopsBy (Some release) v fault failed old old)
  refused_asking found (Ok x) why reported = tt
  refused_asking found (Err fault) why reported = inl (inr ((found, reported, why), unchanged old))

  -- no memory for the answer
  pub missed_by : {T : Type 0} (answer : Result T AnswerFault) → IsErrAnd answer (λ fault. fault ≡ NoMemory) → IfErr answer (λ fault. StopsBy (Some release) v fault failed old old)
  missed_by (Ok x) missed = tt
  missed_by (Err fault) missed = inr (mds.NoMemory, missed, tt, unchanged old)

  -- it can't be written, or there is no memory for it
  pub unwritten_by : {T : Type 0} (answer : Result T AnswerFault) → IfErr answer (λ fault. ((fault ≡ WriteFailed) × IsTrue failed) ⊎ ((fault ≡ NoMemory) × Keeps old new)) → IfErr answer (λ fault. StopsBy (Some release) v fault failed old new)
  unwritten_by (Ok x) why = tt
  unwritten_by (Err fault) (inl wrote) = inl (inl wrote)
  unwritten_by (Err fault) (inr missed) = inr (mds.NoMemory, missed.0, tt, missed.1)

-- what it says is told
pub told_by : (release : Release) (v : Values) (old new : Option (List ℕ)) (form : Form) (asked : MdsAsking) (grants : List Given) (answer : MdsAnswer) (told : Result ℕ AnswerFault) → AsksThere v asked → MdsReads release v.grants.items grants
    → answer ≡ answer_by release asked grants → IfOk told (λ status. IsAnsweredBy form asked answer status old new) → IfOk told (λ status. AnswersBy (Some release) form v status old new)
told_by release v old new form asked grants answer (Ok status) asks reads is told = (asked, grants, asks, reads, subst (λ (a : MdsAnswer). IsAnsweredBy form asked a status old new) is told)
told_by release v old new form asked grants answer (Err fault) asks reads is told = tt

-- ---- forms

module _ (release : Release) (text : List ℕ) (old new : Option (List ℕ)) (failed : Bool) where
  pub missed_form : {T : Type 0} (answer : Result T AnswerFault) → IsErrAnd answer (λ fault. fault ≡ NoMemory) → IfErr answer (λ fault. StopsGrants (Some release) text fault failed old old)
  missed_form (Ok x) missed = tt
  missed_form (Err fault) missed = inr (inl missed, unchanged old)

  pub unwritten_form : {T : Type 0} (answer : Result T AnswerFault) → IfErr answer (λ fault. ((fault ≡ WriteFailed) × IsTrue failed) ⊎ ((fault ≡ NoMemory) × Keeps old new)) → IfErr answer (λ fault. StopsGrants (Some release) text fault failed old new)
  unwritten_form (Ok x) why = tt
  unwritten_form (Err fault) (inl wrote) = inl wrote
  unwritten_form (Err fault) (inr missed) = inr (inl missed.0, missed.1)

  -- no form is read there
  pub without_form : (none : WithoutForm) (read : Result (Vec ℕ) WithoutForm) (switches : Switches) (told : AnswerFault) → switches ≡ switches_of release → IsForm switches text read → read ≡ Err none → told ≡ form_fault_of release none
      → StopsGrants (Some release) text told failed old old
  without_form none read switches told same is empty why =
      inr (inr (none, why, subst (λ (r : Result (Vec ℕ) WithoutForm). IsForm (switches_of release) text r) empty (subst (λ (s : Switches). IsForm s text read) same is)), unchanged old)

  -- it is read there, and was written
  pub with_form : (Fine : Type 0) (form : Vec ℕ) (read : Result (Vec ℕ) WithoutForm) (switches : Switches) (answer : Result ℕ AnswerFault) → switches ≡ switches_of release → IsForm switches text read → read ≡ Ok form
      → OnOk answer (Fine × Appends old new (form.items ++ codes "\n")) → OnOk answer (AnswersGrants (Some release) text old new)
  with_form Fine form read switches (Ok status) same is some written =
      (form, subst (λ (r : Result (Vec ℕ) WithoutForm). IsForm (switches_of release) text r) some (subst (λ (s : Switches). IsForm s text read) same is), written.1)
  with_form Fine form read switches (Err fault) same is some written = tt

-- ---- what is found

module _ (text : List ℕ) (old new : Option (List ℕ)) (failed : Bool) where
  pub refused_lint : {T : Type 0} (found : QuestionFault) (answer : Result T AnswerFault) → IsFaultOfText text found → IsErrAnd answer (λ fault. fault ≡ fault_of found) → IfErr answer (λ fault. StopsLint None text fault failed old old)
  refused_lint found (Ok x) why reported = tt
  refused_lint found (Err fault) why reported = inr ((found, reported, why), unchanged old)

  pub refused_lint_by : {T : Type 0} (release : Release) (found : MdsFault) (answer : Result T AnswerFault) → IsMdsFault release text found → IsErrAnd answer (λ fault. fault ≡ mds_fault_of found) → IfErr answer (λ fault. StopsLint (Some release) text fault failed old old)
  refused_lint_by release found (Ok x) why reported = tt
  refused_lint_by release found (Err fault) why reported = inr (found, reported, why, unchanged old)

  pub unwritten_lint : {T : Type 0} (mds : Option Release) (answer : Result T AnswerFault) → IfErr answer (λ fault. (fault ≡ WriteFailed) × IsTrue failed) → IfErr answer (λ fault. StopsLint mds text fault failed old new)
  unwritten_lint mds (Ok x) why = tt
  unwritten_lint None (Err fault) why = inl why
  unwritten_lint (Some release) (Err fault) why = inl why

  pub written_lint : (mds : Option Release) (shape : Shape) (lines : List ℕ) (answer : Result ℕ AnswerFault) → IsLintFor mds shape text lines → IfOk answer (λ status. WritesFound shape lines status old new) → IfOk answer (λ status. AnswersLint mds shape text status old new)
  written_lint mds shape lines (Ok status) is told = (lines, is, told)
  written_lint mds shape lines (Err fault) is told = tt

-- ---- what is compared

module _ (before after : List ℕ) (addr : Option (Vec ℕ)) (old new : Option (List ℕ)) (failed : Bool) where
  pub refused_comparison : {T : Type 0} (found : CompareFault) (answer : Result T AnswerFault) → IsFaultOfTexts before after found → IsErrAnd answer (λ fault. fault ≡ compare_fault_of found)
      → IfErr answer (λ fault. StopsComparing None addr before after fault failed old old)
  refused_comparison found (Ok x) why reported = tt
  refused_comparison found (Err fault) why reported = inr ((found, reported, why), unchanged old)

  pub refused_comparison_by : {T : Type 0} (release : Release) (found : MdsCompareFault) (answer : Result T AnswerFault) → IsFaultBy release addr before after found → IsErrAnd answer (λ fault. fault ≡ mds_compare_fault_of found)
      → IfErr answer (λ fault. StopsComparing (Some release) addr before after fault failed old old)
  refused_comparison_by release found (Ok x) why reported = tt
  refused_comparison_by release found (Err fault) why reported = inr (found, reported, why, unchanged old)

  pub unwritten_comparison : {T : Type 0} (mds : Option Release) (answer : Result T AnswerFault) → IfErr answer (λ fault. (fault ≡ WriteFailed) × IsTrue failed) → IfErr answer (λ fault. StopsComparing mds addr before after fault failed old new)
  unwritten_comparison mds (Ok x) why = tt
  unwritten_comparison None (Err fault) why = inl why
  unwritten_comparison (Some release) (Err fault) why = inl why
