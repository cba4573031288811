-- An auth list that was read, and what is told of it; or that is none, or names several file systems.
use Rattle.std.proofs.Common.{◌≡◌, ◌≤◌, ℕ, Bool, List, ◌++◌, Option, None, Some, inl, inr, sym, ap, subst, ◌∙◌}
use Rattle.std.specs.Io.KnownBytes.{Appends, Consumes, IsAtEnd}
use Rattle.std.specs.Prelude.{Err, IfErr, IfOk, IfSome, IsErrAnd, IsTrue, Ok, OnOk, Result, length}
use Rattle.std.proofs.lemmas.List.{append-nil}
use Rattle.ceph_input.specs.declared.auth_fault.AuthFault.{AuthFault}
use Rattle.ceph_input.specs.declared.auth_fault.AuthFault.TheVariants as auths
use Rattle.ceph_input.specs.Auth.{IsFaultOf, Named, auth_of}
use Rattle.ceph_input.specs.FsNames.{AreFsNames, fs_among}
use Rattle.cli_queries.specs.declared.fault.AnswerFault.{AnswerFault}
use Rattle.cli_queries.specs.declared.fault.AnswerFault.TheVariants.{NoMemory, WriteFailed}
use Rattle.cli_queries.specs.declared.who_args.WhoArgs.{WhoArgs}
use Rattle.cli_queries.specs.Fault.{IsFaultOfNames, auth_fault_of, fault_of}
use Rattle.texts.specs.ScriptLines.{longest_script}
use Rattle.queries.specs.declared.attempt.Attempt.{Attempt}
use Rattle.queries.specs.declared.clients.WhoAnswer.{WhoAnswer}
use Rattle.queries.specs.declared.fault.QuestionFault.{QuestionFault}
use Rattle.queries.specs.Attempts.{IsAttempt, IsFaultOfAttempt, wanted_by}
use Rattle.queries.specs.Clients.{AnswersWho}
use Rattle.cli_queries.specs.FileSystems.{AreNamedIn}
use Rattle.cli_queries.specs.Logging.{status_of}
use Rattle.cli_queries.specs.WhoArgs.{AnswersWhoArgs, ReportsWho, StopsWhoArgs}
use Rattle.cli_queries.proofs.FileSystems.{none_given}
use Rattle.cli_queries.proofs.Unwritten.{unchanged}

-- what holds of all that was read holds of the input
pub all_of : (P : List ℕ → Type 0) (input left : Option (List ℕ)) (all : List ℕ) → Consumes input left all → IsAtEnd left → P all → IfSome input P
all_of P None left all taken end holds = tt
all_of P (Some xs) None all taken end holds = absurd taken
all_of P (Some xs) (Some ys) all taken end holds = subst P (sym (taken ∙ ap (λ l. all ++ l) end ∙ append-nil all)) holds

-- the values ask nothing
pub attempt_refused : {T : Type 0} (who_args : WhoArgs) (input known : Option (List ℕ)) (unread unwritten : Bool) (found : QuestionFault) (answer : Result T AnswerFault) → IsFaultOfAttempt who_args.values found
    → IsErrAnd answer (λ fault. fault ≡ fault_of found) → IfErr answer (λ fault. StopsWhoArgs who_args fault input unread unwritten known known)
attempt_refused who_args input known unread unwritten found (Ok x) why reported = tt
attempt_refused who_args input known unread unwritten found (Err fault) why reported = inr (inl (found, reported, why), unchanged known)

-- a write failed
pub unwritten_who : {T : Type 0} (who_args : WhoArgs) (input old new : Option (List ℕ)) (unread unwritten : Bool) (answer : Result T AnswerFault) → IfErr answer (λ fault. (fault ≡ WriteFailed) × IsTrue unwritten)
    → IfErr answer (λ fault. StopsWhoArgs who_args fault input unread unwritten old new)
unwritten_who who_args input old new unread unwritten (Ok x) why = tt
unwritten_who who_args input old new unread unwritten (Err fault) why = inl why

-- the text that was read to its end
module _ (who_args : WhoArgs) (input left : Option (List ℕ)) (auth : List ℕ) (taken : Consumes input left auth) (end : IsAtEnd left) where
  -- it is no auth list, or memory was missing
  pub list_refused : {T : Type 0} (known : Option (List ℕ)) (unread unwritten : Bool) (found : AuthFault) (answer : Result T AnswerFault) → IsFaultOf found (auth_of auth)
      → IsErrAnd answer (λ fault. fault ≡ auth_fault_of found) → IfErr answer (λ fault. StopsWhoArgs who_args fault input unread unwritten known known)
  list_refused known unread unwritten found (Ok x) why reported = tt
  list_refused known unread unwritten found (Err fault) why reported =
      inr (inr (inr (inl (found, reported, all_of (λ all. IsFaultOf found (auth_of all)) input left auth taken end why))), unchanged known)

  pub no_memory_left : {T : Type 0} (known : Option (List ℕ)) (unread unwritten : Bool) (answer : Result T AnswerFault) → IsErrAnd answer (λ fault. fault ≡ NoMemory) → IfErr answer (λ fault. StopsWhoArgs who_args fault input unread unwritten known known)
  no_memory_left known unread unwritten answer missed = list_refused known unread unwritten auths.NoMemory answer tt missed

  -- it is one
  module _ (list : List Named) (names : List (List ℕ)) (attempt : Attempt) (means : auth_of auth ≡ Some (Ok list)) (named : AreFsNames list names) (asks : IsAttempt who_args.values attempt) where
    -- none is given of several file systems, or memory was missing
    pub names_refused : {T : Type 0} (known : Option (List ℕ)) (unread unwritten : Bool) (found : AnswerFault) (answer : Result T AnswerFault) → IsFaultOfNames names attempt.fs found
        → IsErrAnd answer (λ fault. fault ≡ found) → IfErr answer (λ fault. StopsWhoArgs who_args fault input unread unwritten known known)
    names_refused known unread unwritten found (Ok x) why reported = tt
    names_refused known unread unwritten found (Err fault) (inl several) reported =
        let none = none_given who_args.values.fs names attempt.fs asks.fs several.1 in
        inr (inr (inr (inr (reported ∙ several.0, none.0, all_of (λ all. (some : List (List ℕ)) × AreNamedIn all some × (fs_among some None ≡ None)) input left auth taken end (names, (list, means, named), none.1)))), unchanged known)
    names_refused {T} known unread unwritten found (Err fault) (inr missed) reported = no_memory_left {T = T} known unread unwritten (Err fault) (reported ∙ missed)

    -- what is told of it was written
    pub told : (old new : Option (List ℕ)) (fs : List ℕ) (answer : WhoAnswer) (status : ℕ) (Fine : Type 0) (result : Result ℕ AnswerFault) → length auth ≤ longest_script → fs_among names attempt.fs ≡ Some fs
        → AnswersWho who_args.telling (wanted_by attempt fs) attempt.attr who_args.mds list answer → status ≡ status_of answer.judges_all
        → IfOk result (λ said. said ≡ status) → OnOk result (Fine × Appends old new answer.lines.items) → IfOk result (λ said. AnswersWhoArgs who_args input said old new)
    told old new fs answer status Fine (Err fault) short asked lines is same written = tt
    told old new fs answer status Fine (Ok said) short asked lines is same written = record {
      attempt = attempt;
      asks = asks;
      reported = all_of (λ all. ReportsWho who_args attempt all said old new) input left auth taken end (record {
        list = list;
        names = names;
        fs = fs;
        answer = answer;
        short = short;
        means = means;
        named = named;
        asked = asked;
        lines_are = lines;
        written = (same ∙ is, written.1);
      });
    }

    -- the file systems are those that it names
    pub names_kept : (result : Result ℕ AnswerFault) → OnOk result (IfSome input (λ all. AreNamedIn all names))
    names_kept (Ok said) = all_of (λ all. AreNamedIn all names) input left auth taken end (list, means, named)
    names_kept (Err fault) = tt
