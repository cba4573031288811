-- What `who` writes, and why it stops before that.
use Rattle.std.specs.Prelude.{◌≡◌, ◌⊎◌, ◌≤◌, ℕ, Bool, List, length, Option, Some, None, IfSome, IsTrue, Ok}
use Rattle.std.specs.Io.KnownBytes.{Appends, Keeps}
use Rattle.texts.specs.ScriptLines.{longest_script}
use Rattle.ceph_input.specs.declared.auth_fault.AuthFault.{AuthFault}
use Rattle.ceph_input.specs.Auth.{IsFaultOf, Named, auth_of}
use Rattle.ceph_input.specs.FsNames.{AreFsNames, fs_among}
use Rattle.queries.specs.declared.attempt.Attempt.{Attempt}
use Rattle.queries.specs.declared.clients.WhoAnswer.{WhoAnswer}
use Rattle.queries.specs.Attempts.{IsAttempt, IsFaultOfAttempt, wanted_by}
use Rattle.queries.specs.Clients.{AnswersWho}
use Rattle.cli_queries.specs.declared.fault.AnswerFault.{AnswerFault}
use Rattle.cli_queries.specs.declared.fault.AnswerFault.TheVariants.{SeveralFileSystems, WriteFailed}
use Rattle.cli_queries.specs.declared.who_args.WhoArgs.{WhoArgs}
use Rattle.cli_queries.specs.Fault.{Tells, auth_fault_of}
use Rattle.cli_queries.specs.ExplainArgs.{IsUnreadInput}
use Rattle.cli_queries.specs.FileSystems.{AreNamedIn}
use Rattle.cli_queries.specs.Logging.{status_of}

-- this answer was written; the status says whether all could be judged
abbrev pub WritesWho : WhoAnswer → ℕ → Option (List ℕ) → Option (List ℕ) → Type 0
WritesWho answer status old new = (status ≡ status_of answer.judges_all) × Appends old new answer.lines.items

-- what is told of the auth list that a text is was written, by what is attempted, on the file system that is given or that its grants name
pub record ReportsWho (who_args : WhoArgs) (attempt : Attempt) (auth : List ℕ) (status : ℕ) (old new : Option (List ℕ)) : Type 0 where
  pub list : List Named
  pub names : List (List ℕ)
  pub fs : List ℕ
  pub answer : WhoAnswer
  pub short : length auth ≤ longest_script
  pub means : auth_of auth ≡ Some (Ok list)
  pub named : AreFsNames list names
  pub asked : fs_among names attempt.fs ≡ Some fs
  pub lines_are : AnswersWho who_args.telling (wanted_by attempt fs) attempt.attr who_args.mds list answer
  pub written : WritesWho answer status old new

-- the same of the text that was to be read, by what the values ask
pub record AnswersWhoArgs (who_args : WhoArgs) (input : Option (List ℕ)) (status : ℕ) (old new : Option (List ℕ)) : Type 0 where
  pub attempt : Attempt
  pub asks : IsAttempt who_args.values attempt
  pub reported : IfSome input (λ auth. ReportsWho who_args attempt auth status old new)

-- what is told is the fault of the auth list that was read
abbrev pub TellsOfAuth : Option (List ℕ) → AnswerFault → Type 0
TellsOfAuth input fault = (found : AuthFault) × (fault ≡ auth_fault_of found) × IfSome input (λ auth. IsFaultOf found (auth_of auth))

-- what is told is that none is given of the file systems that the grants of the auth list name
abbrev pub TellsOfSeveral : WhoArgs → Option (List ℕ) → AnswerFault → Type 0
TellsOfSeveral who_args input fault = (fault ≡ SeveralFileSystems) × (who_args.values.fs ≡ None)
    × IfSome input (λ auth. (names : List (List ℕ)) × AreNamedIn auth names × (fs_among names None ≡ None))

-- a write failed; or the values ask nothing, the input can't be read, it is no auth list, or names several file systems, and nothing was written
abbrev pub StopsWhoArgs : WhoArgs → AnswerFault → Option (List ℕ) → Bool → Bool → Option (List ℕ) → Option (List ℕ) → Type 0
StopsWhoArgs who_args fault input unread unwritten old new = ((fault ≡ WriteFailed) × IsTrue unwritten)
    ⊎ ((Tells (IsFaultOfAttempt who_args.values) fault ⊎ (IsUnreadInput fault input unread ⊎ (TellsOfAuth input fault ⊎ TellsOfSeveral who_args input fault))) × Keeps old new)
