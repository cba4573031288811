-- What `log` writes, and why it stops before that.
use Rattle.std.specs.Prelude.{◌≡◌, ◌⊎◌, ◌<◌, ℕ, Bool, List, [], ◌++◌, length, Option, IfSome, IsTrue, if◌then◌else◌}
use Rattle.std.specs.Io.KnownBytes.{Appends, Keeps}
use Rattle.capspec.specs.Names.{IsFsName}
use Rattle.texts.specs.declared.fault.ScriptFault.TheVariants as stops
use Rattle.queries.specs.declared.fault.QuestionFault.TheVariants.{BadValue}
use Rattle.queries.specs.declared.options.Opt.TheVariants.{Fs}
use Rattle.queries.specs.Reported.{IsReportOf, Item, Scope, text_of}
use Rattle.queries.specs.LogPieces.{HasTold, Teller, TellsEnd, TellsPiece, told_now}
use Rattle.cli_queries.specs.declared.fault.AnswerFault.{AnswerFault}
use Rattle.cli_queries.specs.declared.fault.AnswerFault.TheVariants.{NoMemory, Question, Unread, WriteFailed}

-- how many bytes a log may have
abbrev pub longest_log : ℕ
longest_log = 1152921504606846976

-- the status where each of what is told was judged, or something was not
abbrev pub status_of : Bool → ℕ
status_of judged = if judged then 0 else 3

-- the text that tells of this log, and the status
abbrev pub TellsLog : Scope → List ℕ → ℕ → List ℕ → Type 0
TellsLog scope log status lines = (judged : Bool) × IsReportOf scope log lines judged × (status ≡ status_of judged)

-- the text that tells of the log that was to be read was written
pub record AnswersLog (scope : Scope) (input : Option (List ℕ)) (status : ℕ) (old new : Option (List ℕ)) : Type 0 where
  pub named : IsFsName scope.fs
  pub reported : IfSome input (λ log. (lines : List ℕ) × TellsLog scope log status lines × Appends old new lines)

-- what was written tells of the first lines of the log; where they are counted, nothing was
abbrev pub TellsFirst : Scope → Option (List ℕ) → Option (List ℕ) → Option (List ℕ) → Type 0
TellsFirst scope input old new = IfSome input (λ log. (front left : List ℕ) × (items : List Item) × (t : Teller) × (log ≡ front ++ left) × HasTold scope front items t × Appends old new (told_now scope (text_of scope items)))

-- a read failed, or the log is too long; or memory was missing
abbrev pub IsUnreadLog : AnswerFault → Option (List ℕ) → Bool → Type 0
IsUnreadLog fault input unread = ((fault ≡ Unread stops.ReadFault) × (IsTrue unread ⊎ IfSome input (λ log. longest_log < length log))) ⊎ (fault ≡ NoMemory)

-- no file system has the name
abbrev pub IsUnnamed : List ℕ → AnswerFault → Type 0
IsUnnamed fs fault = (fault ≡ Question (BadValue Fs)) × (¬ IsFsName fs)

-- no file system has the name, and nothing was written; or the log can't be read to its end, and what was written tells of its first lines; or a
-- write failed
abbrev pub StopsLog : Scope → AnswerFault → Option (List ℕ) → Bool → Bool → Option (List ℕ) → Option (List ℕ) → Type 0
StopsLog scope fault input unread unwritten old new =
    (IsUnnamed scope.fs fault × Appends old new [])
    ⊎ ((IsUnreadLog fault input unread × TellsFirst scope input old new) ⊎ ((fault ≡ WriteFailed) × IsTrue unwritten))

-- ---- piece by piece

-- what is told of the lines that end in a piece was written
abbrev pub WritesPiece : Scope → Teller → List ℕ → Teller → Option (List ℕ) → Option (List ℕ) → Type 0
WritesPiece scope t piece next old new = (items : List Item) × TellsPiece scope t piece items next × Appends old new (told_now scope (text_of scope items))

-- what is told at the end was written, and this is the status
abbrev pub WritesEnd : Scope → Teller → ℕ → Option (List ℕ) → Option (List ℕ) → Type 0
WritesEnd scope t status old new = (more : List ℕ) × (judged : Bool) × TellsEnd scope t more judged × Appends old new more × (status ≡ status_of judged)

-- memory was missing, and nothing was written; or a write failed
abbrev pub StopsTelling : AnswerFault → Bool → Option (List ℕ) → Option (List ℕ) → Type 0
StopsTelling fault unwritten old new = ((fault ≡ NoMemory) × Keeps old new) ⊎ ((fault ≡ WriteFailed) × IsTrue unwritten)
