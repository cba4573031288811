-- What a command writes, and why it stops before its end.
use Rattle.std.specs.Prelude.{◌≡◌, ◌≢◌, ◌↔◌, ◌⊎◌, ◌<◌, ◌≤◌, ⊤, ℕ, Bool, List, [], length, Option, Err, IfSome, IsTrue}
use Rattle.std.specs.Io.KnownBytes.{Appends, Keeps}
use Rattle.texts.specs.declared.fault.ScriptFault.{ScriptFault}
use Rattle.texts.specs.declared.fault.ScriptFault.TheVariants as stops
use Rattle.texts.specs.ScriptLines.{lines, longest_script}
use Rattle.capscript.specs.Transcript.{IsTranscript, Ran}
use Rattle.cli.specs.declared.serve_fault.ServeFault.{ServeFault}
use Rattle.cli.specs.declared.serve_fault.ServeFault.TheVariants.{Script as ServeScript}
use Rattle.cli.specs.Served.{IsServed, IsWritten}
use Rattle.cli_queries.specs.declared.command_line.Invocation.{Invocation}
use Rattle.cli_queries.specs.declared.command_line.Invocation.TheVariants as invocations
use Rattle.cli_queries.specs.declared.fault.AnswerFault.{AnswerFault}
use Rattle.cli_queries.specs.Files.{ReadsFile}
use Rattle.cli_queries.specs.FileSystems.{Notes}
use Rattle.cli_queries.specs.Answers.{AnswersComparing, AnswersExplainArgs, AnswersGrants, AnswersLint, StopsComparing, StopsExplainArgs, StopsGrants, StopsLint}
use Rattle.cli_queries.specs.AuditArgs.{AnswersAuditArgs, StopsAuditArgs}
use Rattle.cli_queries.specs.WhoArgs.{AnswersWhoArgs, StopsWhoArgs}
use Rattle.queries.specs.Reported.{scope}
use Rattle.cli_queries.specs.Logging.{AnswersLog, StopsLog}
use Rattle.cli.specs.declared.stopping.Fault.{Fault}
use Rattle.cli.specs.declared.stopping.Fault.TheVariants.{Answer, Script, Serve}

-- the whole answer was written: the answer to a question, the written form of grants, the lines that compare two texts, what is found in one,
-- the lines for the clients of a cluster, what they hold and may not, those that tell of a log, the transcript of the script that was to be read, or the history; with the status 0, but for a question that is answered by the status alone,
-- and for what is found, or can't be judged
abbrev pub Answers : Invocation → Option (List ℕ) → ℕ → Option (List ℕ) → Option (List ℕ) → Type 0
Answers (invocations.Explain explain_args) input status old new = AnswersExplainArgs explain_args input status old new
Answers (invocations.Grants text more mds) input status old new = (status ≡ 0) × AnswersGrants mds text.items old new
Answers (invocations.Compare before after telling mds addr) input status old new = (status ≡ 0) × AnswersComparing mds addr telling before.items after.items old new
Answers (invocations.Lint text shape mds) input status old new = AnswersLint mds shape text.items status old new
Answers (invocations.Who who_args) input status old new = AnswersWhoArgs who_args input status old new
Answers (invocations.Audit audit_args) input status old new = AnswersAuditArgs audit_args input status old new
Answers (invocations.Log fs only_denied mds shape counts) input status old new = AnswersLog (scope fs.items only_denied mds shape counts) input status old new
Answers (invocations.Run more) input status old new = (status ≡ 0) × IfSome input (λ script. (length script ≤ longest_script) × ((text : List ℕ) × IsTranscript (lines script) text × Appends old new text))
Answers (invocations.Serve more) input status old new = (status ≡ 0) × IfSome input (λ script. (length script ≤ longest_script) × ((text : List ℕ) × IsServed (lines script) text × Appends old new text))

-- The run stopped so, and this was written. A script that was read to its end is told apart. A read or a write that failed is told; a
-- failed read is told of nothing else but a script that is too long, and then nothing was written.
pub record RunStops (stop : ScriptFault) (input : Option (List ℕ)) (ended unread unwritten : Bool) (old new : Option (List ℕ)) : Type 0 where
  pub ran : IfSome input (λ script. (text : List ℕ) × Ran {T = ⊤} script ended (Err stop) text × Appends old new text)
  pub read_failed : IsTrue unread → stop ≡ stops.ReadFault
  pub read : stop ≡ stops.ReadFault → (IsTrue unread ⊎ IfSome input (λ script. longest_script < length script)) × Appends old new []
  pub long : IfSome input (λ script. longest_script < length script → ((stop ≡ stops.ReadFault) ⊎ (stop ≡ stops.NoMemory)) × Appends old new [])
  pub written : (stop ≡ stops.WriteFault) ↔ IsTrue unwritten

-- The serving stopped so, and this was written. A read or a write that failed is told; unless it was a write that failed, nothing was written.
pub record ServeStops (stop : ServeFault) (input : Option (List ℕ)) (unread unwritten : Bool) (old new : Option (List ℕ)) : Type 0 where
  pub served : IfSome input (λ script. (text : List ℕ) × IsWritten {T = ⊤} (lines script) (Err stop) text × Appends old new text)
  pub read_failed : IsTrue unread → stop ≡ ServeScript stops.ReadFault
  pub read : stop ≡ ServeScript stops.ReadFault → IsTrue unread ⊎ IfSome input (λ script. longest_script < length script)
  pub long : IfSome input (λ script. longest_script < length script → (stop ≡ ServeScript stops.ReadFault) ⊎ (stop ≡ ServeScript stops.NoMemory))
  pub written : (stop ≡ ServeScript stops.WriteFault) ↔ IsTrue unwritten
  pub kept : (stop ≡ ServeScript stops.WriteFault) ⊎ Keeps old new

-- what is told is a fault of an answer, of which this holds
abbrev pub TellsOfAnswer : (AnswerFault → Type 0) → Fault → Type 0
TellsOfAnswer P (Answer reported) = P reported
TellsOfAnswer P (Script stop) = ⊥
TellsOfAnswer P (Serve stop) = ⊥

-- why there is no whole answer, by whether the input was read to its end, whether a read failed and whether a write did
abbrev pub Stops : Invocation → Fault → Option (List ℕ) → Bool → Bool → Bool → Option (List ℕ) → Option (List ℕ) → Type 0
Stops (invocations.Explain explain_args) fault input ended unread unwritten old new = TellsOfAnswer (λ reported. StopsExplainArgs explain_args reported input unread unwritten old new) fault
Stops (invocations.Grants text more mds) fault input ended unread unwritten old new = TellsOfAnswer (λ reported. StopsGrants mds text.items reported unwritten old new) fault
Stops (invocations.Compare before after telling mds addr) fault input ended unread unwritten old new = TellsOfAnswer (λ reported. StopsComparing mds addr before.items after.items reported unwritten old new) fault
Stops (invocations.Lint text shape mds) fault input ended unread unwritten old new = TellsOfAnswer (λ reported. StopsLint mds text.items reported unwritten old new) fault
Stops (invocations.Who who_args) fault input ended unread unwritten old new = TellsOfAnswer (λ reported. StopsWhoArgs who_args reported input unread unwritten old new) fault
Stops (invocations.Audit audit_args) fault input ended unread unwritten old new = TellsOfAnswer (λ reported. StopsAuditArgs audit_args reported input unread unwritten old new) fault
Stops (invocations.Log fs only_denied mds shape counts) fault input ended unread unwritten old new = TellsOfAnswer (λ reported. StopsLog (scope fs.items only_denied mds shape counts) reported input unread unwritten old new) fault
Stops (invocations.Run more) fault input ended unread unwritten old new = (stop : ScriptFault) × (fault ≡ Script stop) × RunStops stop input ended unread unwritten old new
Stops (invocations.Serve more) fault input ended unread unwritten old new = (stop : ServeFault) × (fault ≡ Serve stop) × ServeStops stop input unread unwritten old new

-- The work was done with this status: the whole answer to what some words ask for was written, by the input or by a file that the command
-- reads in its place, and beside it what is to be said of the file system, and nothing else; or help was, which has a byte at least.
abbrev pub WasDone : Option (List ℕ) → ℕ → Option (List ℕ) → Option (List ℕ) → Option (List ℕ) → Option (List ℕ) → Type 0
WasDone input status old new before after =
    ((invocation : Invocation) × (read : Option (List ℕ)) × (ReadsFile invocation ⊎ (read ≡ input)) × Answers invocation read status old new × Notes invocation read before after)
    ⊎ ((help : List ℕ) × (status ≡ 0) × (help ≢ []) × Appends old new help × Keeps before after)
