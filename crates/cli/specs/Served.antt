-- What a script that is served leaves, and what is written of it.
use Rattle.std.specs.Prelude.{◌≡◌, ◌≤◌, ◌⊎◌, ℕ, List, [], ◌++◌, Result, Ok, Err, length, codes}
use Rattle.std.specs.List.{flat_map}
use Rattle.inotree.specs.Calls.{first_tree}
use Rattle.capstep.specs.declared.row.Row.{Row}
use Rattle.capstep.specs.History.{IsLegal, IsOpening}
use Rattle.capstep.specs.State.{State}
use Rattle.capexplain.specs.Audit.{audit_text}
use Rattle.capscript.specs.Transcript.{fs_name, root_attr}
use Rattle.texts.specs.declared.fault.ScriptFault.TheVariants as stops
use Rattle.cli.specs.declared.serve_fault.ServeFault.{ServeFault}
use Rattle.cli.specs.declared.serve_fault.ServeFault.TheVariants.{Clients, HistoryFull, NoThread, Script}
use Rattle.cli.specs.Jobs.{StopsAt, TakesAll, Work, event_count, no_work}

-- the line of a row, with its line feed
abbrev pub row_line : Row → List ℕ
row_line row = audit_text row ++ codes "\n"

-- the line of each row, in order
abbrev pub history_lines : List Row → List ℕ
history_lines rows = flat_map row_line rows

-- the rows are a legal history on a root alone that leads to this state, as many as there are events
pub record IsHistory (work : Work) (rows : List Row) (last : State) : Type 0 where
  pub opening : State
  pub opens : IsOpening fs_name (first_tree root_attr) opening
  pub legal : IsLegal opening rows last
  pub counted : length rows ≡ event_count work

-- The text has the lines of a legal history on a root alone, which has as many rows as the lines say events.
pub record IsServed (script : List (List ℕ)) (text : List ℕ) : Type 0 where
  pub work : Work
  pub taken : TakesAll no_work script work
  pub rows : List Row
  pub last : State
  pub history : IsHistory work rows last
  pub text_is : text ≡ history_lines rows

-- how many rows the history takes at most
abbrev pub most_rows : ℕ
most_rows = 4294967295

-- memory was missing for the calls, or a thread was not to be had
abbrev pub IsMissing : ServeFault → Type 0
IsMissing fault = (fault ≡ Script stops.NoMemory) ⊎ (fault ≡ NoThread)

-- So many events were not all answered: memory or a thread was missing; or the history was full, and has no more rows than there are events.
abbrev pub IsCutShort : ℕ → ServeFault → Type 0
IsCutShort events fault = IsMissing fault ⊎ ((fault ≡ HistoryFull) × (most_rows ≤ events))

-- Why a script is not served: its first line that has a fault; or memory was missing, or a thread; or all lines were taken, and the
-- history was full: then they say at least as many events as it has rows.
abbrev pub IsUnserved : List (List ℕ) → ServeFault → Type 0
IsUnserved script (Script (stops.LineFault line kind)) = StopsAt no_work 1 script (Script (stops.LineFault line kind))
IsUnserved script (Script stops.NoMemory) = Unit {0}
IsUnserved script (Script stops.ReadFault) = ⊥
IsUnserved script (Script stops.WriteFault) = ⊥
IsUnserved script NoThread = Unit {0}
IsUnserved script (Clients line) = StopsAt no_work 1 script (Clients line)
IsUnserved script HistoryFull = (work : Work) × TakesAll no_work script work × (most_rows ≤ event_count work)

-- What was written of a script, by how serving it ended: all that there is to write, a beginning of it where a write failed, or nothing.
abbrev pub IsWritten : {T : Type 0} → List (List ℕ) → Result T ServeFault → List ℕ → Type 0
IsWritten script (Ok done) text = IsServed script text
IsWritten script (Err (Script stops.WriteFault)) text = (left : List ℕ) × IsServed script (text ++ left)
IsWritten script (Err (Script stops.ReadFault)) text = text ≡ []
IsWritten script (Err fault) text = IsUnserved script fault × (text ≡ [])
