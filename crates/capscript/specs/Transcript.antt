-- What a run over a script writes.
use Rattle.std.specs.Prelude.{◌≡◌, ◌+◌, ◌⊎◌, ℕ, Bool, false, not, List, [], ◌∷◌, ◌++◌, Result, Ok, Err, length, map, filter, codes, IsTrue}
use Rattle.std.specs.List.{AllByRecursion, flat_map}
use Rattle.capbits.specs.declared.ids.PassId.{PassId}
use Rattle.capgrant.specs.declared.access.Attr.{Attr}
use Rattle.inotree.specs.Calls.{first_tree}
use Rattle.capstep.specs.declared.event.Event.{Event}
use Rattle.capstep.specs.declared.row.Row.{Row}
use Rattle.capstep.specs.declared.reply.Reply.{Reply}
use Rattle.capstep.specs.History.{CoreValue, IsLegal, IsNext, IsOpening}
use Rattle.capstep.specs.State.{State}
use Rattle.texts.specs.declared.fault.LineFault.{LineFault}
use Rattle.texts.specs.declared.fault.ScriptFault.{ScriptFault}
use Rattle.texts.specs.declared.fault.ScriptFault.TheVariants as stops
use Rattle.capexplain.specs.Events.{Reads}
use Rattle.capexplain.specs.Faults.{HasFault}
use Rattle.texts.specs.ScriptLines.{is_skipped, lines}
use Rattle.capexplain.specs.Replies.{reply_text}

-- The lines say these events, in order: each line that is not skipped says one.
pub record LinesSay (script : List (List ℕ)) (events : List Event) : Type 0 where
  pub said : List (List ℕ × Event)
  pub lines_are : map (λ line. line.0) said ≡ filter (λ line. not (is_skipped line)) script
  pub events_are : map (λ line. line.1) said ≡ events
  pub each : AllByRecursion (λ line. Reads line.0 line.1) said

-- the texts of the replies of a history
abbrev pub replies_text : List Row → List ℕ
replies_text rows = flat_map (λ row. reply_text row.reply) rows

-- the file system's name, and the root's owner, group and mode
abbrev pub fs_name : List ℕ
fs_name = codes "cephfs"

abbrev pub root_attr : Attr
root_attr = record { uid = 0; gid = 0; mode = 493 }

-- The text is the transcript of the lines: that of the replies of a legal history, from an opening state on a root alone, whose events
-- are those of the lines, in order.
pub record IsTranscript (script : List (List ℕ)) (text : List ℕ) : Type 0 where
  pub opening : State
  pub rows : List Row
  pub last : State
  pub opens : IsOpening fs_name (first_tree root_attr) opening
  pub legal : IsLegal opening rows last
  pub say : LinesSay script (map (λ row. row.event) rows)
  pub text_is : text ≡ replies_text rows

-- it is the transcript of the lines before a line that has the fault
pub record StopsAtLine (script : List (List ℕ)) (line : ℕ) (kind : LineFault) (text : List ℕ) : Type 0 where
  pub before : List (List ℕ)
  pub bad : List ℕ
  pub after : List (List ℕ)
  pub order : script ≡ before ++ bad ∷ after
  pub line_is : line ≡ length before + 1
  pub fault : HasFault bad kind
  pub transcript : IsTranscript before text

-- the text is the beginning of the transcript of some first lines
pub record IsBeginning (script : List (List ℕ)) (text : List ℕ) : Type 0 where
  pub front : List (List ℕ)
  pub after : List (List ℕ)
  pub order : script ≡ front ++ after
  pub unwritten : List ℕ
  pub transcript : IsTranscript front (text ++ unwritten)

-- it is the transcript of the lines before a line that says an event
pub record StopsAtEvent (script : List (List ℕ)) (text : List ℕ) : Type 0 where
  pub before : List (List ℕ)
  pub line : List ℕ
  pub after : List (List ℕ)
  pub order : script ≡ before ++ line ∷ after
  pub event : Event
  pub reads : Reads line event
  pub transcript : IsTranscript before text

-- What was written, by how the answers to the lines ended. Memory is missed at a line that says an event, never at one that has a fault.
abbrev pub Answered : {T : Type 0} → List (List ℕ) → Result T ScriptFault → List ℕ → Type 0
Answered script (Ok done) text = IsTranscript script text
Answered script (Err (stops.LineFault line kind)) text = StopsAtLine script line kind text
Answered script (Err stops.WriteFault) text = IsBeginning script text
Answered script (Err stops.NoMemory) text = StopsAtEvent script text
Answered script (Err stops.ReadFault) text = ⊥

-- What was written, by whether the script was read to its end and by how the run over it ended. Nothing is answered before all is read; so
-- where reading failed, or memory was missed on the way to the end, nothing was written.
abbrev pub Ran : {T : Type 0} → List ℕ → Bool → Result T ScriptFault → List ℕ → Type 0
Ran script ended (Err stops.ReadFault) text = text ≡ []
Ran script false (Err stops.NoMemory) text = text ≡ []
Ran script ended result text = Answered (lines script) result text

-- ---- one event

abbrev pub first_pass : PassId
first_pass = record { 0 = 1 }

-- the event is the next of the history, and this is the text of its answer
pub record Answers (old : CoreValue) (event : Event) (new : CoreValue) (text : List ℕ) : Type 0 where
  pub reply : Reply
  pub next : IsNext old first_pass event reply new
  pub text_is : text ≡ reply_text reply

-- ---- one line

-- a line that is skipped changes and writes nothing; the event of another is answered
abbrev pub AnswersLine : CoreValue → List ℕ → CoreValue → List ℕ → Type 0
AnswersLine old line new text =
    (IsTrue (is_skipped line) × (new ≡ old) × (text ≡ []))
    ⊎ ((event : Event) × Reads line event × Answers old event new text)

-- what was written where a line with this number stopped the script
abbrev pub StopsIn : CoreValue → ℕ → List ℕ → ScriptFault → CoreValue → List ℕ → Type 0
StopsIn old number line (stops.LineFault at kind) new text = (at ≡ number) × HasFault line kind × (text ≡ [])
StopsIn old number line stops.NoMemory new text = (event : Event) × Reads line event × (text ≡ [])
StopsIn old number line stops.WriteFault new text = (event : Event) × Reads line event × ((left : List ℕ) × Answers old event new (text ++ left))
StopsIn old number line stops.ReadFault new text = ⊥
