-- A step that may move locks: before its event, and between the event and the end.
use Rattle.std.specs.Prelude.{◌≡◌, ◌≤◌, ◌+◌, ℕ, List, [], All, length, None, vec_capacity}
use Rattle.capbits.specs.declared.ids.ClientId.{ClientId}
use Rattle.capbits.specs.declared.ids.Ino.{Ino}
use Rattle.captable.specs.Table.{IsTable}
use Rattle.capcore.specs.Affected.{Affects, Knows}
use Rattle.capcore.specs.Begun.{AreCountedIn, ArePermittedIn, IsReady, among}
use Rattle.step_acts.specs.Known.{AreKnown, ClientViews, StillKnown, known_in}
use Rattle.capstep.specs.declared.operations.OperationRef.{OperationRef}
use Rattle.capstep.specs.declared.operations.OperationRef.TheVariants.{Alter, Get, Rename, Rmdir, Unlink}
use Rattle.capstep.specs.Clients.{session_event}
use Rattle.capstep.specs.declared.event.Event.{Event}
use Rattle.capstep.specs.declared.outcome.Ended.{Ended}
use Rattle.capstep.specs.declared.reply.Reply.{Reply}
use Rattle.capstep.specs.DueEndings.{HasRoom, but_for}
use Rattle.capstep.specs.Direct.{direct}
use Rattle.capstep.specs.Judge.{judged}
use Rattle.capstep.specs.Noted.{view_of}
use Rattle.capstep.specs.Sound.{AreGiven, IsSound, NumbersLeft}
use Rattle.capstep.specs.State.{State}
use Rattle.policy_view.specs.Changes.{AreChanges}
use Rattle.capcore.specs.EntryRequest.{entry_event, entry_reply}
use Rattle.lockmachine.specs.Locks.{IsLockMap}
use Rattle.lockmachine.specs.Scene.{Scene, plain}
use Rattle.capcore.specs.declared.output.StepOutput.{StepOutput}
use Rattle.capstep.specs.Direct as rules
use Rattle.capcore.specs.declared.parts.ReplyDue.{ReplyDue}
use Rattle.capcore.specs.declared.parts.ReplyDue.TheVariants.{Awaited, Done, Dropped, Requested}
use Rattle.capcore.specs.declared.parts.Applied.{Applied}
use Rattle.capcore.specs.declared.parts.LockEvent.{LockEvent}
use Rattle.capcore.specs.declared.parts.LockEvent.TheVariants.{Flush, OfEntry, OfLock, OfSession}
use Rattle.capcore.specs.declared.parts.CoreState.{CoreState}

abbrev pub state_of : CoreState → State
state_of p = record { scene = plain p.scene; messages = p.messages.items }

-- of each entry it is kept what its client is to know of, and what it is permitted
abbrev pub AreKept : ClientViews → Scene → Type 0
AreKept sets s = AreKnown sets s × ArePermittedIn sets s

-- what the parts are between two steps: sound, with room for each message that is to come, with these of each entry, and of each
-- gather how many clients it waits for
abbrev pub IsWhole : CoreState → Type 0
IsWhole p = IsSound (state_of p) × HasRoom p.messages p.scene.locks.locks × AreKept p.scene.table.kept (plain p.scene) × AreCountedIn p.scene

-- ---- the event

-- the event of a client's operation
abbrev pub operation_event : ClientId → Ino → OperationRef → Event
operation_event client ino (Get part) = Event.Get client ino part
operation_event client ino (Alter change) = Event.Alter client ino change.now
operation_event client ino Unlink = Event.Unlink client ino
operation_event client ino Rmdir = Event.Rmdir client ino
operation_event client ino (Rename dir name) = Event.Rename client ino dir name.now

abbrev pub event_of : LockEvent → Event
event_of (OfEntry k request) = entry_event k.client k.ino request
event_of (OfLock k operation) = operation_event k.client k.ino operation
event_of (Flush k change) = Event.Flush k.client k.ino change.now
event_of (OfSession client change) = session_event client change

-- nothing rejects it
pub record MayBegin (p : CoreState) (e : Event) : Type 0 where
  pub whole : IsWhole p
  pub table : IsTable p.scene.table.entries
  pub order : IsLockMap p.scene.locks.locks
  pub numbers : NumbersLeft (state_of p)
  pub passed : judged (plain p.scene) e ≡ None

-- ---- what it leaves by itself

abbrev pub direct_reply_of : ReplyDue → rules.DirectReply
direct_reply_of (Requested k request) = entry_reply k request
direct_reply_of (Awaited ticket) = rules.Awaits ticket
direct_reply_of reply_due = rules.Says Reply.Done

abbrev pub dropped_of : ReplyDue → List Ended
dropped_of (Dropped dropped) = dropped.items
dropped_of reply_due = []

-- of the requests that the step ends, those of earlier steps
abbrev pub earlier_of : ReplyDue → List Ended → List Ended
earlier_of (Awaited ticket) ended = but_for ticket ended
earlier_of reply_due ended = ended

-- the last number of a request, before and after: the one that is awaited, is new
abbrev pub IsNumbered : ReplyDue → ℕ → ℕ → Type 0
IsNumbered (Awaited ticket) was now = (ticket.0 ≡ was + 1) × (now ≡ was + 1)
IsNumbered reply_due was now = now ≡ was

-- where requests were dropped, there is room for so many beside them
abbrev pub HasPlaces : ReplyDue → ℕ → Type 0
HasPlaces (Dropped dropped) waiting = length dropped.items + waiting ≤ vec_capacity dropped
HasPlaces reply_due waiting = Unit

-- it gives at most one number
abbrev pub GivesOne : State → Event → Type 0
GivesOne old e =
    (count : ℕ) → AreGiven count old →
    All (λ row. row.entry.seq ≤ count) (direct old e).state.scene.table.rows
    × ((direct old e).state.scene.table.made ≤ count + 1) × ((direct old e).state.scene.locks.last ≤ count + 1)

-- ---- the event alone has been applied

pub record HasBegun (p : CoreState) (e : Event) (applied : Applied) (q : CoreState) (output : StepOutput) : Type 0 where
  pub is : state_of q ≡ (direct (state_of p) e).state
  pub reply_due : direct_reply_of applied.reply_due ≡ (direct (state_of p) e).reply_due
  pub dropped : dropped_of applied.reply_due ≡ (direct (state_of p) e).dropped
  pub number : IsNumbered applied.reply_due p.scene.locks.locks.last q.scene.locks.locks.last
  pub affects : Affects (among applied.affected) (state_of p) (state_of q)
  pub table : IsTable q.scene.table.entries
  pub gives : GivesOne (state_of p) e
  -- of each entry what was known is kept
  pub still : StillKnown p.scene.table.entries q.scene.table.entries p.scene.table.kept q.scene.table.kept
  pub knows : Knows (known_in q.scene.table.kept) (plain p.scene) q.scene.table.entries
  pub ready : IsReady applied.affected q.scene.table.kept (plain q.scene) output
  pub counted : AreCountedIn q.scene
  pub room : HasRoom q.messages q.scene.locks.locks
  pub places : HasPlaces applied.reply_due (length q.scene.locks.locks.queue)
  pub noted : AreChanges output.changes.items (view_of (state_of p)) (view_of (state_of q))
