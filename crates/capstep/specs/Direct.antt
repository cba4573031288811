-- What an event does by itself, before any lock moves; and what it answers and shows, some of it once all has moved.
use Rattle.std.specs.List.{find}
use Rattle.std.specs.Option.{option_map_or}
use Rattle.std.specs.Prelude.{◌≡◌, ℕ, ◌+◌, List, [], ◌∷◌, filter, not, take, Option, Some, None, unwrap_or, if◌then◌else◌}
use Rattle.std.specs.Prelude.{map as each}
use Rattle.std.specs.FinMap as map
use Rattle.capbits.specs.Caps.{Caps}
use Rattle.capbits.specs.Sets.{caps_in, union}
use Rattle.capbits.specs.declared.cap.Cap.TheVariants.{Fb, Fc, Fr, Fs, Fw, Fx, P}
use Rattle.capbits.specs.declared.ids.ClientId.{ClientId}
use Rattle.capbits.specs.declared.ids.Ino.{Ino}
use Rattle.capbits.specs.declared.ids.Ticket.{Ticket}
use Rattle.capbits.specs.declared.mode.Mode.{Mode}
use Rattle.capgrant.specs.declared.access.Attr.{Attr}
use Rattle.inotree.specs.Calls.{changed, with_new}
use Rattle.inotree.specs.Inodes.{with_snapshot, without_snapshot}
use Rattle.inotree.specs.Tree.{Nodes, child}
use Rattle.inotree.specs.declared.node.Kind.{Kind}
use Rattle.inotree.specs.declared.node.Kind.TheVariants.{Directory, File}
use Rattle.captable.specs.Calls.{acked, recalled, released, touched, wanting, with_entry, with_told, without_client}
use Rattle.captable.specs.Calls.{changed as changed_entry}
use Rattle.captable.specs.Table.{Table, holder, is_row_of}
use Rattle.captable.specs.declared.entry.EntryRow.{EntryRow}
use Rattle.captable.specs.declared.entry.Holder.{Holder}
use Rattle.sessiontab.specs.Calls.{with_session, without_blocked}
use Rattle.sessiontab.specs.Changes.{changed_sessions, is_end}
use Rattle.sessiontab.specs.Table.{SessionTable}
use Rattle.sessiontab.specs.declared.change.SessionChange.{SessionChange}
use Rattle.sessiontab.specs.declared.session.Session.{Session}
use Rattle.capstep.specs.Replies.{outcome_reply}
use Rattle.capstep.specs.declared.event.Event.{Event}
use Rattle.capstep.specs.declared.event.OpenMode.{OpenMode}
use Rattle.capstep.specs.declared.outcome.Ended.{Ended}
use Rattle.capstep.specs.declared.reply.Reply.{Reply}
use Rattle.capstep.specs.Changing.{tree_changed}
use Rattle.capstep.specs.DueEndings.{is_of_ticket, is_to}
use Rattle.lockmachine.specs.Locks.{requests_of, with_ino, with_request, without_requests_of}
use Rattle.lockmachine.specs.Scene.{Scene, pending_of}
use Rattle.lockmachine.specs.declared.request.Change.{Change}
use Rattle.lockmachine.specs.declared.request.Operation.{Operation}
use Rattle.lockmachine.specs.declared.request.Operation.TheVariants.{Alter, Get, Rename, Rmdir, Unlink}
use Rattle.capstep.specs.Clients.{session_change}
use Rattle.capstep.specs.Judge.{judged, rejection_reply, revoked_of}
use Rattle.capstep.specs.Messages.{first_messages, with_given}
use Rattle.capstep.specs.Serving.{dropped_of}
use Rattle.capstep.specs.State.{State}
use Rattle.capstep.specs.declared.rejection.Rejection.{Rejection}

abbrev pub with_scene : State → Scene → State
with_scene s scene = record s { scene = scene }

-- ---- answers

-- what is answered: this reply, whatever the step still does; or what an entry's client is to know at the end of the step;
-- or the first messages, at most so many, that are due to a client then; or how the request with this number ended in the
-- step, if it did
pub data DirectReply : Type 0 where
  Says : Reply → DirectReply
  Shows : Holder → DirectReply
  Gives : ClientId → ℕ → DirectReply
  Awaits : Ticket → DirectReply

-- the number of the entry's last change, and what its client is to know; an entry that was opened is there
abbrev pub opened_as : Scene → Option EntryRow → Reply
opened_as last None = Reply.Done
opened_as last (Some row) = Reply.Opened row.entry.seq (pending_of last row)

-- the answer to a request, where it is among those that ended; else it waits
abbrev pub awaited_as : Ticket → Option Ended → Reply
awaited_as ticket None = Reply.Waiting ticket
awaited_as ticket (Some m) = unwrap_or (outcome_reply m.outcome) (Reply.Waiting ticket)

-- what is answered at the end, in the last state, by what the moves ended
abbrev pub reply_of : State → List Ended → DirectReply → Reply
reply_of last ended (Says reply) = reply
reply_of last ended (Shows k) = opened_as last.scene (find (is_row_of k) last.scene.table.rows)
reply_of last ended (Gives client max) = Reply.Messages (first_messages last client max)
reply_of last ended (Awaits ticket) = awaited_as ticket (find (is_of_ticket ticket) ended)

-- what is shown or given, the client was told of
abbrev pub shown : DirectReply → State → State
shown (Shows k) last = with_scene last (record last.scene { table = changed_entry last.scene.table k with_told })
shown (Gives client max) last = with_given last client (first_messages last client max)
shown reply last = last

-- the state after an event, the answer, and the requests that the event itself ended
pub record Direct : Type 0 where
  pub state : State
  pub reply_due : DirectReply
  pub dropped : List Ended

-- this state and this answer, and no request ended
abbrev pub says : State → Reply → Direct
says s reply = record { state = s; reply_due = Says reply; dropped = [] }

abbrev pub with_tree : State → Nodes → State
with_tree s tree = with_scene s (record s.scene { tree = tree })

-- the inode that was found; one that a test has found is there
abbrev pub found : State → Option ℕ → Direct
found s None = says s Reply.Done
found s (Some ino) = says s (Reply.Ino (record { 0 = ino }))

-- an inode that a session's user makes is that user's
abbrev pub owned_by : Option Session → Mode → Attr
owned_by None mode = record { uid = 0; gid = 0; mode = mode }
owned_by (Some session) mode = record { uid = session.caller.uid; gid = session.caller.gid; mode = mode }

-- a new inode, which has the next number, with its locks
abbrev pub with_birth : State → Kind → ℕ → List ℕ → Attr → State
with_birth s kind dir name attr =
    with_scene s (record s.scene {
      tree = with_new s.scene.tree kind dir name attr;
      locks = with_ino s.scene.locks (s.scene.tree.last + 1);
    })

abbrev pub born : State → Kind → ClientId → ℕ → List ℕ → Mode → Direct
born s kind client dir name mode =
    says
    (with_birth s kind dir name (owned_by (map.get s.scene.sessions.sessions client.0) mode))
    (Reply.Ino (record { 0 = s.scene.tree.last + 1 }))

-- ---- of one entry

-- what a client that opens an inode wants of it
abbrev pub opening_wants : OpenMode → Caps
opening_wants OpenMode.Read = caps_in (P ∷ Fs ∷ Fc ∷ Fr ∷ [])
opening_wants OpenMode.Write = caps_in (P ∷ Fx ∷ Fw ∷ Fb ∷ [])
opening_wants OpenMode.ReadWrite = caps_in (P ∷ Fs ∷ Fx ∷ Fc ∷ Fr ∷ Fw ∷ Fb ∷ [])

-- the holder's entry wants something else, and comes last in the order of recall
abbrev pub with_want : Table → Holder → (Caps → Caps) → Table
with_want table k f = touched (changed_entry table k (λ e. wanting (f e.want) e)) k

-- the holder has an entry, which wants what the opening takes too
abbrev pub with_opening : Table → Holder → OpenMode → Table
with_opening table k mode = with_want (with_entry table k) k (λ want. union want (opening_wants mode))

-- the holder's entry wants these, and the pin
abbrev pub with_wanted : Table → Holder → Caps → Table
with_wanted table k caps = with_want table k (λ want. union caps (caps_in (P ∷ [])))

abbrev pub with_table : State → Table → State
with_table s table = with_scene s (record s.scene { table = table })

-- what was done is shown to the entry's client
abbrev pub shows : State → Holder → Direct
shows s k = record { state = s; reply_due = Shows k; dropped = [] }

-- ---- of what may wait for a lock

-- the operation waits for the lock, with the next number; the moves of the step may serve it, and else that number is answered
abbrev pub enqueues : State → ClientId → Ino → Operation → Direct
enqueues s client ino operation = record {
  state = with_scene s (record s.scene { locks = with_request s.scene.locks client ino operation });
  reply_due = Awaits (record { 0 = s.scene.locks.last + 1 });
  dropped = [];
}

-- the holder has made the change by itself, and its entry comes last in the order of recall
abbrev pub with_flush : State → Holder → Change → State
with_flush s k change =
    with_scene s (record s.scene { tree = tree_changed s.scene.tree k.ino.0 change; table = touched s.scene.table k })

-- ---- of a client's session

abbrev pub with_sessions : State → SessionTable → State
with_sessions s sessions = with_scene s (record s.scene { sessions = sessions })

-- with these sessions; and nothing of the client is left: no entry, no request, and nothing that it was still to be told of
abbrev pub without : State → ClientId → SessionTable → State
without s client sessions = record {
  scene = record s.scene {
    sessions = sessions;
    table = without_client s.scene.table client;
    locks = without_requests_of s.scene.locks client;
  };
  messages = filter (λ m. not (is_to client m)) s.messages;
}

-- the client's session ends, by which these are left: its requests are dropped, the oldest first
abbrev pub ends : State → ClientId → SessionTable → Direct
ends s client sessions = record {
  state = without s client sessions;
  reply_due = Says Reply.Done;
  dropped = each dropped_of (requests_of s.scene.locks client);
}

-- this becomes of the client's session
abbrev pub changes : State → ClientId → SessionChange → Direct
changes s client change =
    if is_end change then ends s client (changed_sessions s.scene.sessions client.0 change)
    else says (with_sessions s (changed_sessions s.scene.sessions client.0 change)) Reply.Done

-- ---- the effect of an event that nothing rejects

abbrev pub effect : State → Event → Direct
effect s (Event.Session client caller grants) = says (with_sessions s (with_session s.scene.sessions client.0 caller grants)) Reply.Done
effect s (Event.Unblock client) = says (with_sessions s (without_blocked s.scene.sessions client.0)) Reply.Done
effect s (Event.Recall count) = says (with_table s (recalled s.scene.table count)) (Reply.Recalled (take count s.scene.table.recall))
effect s (Event.Lookup client dir name) = found s (child s.scene.tree.nodes dir.0 name)
effect s (Event.Create client dir name mode) = born s File client dir.0 name mode
effect s (Event.Mkdir client dir name mode) = born s Directory client dir.0 name mode
effect s (Event.MakeSnapshot client ino name) = says (with_tree s (changed (with_snapshot name) s.scene.tree ino.0)) Reply.Done
effect s (Event.RemoveSnapshot client ino name) = says (with_tree s (changed (without_snapshot name) s.scene.tree ino.0)) Reply.Done
effect s (Event.Open client ino mode) =
    shows (with_table s (with_opening s.scene.table (holder client ino) mode)) (holder client ino)
effect s (Event.Want client ino caps) =
    shows (with_table s (with_wanted s.scene.table (holder client ino) caps)) (holder client ino)
effect s (Event.Ack client ino seq) =
    says (with_table s (acked s.scene.table (holder client ino) (revoked_of s.scene (holder client ino)))) Reply.Done
effect s (Event.Release client ino caps) = says (with_table s (released s.scene.table (holder client ino) caps)) Reply.Done
effect s (Event.Get client ino part) = enqueues s client ino (Get part)
effect s (Event.Alter client ino change) = enqueues s client ino (Alter change)
effect s (Event.Unlink client ino) = enqueues s client ino Unlink
effect s (Event.Rmdir client ino) = enqueues s client ino Rmdir
effect s (Event.Rename client ino dir name) = enqueues s client ino (Rename dir name)
effect s (Event.Flush client ino change) = says (with_flush s (holder client ino) change) Reply.Done
effect s (Event.Poll client max) = record { state = s; reply_due = Gives client max; dropped = [] }
-- all others change a session
effect s e = option_map_or (λ of. changes s of.0 of.1) (session_change e) (says s Reply.Done)

abbrev pub effect_unless : State → Event → Option Rejection → Direct
effect_unless s e (Some rejection) = says s (rejection_reply rejection)
effect_unless s e None = effect s e

-- what rejects an event is all that it answers, and it has no effect then
abbrev pub direct : State → Event → Direct
direct s e = effect_unless s e (judged s.scene e)

-- the scene to which the event leads by itself
abbrev pub begun : State → Event → Scene
begun s e = (direct s e).state.scene

-- the event answers this, whatever the step still does, and leads by itself to this state. An event whose answer is read off
-- at the end of the step has no such answer
pub record IsDirect (old : State) (e : Event) (reply : Reply) (new : State) : Type 0 where
  pub reply_is : Says reply ≡ (direct old e).reply_due
  pub state_is : new ≡ (direct old e).state

-- the event that makes an inode of this kind
abbrev pub made_event : Kind → ClientId → Ino → List ℕ → Mode → Event
made_event File client dir name mode = Event.Create client dir name mode
made_event Directory client dir name mode = Event.Mkdir client dir name mode
