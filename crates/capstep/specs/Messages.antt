-- The messages that are due to a client, and what is left when it was given some of them.
use Rattle.std.specs.List.{flat_map, list_any}
use Rattle.std.specs.Prelude.{ℕ, Bool, false, ◌==◌, nat_lt, List, [], ◌∷◌, ◌++◌, map, filter, take, Option, Some, None, if◌then◌else◌}
use Rattle.std.specs.FinMap as finite
use Rattle.capbits.specs.declared.ids.ClientId.{ClientId}
use Rattle.capbits.specs.declared.ids.Ino.{Ino}
use Rattle.inotree.specs.declared.node.Node.{Node}
use Rattle.captable.specs.Calls.{is_of_client, with_asked, with_size_due, with_told}
use Rattle.captable.specs.Many.{changed_where}
use Rattle.captable.specs.declared.entry.Entry.{Entry}
use Rattle.captable.specs.declared.entry.EntryRow.{EntryRow}
use Rattle.capstep.specs.declared.outcome.Ended.{Ended}
use Rattle.capstep.specs.declared.outcome.Message.{Message}
use Rattle.capstep.specs.DueEndings.{is_left, is_to}
use Rattle.lockmachine.specs.Scene.{Scene, pending_of}
use Rattle.capstep.specs.State.{State}

-- what the client is to know that it holds has changed since it was told
abbrev pub caps_messages : Scene → EntryRow → List Message
caps_messages s row =
    if nat_lt row.entry.told_seq row.entry.seq
    then Message.Caps row.holder.ino row.entry.seq (pending_of s row) ∷ []
    else []

-- the size that the inode has now; an inode that somebody has an entry on is there
abbrev pub size_message : Ino → Option Node → List Message
size_message ino None = []
size_message ino (Some node) = Message.Size ino node.size ∷ []

-- the size was changed while the client cached the data
abbrev pub size_messages : Scene → EntryRow → List Message
size_messages s row = if row.entry.size_due then size_message row.holder.ino (finite.get s.tree.nodes row.holder.ino.0) else []

-- the client is asked to release
abbrev pub recall_messages : EntryRow → List Message
recall_messages row = if row.entry.asked then Message.Recall row.holder.ino ∷ [] else []

-- how a request ended
abbrev pub end_message : Ended → Message
end_message m = Message.Ended m.ticket m.outcome

-- the messages of a client's requests that ended, in the order in which they ended
abbrev pub end_messages : ClientId → List Ended → List Message
end_messages client ended = map end_message (filter (is_to client) ended)

-- what is due to the client of an entry: the change that it was not told of, the size, and that it is asked to release
abbrev pub row_messages : Scene → EntryRow → List Message
row_messages s row = caps_messages s row ++ size_messages s row ++ recall_messages row

-- its requests that ended, in the order in which they ended; and then what is due of each of its entries, in the order of making
abbrev pub messages_to : State → ClientId → List Message
messages_to s client =
    end_messages client s.messages
    ++ flat_map (row_messages s.scene) (filter (is_of_client client) s.scene.table.rows)

-- those that a poll for at most so many takes
abbrev pub first_messages : State → ClientId → ℕ → List Message
first_messages s client max = take max (messages_to s client)

-- ---- what is left

-- the message tells what the client is to know that it holds on the inode
abbrev pub is_caps_of : Ino → Message → Bool
is_caps_of ino (Message.Caps i seq caps) = i.0 == ino.0
is_caps_of ino m = false

-- the message tells the inode's size
abbrev pub is_size_of : Ino → Message → Bool
is_size_of ino (Message.Size i size) = i.0 == ino.0
is_size_of ino m = false

-- the message asks the client to release what it holds on the inode
abbrev pub is_recall_of : Ino → Message → Bool
is_recall_of ino (Message.Recall i) = i.0 == ino.0
is_recall_of ino m = false

abbrev pub told_if : Bool → Entry → Entry
told_if b e = if b then with_told e else e

abbrev pub sized_if : Bool → Entry → Entry
sized_if b e = if b then with_size_due false e else e

abbrev pub unasked_if : Bool → Entry → Entry
unasked_if b e = if b then with_asked false e else e

-- the entry, once its client was given these messages: it was told of the last change if one of them says it, and of the size if
-- one does, and is no longer asked to release if one of them asks it
abbrev pub after_messages : List Message → EntryRow → Entry
after_messages given row =
    unasked_if (list_any (is_recall_of row.holder.ino) given)
    (sized_if (list_any (is_size_of row.holder.ino) given) (told_if (list_any (is_caps_of row.holder.ino) given) row.entry))

-- the state, once a client was given messages: those are due no more, and all others are
abbrev pub with_given : State → ClientId → List Message → State
with_given s client given = record s {
  scene = record s.scene { table = changed_where (is_of_client client) (after_messages given) s.scene.table };
  messages = filter (is_left client given) s.messages;
}
