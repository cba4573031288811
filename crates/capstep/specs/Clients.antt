-- Which client an event is about, and what becomes of its session.
use Rattle.std.specs.Prelude.{List, None, Option, Some}
use Rattle.std.specs.Borrow.{Bor}
use Rattle.capbits.specs.declared.ids.ClientId.{ClientId}
use Rattle.capspec.specs.declared.grant.Grant.{Grant}
use Rattle.sessiontab.specs.declared.change.SessionChange.{SessionChange}
use Rattle.sessiontab.specs.declared.change.SessionChange.TheVariants.{Close, Evict, Mark, Regrant}
use Rattle.capstep.specs.declared.event.Event.{Event}

-- the client that the event is about; a recall is about none
abbrev pub client_of : Event → Option ClientId
client_of (Event.Session client caller grants) = Some client
client_of (Event.CloseSession client) = Some client
client_of (Event.Mark client status) = Some client
client_of (Event.Regrant client grants) = Some client
client_of (Event.Evict client) = Some client
client_of (Event.Unblock client) = Some client
client_of (Event.Recall count) = None
client_of (Event.Lookup client dir name) = Some client
client_of (Event.Create client dir name mode) = Some client
client_of (Event.Mkdir client dir name mode) = Some client
client_of (Event.MakeSnapshot client ino name) = Some client
client_of (Event.RemoveSnapshot client ino name) = Some client
client_of (Event.Open client ino mode) = Some client
client_of (Event.Want client ino caps) = Some client
client_of (Event.Ack client ino seq) = Some client
client_of (Event.Release client ino caps) = Some client
client_of (Event.Get client ino part) = Some client
client_of (Event.Alter client ino change) = Some client
client_of (Event.Unlink client ino) = Some client
client_of (Event.Rmdir client ino) = Some client
client_of (Event.Rename client ino dir name) = Some client
client_of (Event.Flush client ino change) = Some client
client_of (Event.Poll client max) = Some client

-- ---- of a session that is there

-- the event by which this becomes of the client's session
abbrev pub session_event : ClientId → SessionChange → Event
session_event client Close = Event.CloseSession client
session_event client (Mark status) = Event.Mark client status
session_event client (Regrant grants) = Event.Regrant client grants.now
session_event client Evict = Event.Evict client

-- a reference to grants; where they stand tells nothing
abbrev pub lent : List Grant → Bor (List Grant)
lent grants = record { ref_ptr = (0, 0); now = grants }

-- whose session an event changes, if it does, and what becomes of it
abbrev pub session_change : Event → Option (ClientId × SessionChange)
session_change (Event.CloseSession client) = Some (client, Close)
session_change (Event.Mark client status) = Some (client, Mark status)
session_change (Event.Regrant client grants) = Some (client, Regrant (lent grants))
session_change (Event.Evict client) = Some (client, Evict)
session_change e = None
