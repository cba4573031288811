-- The requests of a client on one entry.
use Rattle.std.specs.Prelude.{List, [], ◌∷◌}
use Rattle.capbits.specs.Refusal.{Test}
use Rattle.capbits.specs.declared.ids.ClientId.{ClientId}
use Rattle.capbits.specs.declared.ids.Ino.{Ino}
use Rattle.captable.specs.Calls.{acked, released}
use Rattle.captable.specs.Table.{Table}
use Rattle.captable.specs.Tests.{ack_tests, entry_test, release_tests}
use Rattle.captable.specs.declared.entry.Holder.{Holder}
use Rattle.capstep.specs.declared.event.Event.{Event}
use Rattle.capstep.specs.declared.reply.Reply.{Reply}
use Rattle.capstep.specs.Direct.{DirectReply, Says, Shows, with_opening, with_wanted}
use Rattle.capstep.specs.Judge.{revoked_of, room_for}
use Rattle.lockmachine.specs.Scene.{Scene}
use Rattle.capcore.specs.declared.entry_request.EntryRequest.{EntryRequest}
use Rattle.capcore.specs.declared.entry_request.EntryRequest.TheVariants.{Ack, Open, Release, Want}

-- the event of the request on the client's entry on the inode
abbrev pub entry_event : ClientId → Ino → EntryRequest → Event
entry_event client ino (Open mode) = Event.Open client ino mode
entry_event client ino (Want caps) = Event.Want client ino caps
entry_event client ino (Ack seq) = Event.Ack client ino seq
entry_event client ino (Release caps) = Event.Release client ino caps

-- what the table tests of the request
abbrev pub entry_request_tests : Scene → Holder → EntryRequest → List Test
entry_request_tests s k (Open mode) = room_for s.table k
entry_request_tests s k (Want caps) = entry_test s.table k ∷ []
entry_request_tests s k (Ack seq) = ack_tests s.table k seq (revoked_of s k)
entry_request_tests s k (Release caps) = release_tests s.table k caps

-- the table, once the request was applied
abbrev pub table_after : Scene → Holder → EntryRequest → Table
table_after s k (Open mode) = with_opening s.table k mode
table_after s k (Want caps) = with_wanted s.table k caps
table_after s k (Ack seq) = acked s.table k (revoked_of s k)
table_after s k (Release caps) = released s.table k caps

-- the answer to the request
abbrev pub entry_reply : Holder → EntryRequest → DirectReply
entry_reply k (Open mode) = Shows k
entry_reply k (Want caps) = Shows k
entry_reply k (Ack seq) = Says Reply.Done
entry_reply k (Release caps) = Says Reply.Done
