-- What is tested of an event, in order, and what rejects it.
use Rattle.std.specs.List.{find}
use Rattle.std.specs.Option.{option_map, option_map_or}
use Rattle.std.specs.Prelude.{ℕ, Bool, not, List, [], ◌∷◌, ◌++◌, Option, Some, None, is_some, if◌then◌else◌}
use Rattle.capbits.specs.Caps.{Caps}
use Rattle.capbits.specs.Refusal.{Test, first_failing}
use Rattle.capbits.specs.Sets.{caps_in, no_caps}
use Rattle.capbits.specs.declared.ids.ClientId.{ClientId}
use Rattle.capbits.specs.declared.ids.Ino.{Ino}
use Rattle.capbits.specs.declared.refusal.Refusal.{Refusal}
use Rattle.capgrant.specs.declared.access.Access.{Access}
use Rattle.capgrant.specs.declared.access.Access.TheVariants.{Read, Snapshot, Write}
use Rattle.inotree.specs.Tests.{directory_test, exists_test, file_test, found_test, inode_tests, new_inode_tests, new_snapshot_tests, old_snapshot_tests}
use Rattle.inotree.specs.Tree.{Nodes, child}
use Rattle.captable.specs.Table.{Table, entry_at, holder, is_row_of}
use Rattle.captable.specs.Tests.{ack_tests, entry_test, open_tests, release_tests}
use Rattle.captable.specs.declared.entry.Holder.{Holder}
use Rattle.sessiontab.specs.Changes.{session_change_tests}
use Rattle.sessiontab.specs.Table.{SessionTable}
use Rattle.sessiontab.specs.Tests.{blocked_test, connected_test, new_session_tests, session_tests}
use Rattle.capstep.specs.declared.event.Event.{Event}
use Rattle.capstep.specs.declared.event.OpenMode.{OpenMode}
use Rattle.capstep.specs.declared.reply.Reply.{Reply}
use Rattle.lockmachine.specs.Locks.{queue_tests}
use Rattle.lockmachine.specs.Policy.{failures, is_granted}
use Rattle.lockmachine.specs.Requests.{part_of_change}
use Rattle.lockmachine.specs.Scene.{Scene, against}
use Rattle.lockmachine.specs.declared.request.Change.{Change}
use Rattle.lockmachine.specs.declared.request.Operation.{Operation}
use Rattle.lockmachine.specs.declared.request.Operation.TheVariants.{Alter, Get, Rename, Rmdir, Unlink}
use Rattle.capstep.specs.Clients.{session_change}
use Rattle.capstep.specs.Needs.{Need, need, need_if}
use Rattle.capstep.specs.Operations.{change_access, change_tests, exclusive, operation_after, operation_before, operation_needs}
use Rattle.capstep.specs.declared.rejection.Rejection.{Rejection}
use Rattle.capstep.specs.declared.rejection.Rejection.TheVariants.{ByPolicy, ByTest}

-- ---- by event

-- what is being revoked of the holder's entry, where it has one
abbrev pub revoked_of : Scene → Holder → Caps
revoked_of s k = option_map_or (against s) (find (is_row_of k) s.table.rows) no_caps

-- the client has a session, open or stale, and the inode is there, with a path or without
abbrev pub connected_tests : Scene → ClientId → ℕ → List Test
connected_tests s client ino = connected_test s.sessions client.0 ∷ exists_test s.tree ino ∷ []

-- the client has an open session, and the inode is there and has a path
abbrev pub basic_tests : Scene → ClientId → ℕ → List Test
basic_tests s client ino = session_tests s.sessions client.0 ++ inode_tests s.tree ino

-- of what may wait for a lock, the tests that stand before policy
abbrev pub arrival_tests : Scene → ClientId → ℕ → Operation → List Test
arrival_tests s client ino operation = session_tests s.sessions client.0 ++ operation_before s ino operation

-- the accesses that an opening needs, in order
abbrev pub opening_needs : ClientId → ℕ → OpenMode → List Need
opening_needs client ino OpenMode.Read = need client ino Read ∷ []
opening_needs client ino OpenMode.Write = need client ino Write ∷ []
opening_needs client ino OpenMode.ReadWrite = need client ino Read ∷ need client ino Write ∷ []

-- there is room for the holder's entry, where it is to be made
abbrev pub room_for : Table → Holder → List Test
room_for table k = if is_some (entry_at table k) then [] else open_tests table

-- what is opened to write is no directory
abbrev pub opening_tests : Scene → Holder → OpenMode → List Test
opening_tests s k OpenMode.Read = room_for s.table k
opening_tests s k mode = file_test s.tree k.ino.0 ∷ room_for s.table k

-- what may wait for a lock has its own tests, and there is room for it in the queue
abbrev pub waiting_tests : Scene → ℕ → Operation → List Test
waiting_tests s ino operation = operation_after s ino operation ++ queue_tests s.locks

-- the holder has an entry, and holds the cap with which it changes the part by itself, which counts while it is being revoked;
-- and the change has its own tests
abbrev pub flush_tests : Scene → Holder → Change → List Test
flush_tests s k change =
    release_tests s.table k (caps_in (exclusive (part_of_change change) ∷ [])) ++ change_tests s k.ino.0 change

-- what an event has to pass, in order: the tests that stand before policy, the accesses that it needs, and the tests behind policy
pub record Tests : Type 0 where
  pub first : List Test
  pub accesses : List Need
  pub last : List Test

-- an event that needs no access has these tests alone
abbrev pub without_policy : List Test → Tests
without_policy tests = record { first = tests; accesses = []; last = [] }

-- an inode is to be made in the directory
abbrev pub birth_tests : Scene → ClientId → Ino → List ℕ → Tests
birth_tests s client dir name = record {
  first = basic_tests s client dir.0;
  accesses = need client dir.0 Write ∷ [];
  last = new_inode_tests s.tree dir.0 name;
}

-- what may wait for a lock
abbrev pub request_tests : Scene → ClientId → Ino → Operation → Tests
request_tests s client ino operation = record {
  first = arrival_tests s client ino.0 operation;
  accesses = operation_needs s client ino.0 operation;
  last = waiting_tests s ino.0 operation;
}

-- of each event
abbrev pub tests_of : Scene → Event → Tests
tests_of s (Event.Session client caller grants) = without_policy (new_session_tests s.sessions client.0)
tests_of s (Event.Unblock client) = without_policy (blocked_test s.sessions client.0 ∷ [])
tests_of s (Event.Recall count) = without_policy []
tests_of s (Event.Lookup client dir name) = record {
  first = basic_tests s client dir.0 ++ directory_test s.tree dir.0 ∷ found_test s.tree dir.0 name ∷ [];
  accesses = need_if client (child s.tree.nodes dir.0 name) Read;
  last = [];
}
tests_of s (Event.Create client dir name mode) = birth_tests s client dir name
tests_of s (Event.Mkdir client dir name mode) = birth_tests s client dir name
tests_of s (Event.MakeSnapshot client ino name) = record {
  first = basic_tests s client ino.0;
  accesses = need client ino.0 Snapshot ∷ [];
  last = new_snapshot_tests s.tree ino.0 name;
}
tests_of s (Event.RemoveSnapshot client ino name) = record {
  first = basic_tests s client ino.0;
  accesses = need client ino.0 Snapshot ∷ [];
  last = old_snapshot_tests s.tree ino.0 name;
}
tests_of s (Event.Open client ino mode) = record {
  first = basic_tests s client ino.0;
  accesses = opening_needs client ino.0 mode;
  last = opening_tests s (holder client ino) mode;
}
tests_of s (Event.Want client ino caps) = without_policy (basic_tests s client ino.0 ++ entry_test s.table (holder client ino) ∷ [])
tests_of s (Event.Ack client ino seq) =
    without_policy (connected_tests s client ino.0 ++ ack_tests s.table (holder client ino) seq (revoked_of s (holder client ino)))
tests_of s (Event.Release client ino caps) =
    without_policy (connected_tests s client ino.0 ++ release_tests s.table (holder client ino) caps)
tests_of s (Event.Get client ino part) = request_tests s client ino (Get part)
tests_of s (Event.Alter client ino change) = request_tests s client ino (Alter change)
tests_of s (Event.Unlink client ino) = request_tests s client ino Unlink
tests_of s (Event.Rmdir client ino) = request_tests s client ino Rmdir
tests_of s (Event.Rename client ino dir name) = request_tests s client ino (Rename dir name)
tests_of s (Event.Flush client ino change) = record {
  first = basic_tests s client ino.0;
  accesses = need client ino.0 (change_access change) ∷ [];
  last = flush_tests s (holder client ino) change;
}
tests_of s (Event.Poll client max) = without_policy (session_tests s.sessions client.0)
-- all others change a session
tests_of s e = without_policy (option_map_or (λ of. session_change_tests s.sessions of.0.0 of.1) (session_change e) [])

-- the tests that stand before policy
abbrev pub before : Scene → Event → List Test
before s e = (tests_of s e).first

-- the accesses that an event needs, in order
abbrev pub needs : Scene → Event → List Need
needs s e = (tests_of s e).accesses

-- the tests that stand behind policy
abbrev pub after : Scene → Event → List Test
after s e = (tests_of s e).last

-- ---- the judgement

-- some grant of the client allows the access
abbrev pub is_met : Scene → Need → Bool
is_met s n = is_granted s.fs s.tree s.sessions n.holder n.access

-- the first access without a grant
abbrev pub first_denied : Scene → List Need → Option Need
first_denied s needed = find (λ n. not (is_met s n)) needed

-- the denial of one access without a grant
abbrev pub denial_of : List ℕ → Nodes → SessionTable → Holder → Access → Option Rejection
denial_of fs tree sessions k access = if is_granted fs tree sessions k access then None else Some (ByPolicy access (failures fs tree sessions k access))

abbrev pub rejection_by : Scene → Option Refusal → Option Need → Option Refusal → Option Rejection
rejection_by s (Some refusal) denied later = Some (ByTest refusal)
rejection_by s None (Some n) later = Some (ByPolicy n.access (failures s.fs s.tree s.sessions n.holder n.access))
rejection_by s None None later = option_map ByTest later

-- what rejects a request: a test; or an access without a grant, with the rule by which each grant fails first; or nothing
abbrev pub rejection_of : Scene → List Test → List Need → List Test → Option Rejection
rejection_of s tests needed more = rejection_by s (first_failing tests) (first_denied s needed) (first_failing more)

-- what rejects an event: the tests before policy, then policy, then the tests behind it
abbrev pub judged : Scene → Event → Option Rejection
judged s e = rejection_of s (before s e) (needs s e) (after s e)

-- what is answered to a request that is rejected
abbrev pub rejection_reply : Rejection → Reply
rejection_reply (ByPolicy access rules) = Reply.Denied access rules
rejection_reply (ByTest refusal) = Reply.Refused refusal
