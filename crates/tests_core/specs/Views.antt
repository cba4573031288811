-- Views of trees and sessions, what they are told, and what they answer.
use Rattle.std.specs.Prelude.{ℕ, Bool, true, false, Option, Some, None, Result, Ok, Err, List, [], ◌∷◌, codes}
use Rattle.std.specs.List.{fold}
use Rattle.std.specs.FinMap as map
use Rattle.capspec.specs.declared.flags.Flags4.TheVariants.{R, Rw, Rws}
use Rattle.capspec.specs.declared.grant.Grant.{Grant}
use Rattle.capgrant.specs.declared.access.Access.{Access}
use Rattle.capgrant.specs.declared.access.Attr.{Attr}
use Rattle.capgrant.specs.declared.answer.Verdict.{Verdict}
use Rattle.capgrant.specs.Question.{question}
use Rattle.capgrant.specs.Verdict.{verdict_of}
use Rattle.inotree.specs.Alike.{attr_of}
use Rattle.inotree.specs.Calls.{changed}
use Rattle.inotree.specs.Inodes.{with_snapshot}
use Rattle.inotree.specs.Tree.{path_of, presence}
use Rattle.inotree.specs.declared.node.Presence.{Presence}
use Rattle.inotree.specs.declared.node.Presence.TheVariants as presences
use Rattle.policy_view.specs.Changes.{view_by}
use Rattle.policy_view.specs.Visible.{ConnectedClient, connected_client}
use Rattle.policy_view.specs.declared.answer.Question.{Question}
use Rattle.policy_view.specs.declared.answer.Unknown.{Unknown}
use Rattle.policy_view.specs.declared.answer.Unknown.TheVariants as unknown
use Rattle.policy_view.specs.declared.change.ViewChange.{ViewChange}
use Rattle.policy_view.specs.declared.change.ViewChange.TheVariants as change
use Rattle.policy_view.specs.declared.view.View.{View}
use Rattle.tests_core.specs.Trees.{root_alone, with_directory}
use Rattle.tests_core.specs.Verdicts.{allow, caller, owned}

-- ---- what is told

-- an inode is made in a directory, under a name
abbrev pub is_made : ℕ → ℕ → List ℕ → Attr → Bool → ViewChange
is_made ino dir name attr is_dir = change.Born (record { 0 = ino }) (record { 0 = dir }) name attr is_dir

-- a directory or a file of user 10's, who alone may write to it
abbrev pub made_directory : ℕ → ℕ → List ℕ → ViewChange
made_directory ino dir name = is_made ino dir name (owned 10 10 0o640) true

abbrev pub made_file : ℕ → ℕ → List ℕ → ViewChange
made_file ino dir name = is_made ino dir name (owned 10 10 0o640) false

abbrev pub is_moved : ℕ → ℕ → List ℕ → ViewChange
is_moved ino dir name = change.Moved (record { 0 = ino }) (record { 0 = dir }) name

abbrev pub is_removed : ℕ → ViewChange
is_removed ino = change.Removed (record { 0 = ino })

abbrev pub is_forgotten : ℕ → ViewChange
is_forgotten ino = change.Forgotten (record { 0 = ino })

abbrev pub is_settled : ℕ → Attr → ViewChange
is_settled ino attr = change.Settled (record { 0 = ino }) attr

-- a client is connected as the user and the one group of this number
abbrev pub is_opened : ℕ → ℕ → List Grant → ViewChange
is_opened client user grants = change.Opened (record { 0 = client }) (caller user user) grants

abbrev pub is_ended : ℕ → ViewChange
is_ended client = change.Ended (record { 0 = client })

abbrev pub is_regranted : ℕ → List Grant → ViewChange
is_regranted client grants = change.Regranted (record { 0 = client }) grants

-- ---- what is asked, and answered

abbrev pub asks : ℕ → ℕ → Access → Question
asks client ino access = record { client = record { 0 = client }; ino = record { 0 = ino }; access = access }

-- who asks, where it is connected; whether there is the inode; and its path, its owner, group and mode, where it has them
abbrev pub answered : Option ConnectedClient → Presence → Option (List (List ℕ)) → Option Attr → Access → Result Verdict Unknown
answered None _ path attr access = Err unknown.NoSession
answered (Some by) presences.NoIno path attr access = Err unknown.NoIno
answered (Some by) presences.Gone path attr access = Err unknown.Gone
answered (Some by) presences.Here (Some path) (Some attr) access = Ok (verdict_of (question (codes "cephfs") by.caller path attr access) by.grants)
answered (Some by) presences.Here (Some path) None access = Err unknown.NoView
answered (Some by) presences.Here None attr access = Err unknown.NoView

-- the answer of a view
abbrev pub answer : View → Question → Result Verdict Unknown
answer view asked =
    let nodes = view.tree.nodes in
    let ino = asked.ino.0 in
    answered (connected_client view.sessions asked.client.0) (presence nodes ino) (path_of nodes ino) (attr_of nodes ino) asked.access

-- ---- views

-- of a root alone, which is user 0's, where nobody is connected
abbrev pub nobody : View
nobody = record { tree = root_alone; sessions = map.empty }

-- and of a directory, 2, which has a snapshot
abbrev pub with_snapshot_kept : View
with_snapshot_kept = record nobody { tree = changed (with_snapshot (codes "s")) (with_directory root_alone 1 (codes "d")) 2 }

abbrev pub view_after : View → List ViewChange → View
view_after view changes = fold view_by view changes

-- one client may do all, and a third one in `a`; a directory `a`, 2, with a file `x`, 4, and a directory `b`, 3
abbrev pub two_directories : View
two_directories = view_after nobody (
    is_opened 1 10 (allow Rw ∷ [])
    ∷ is_opened 3 30 (record (allow Rw) { path = codes "a" ∷ [] } ∷ [])
    ∷ made_directory 2 1 (codes "a")
    ∷ made_directory 3 1 (codes "b")
    ∷ made_file 4 2 (codes "x")
    ∷ [])

-- the file is moved into the other directory, and that one with it into the first
abbrev pub file_moved : View
file_moved = view_after two_directories (is_moved 4 3 (codes "y") ∷ [])

abbrev pub all_moved : View
all_moved = view_after file_moved (is_moved 3 2 (codes "c") ∷ [])

-- a client may do all; a file `f`, 2
abbrev pub one_file_seen : View
one_file_seen = view_after nobody (is_opened 1 10 (allow Rw ∷ []) ∷ made_file 2 1 (codes "f") ∷ [])

-- the file becomes a stray; is forgotten; there is another, 3, and the client goes; and comes again, to read
abbrev pub file_removed : View
file_removed = view_after one_file_seen (is_removed 2 ∷ [])

abbrev pub file_forgotten : View
file_forgotten = view_after file_removed (is_forgotten 2 ∷ [])

abbrev pub client_gone : View
client_gone = view_after file_forgotten (made_file 3 1 (codes "f") ∷ is_ended 1 ∷ [])

abbrev pub client_reads : View
client_reads = view_after client_gone (is_opened 1 10 (allow R ∷ []) ∷ [])

-- a client may do what the mode bits let user 10 do; a file `f`, 2, with this owner, group and mode
abbrev pub by_mode_bits : Attr → View
by_mode_bits attr = view_after nobody (is_opened 1 10 (record (allow Rw) { uid = Some 10 } ∷ []) ∷ made_file 2 1 (codes "f") ∷ is_settled 2 attr ∷ [])

-- of two clients that may do all, the first may then read; then it may do all, and take snapshots
abbrev pub first_reads : View
first_reads = view_after nobody (is_opened 1 10 (allow Rw ∷ []) ∷ is_opened 2 20 (allow Rw ∷ []) ∷ is_regranted 1 (allow R ∷ []) ∷ is_regranted 9 (allow Rw ∷ []) ∷ [])

abbrev pub first_keeps_snapshots : View
first_keeps_snapshots = view_after first_reads (is_regranted 1 (allow Rws ∷ []) ∷ [])

-- a directory that had a snapshot is gone, and there is another one, 3
abbrev pub without_snapshot_kept : View
without_snapshot_kept = view_after with_snapshot_kept (is_opened 1 10 (allow Rw ∷ []) ∷ is_removed 2 ∷ is_forgotten 2 ∷ made_directory 3 1 (codes "d") ∷ [])
