-- What the core promises of every step, in the words of its users.
use Rattle.std.specs.List.{find, list_any}
use Rattle.std.specs.Option.{option_map, option_map_or}
use Rattle.std.specs.Prelude.{◌≡◌, ◌==◌, ◌≤◌, ℕ, Bool, true, false, ◌||◌, ◌&&◌, IsTrue, IsFalse, List, [], ◌∷◌, ◌++◌, length, map, Option, Some, None, is_some}
use Rattle.std.specs.Prelude.{if◌then◌else◌}
use Rattle.capbits.specs.Caps.{has}
use Rattle.capbits.specs.Refusal.{Test, first_failing}
use Rattle.capbits.specs.Sets.{IsSubset, no_caps, of_part}
use Rattle.capbits.specs.declared.cap.Cap.{Cap}
use Rattle.capbits.specs.declared.cap.Part.{Part}
use Rattle.capgrant.specs.declared.access.Access.{Access}
use Rattle.capgrant.specs.declared.rule.Rule.{Rule}
use Rattle.captable.specs.Table.{is_row_of}
use Rattle.captable.specs.declared.entry.EntryRow.{EntryRow}
use Rattle.captable.specs.declared.entry.Holder.{Holder}
use Rattle.locktable.specs.Conflicts.{conflict}
use Rattle.locktable.specs.Rows.{row_of}
use Rattle.locktable.specs.declared.states.LockState.{LockState}
use Rattle.locktable.specs.declared.states.LockState.TheVariants.{Gather, Stable}
use Rattle.locktable.specs.declared.states.StableState.{StableState}
use Rattle.capstep.specs.declared.event.Event.{Event}
use Rattle.capstep.specs.declared.outcome.Outcome.{Outcome}
use Rattle.capstep.specs.declared.reply.Reply.{Reply}
use Rattle.lockmachine.specs.Locks.{LockMap, lock_at}
use Rattle.lockmachine.specs.Moves.{is_open}
use Rattle.lockmachine.specs.Policy.{failures, permitted}
use Rattle.lockmachine.specs.Requests.{same_part}
use Rattle.lockmachine.specs.Runs.{AreFew}
use Rattle.lockmachine.specs.Scene.{Scene, against}
use Rattle.lockmachine.specs.declared.moves.Move.{Move}
use Rattle.lockmachine.specs.declared.moves.Move.TheVariants.{Begin, End, Serve}
use Rattle.lockmachine.specs.declared.request.Request.{Request}
use Rattle.capstep.specs.Finish.{issuable}
use Rattle.capstep.specs.Judge.{before, first_denied, needs}
use Rattle.capstep.specs.Needs.{Need}
use Rattle.capstep.specs.Operations.{operation_before, operation_needs}
use Rattle.capstep.specs.Settle.{Began, Gathered, Made, MakesAll, Served, ended_in}

-- ---- denials

-- where the tests pass: the first of the accesses that has no grant, and the rule by which each grant fails first
abbrev pub denial : Scene → List Test → List Need → Option (Access × List Rule)
denial s tests needed =
    if is_some (first_failing tests) then None
    else option_map (λ n. (n.access, failures s.fs s.tree s.sessions n.holder n.access)) (first_denied s needed)

-- the access and the rules of an answer that is a denial
abbrev pub denied_in : Reply → Option (Access × List Rule)
denied_in (Reply.Denied access rules) = Some (access, rules)
denied_in reply = None

-- and of an outcome that is one
abbrev pub denied_as : Outcome → Option (Access × List Rule)
denied_as (Outcome.Denied access rules) = Some (access, rules)
denied_as outcome = None

-- an event is denied exactly if it passes the tests that stand before policy and an access that it needs has no grant; and the
-- denial names the first such access, and the rule by which each grant fails first
abbrev pub DeniedExactly : Scene → Event → Reply → Type 0
DeniedExactly s e reply = denied_in reply ≡ denial s (before s e) (needs s e)

-- so is each request that these moves serve, on the scene in which it is served
abbrev pub ServedDenied : Scene → List Made → Type 0
ServedDenied first moves =
    (before_it behind_it : List Made) (q : Request) (o : Outcome) (s : Scene) →
    moves ≡ before_it ++ Served q o ∷ behind_it → MakesAll first before_it s →
    denied_as o ≡ denial s (operation_before s q.ino.0 q.operation) (operation_needs s q.client q.ino.0 q.operation)

-- whether the answer is a denial or a refusal
abbrev pub is_rejection : Reply → Bool
is_rejection (Reply.Denied access rules) = true
is_rejection (Reply.Refused refusal) = true
is_rejection reply = false

-- ---- the moves of a step

-- a move that was made, as a move of the locks
abbrev pub move_of : Made → Move
move_of (Began ino part to) = Begin ino part to
move_of (Gathered ino part) = End ino part
move_of (Served q o) = Serve q.ticket

-- they serve at most as many requests as wait, and between two servings each lock begins at most one gather and ends at most two
pub record AreBounded (first : Scene) (moves : List Made) : Type 0 where
  pub served : length (ended_in moves) ≤ length first.locks.queue
  pub between : (before_it some behind_it : List Made) → moves ≡ before_it ++ (some ++ behind_it) → ended_in some ≡ [] → AreFew (map move_of some)

-- the move begins or ends a gather of this lock
abbrev pub is_of_lock_at : ℕ → Part → Made → Bool
is_of_lock_at ino part (Began i p to) = (ino == i.0) && same_part part p
is_of_lock_at ino part (Gathered i p) = (ino == i.0) && same_part part p
is_of_lock_at ino part (Served q o) = false

-- each lock that is there at the end, and that none of the moves begins or ends a gather of, is as it was right after the event
abbrev pub OtherLocksStay : LockMap → Scene → List Made → Type 0
OtherLocksStay last first moves =
    (ino : ℕ) (part : Part) (lock : LockState) → IsFalse (list_any (is_of_lock_at ino part) moves) →
    lock_at last ino part ≡ Some lock → lock_at first.locks ino part ≡ Some lock

-- ---- caps

-- the client holds the cap on the inode
abbrev pub holds : Scene → Holder → Cap → Bool
holds s k cap = option_map_or (λ row. has row.entry.held cap) (find (is_row_of k) s.table.rows) false

-- the client effectively wants it, and the locks allow it
abbrev pub is_issuable : Scene → Holder → Cap → Bool
is_issuable s k cap = option_map_or (λ row. has (issuable s row) cap) (find (is_row_of k) s.table.rows) false

-- what is held at the end is what was held after the event, and what is wanted, permitted and allowed at the end
abbrev pub IssuesExactly : Scene → Scene → Type 0
IssuesExactly first last = (k : Holder) (cap : Cap) → holds last k cap ≡ (holds first k cap || is_issuable last k cap)

-- what the entry holds of the part is in the row of this state
abbrev pub IsInRow : EntryRow → Part → StableState → Type 0
IsInRow row part state = IsSubset (of_part part row.entry.held) (row_of part state row.holder.client)

-- what it holds of the part outside the row of this state is being revoked, and keeps a gather to this state open. This holds
-- by the definition of "being revoked" (`against`, `is_open`) in every scene: no step could break it. What refuses a wrong step
-- is the row
abbrev pub IsRevoked : Scene → EntryRow → Part → StableState → Type 0
IsRevoked s row part to =
    (cap : Cap) → IsTrue (has (of_part part row.entry.held) cap) → IsFalse (has (row_of part to row.holder.client) cap) →
    IsTrue (has (against s row) cap) × IsTrue (is_open s row.holder.ino.0 part to)

-- it is in the row of the state in which the part's lock is, or which the lock leaves; and where the lock gathers, what is
-- outside the row of its target is being revoked
abbrev pub IsInPlace : Scene → EntryRow → Part → Option LockState → Type 0
IsInPlace s row part None = IsSubset (of_part part row.entry.held) no_caps
IsInPlace s row part (Some (Stable state)) = IsInRow row part state
IsInPlace s row part (Some (Gather from to)) = IsInRow row part from × IsRevoked s row part to

-- of each entry and each part
abbrev pub AreInPlace : Scene → Type 0
AreInPlace s =
    (row : EntryRow) (part : Part) → find (is_row_of row.holder) s.table.rows ≡ Some row →
    IsInPlace s row part (lock_at s.locks row.holder.ino.0 part)

-- what is held and is not permitted, by the grants of now and where the inode stands now, is being revoked. This holds by the
-- definition of "being revoked" (`against`) in every scene: no step could break it. What refuses a wrong step is what its client
-- was shown (`ShowsWhatIsPending`, `ShowsOnlyPermitted`)
abbrev pub AreRevoked : Scene → Type 0
AreRevoked s =
    (row : EntryRow) (cap : Cap) → find (is_row_of row.holder) s.table.rows ≡ Some row → IsTrue (has row.entry.held cap) →
    IsFalse (has (permitted s.fs s.tree s.sessions row.holder) cap) → IsTrue (has (against s row) cap)

-- no two clients hold what may not be held together
abbrev pub NoneConflict : Scene → Type 0
NoneConflict s =
    (a b : Holder) (c d : Cap) → IsFalse (a.client.0 == b.client.0) → a.ino ≡ b.ino →
    IsTrue (holds s a c) → IsTrue (holds s b d) → IsFalse (conflict c d)
