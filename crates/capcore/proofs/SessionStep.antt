-- What the step of a client's session leaves by itself.
use Rattle.std.proofs.Common.{◌≡◌, ◌≤◌, ◌-◌, ℕ, ◌+◌, Bool, Option, Some, is_some, option_to_list, List, length, refl, sym, ap, subst, ◌∙◌, arith, vec_capacity}
use Rattle.std.proofs.lemmas.List.Sums.{count_by-le-length, length-filter}
use Rattle.std.specs.FinSet as set
use Rattle.capstep.specs.NotedChanges.{HavePlaces}
use Rattle.capcore.specs.SessionChange.{HasInodesOf}
use Rattle.capcore.specs.declared.settle.Affected.TheVariants.{Inodes}
use Rattle.capcore.proofs.Begun.{begun-entries}
use Rattle.capcore.proofs.Closing.{affects-settles}
use Rattle.capcore.proofs.Common.{Affects, AreChanges, AreCountedIn, ArePermittedIn, ClientId, Direct, DueEndings, Ended, Entry, Event, HasRoom, HaveRoomFor}
use Rattle.capcore.proofs.Common.{HoldAlike, Holder, InoSet, IsJudged, IsLockMap, IsTable, LockMap, Scene, SessionChange, State, StepOutput, StillKnown}
use Rattle.capcore.proofs.Common.{ViewChange, alike-less, direct, dropped_by, entry_at, is_end, judged, known_of, locks_left, messages_left, plain}
use Rattle.capcore.proofs.Common.{session_changed, session_event, still-knows, still-there, view_of, without_requests_of-stays}
use Rattle.capcore.proofs.Granted.{left-was}
use Rattle.capcore.proofs.SessionChanged.{direct-session_changed, session_changed-affects, session_changed-below, session_changed-last, session_changed-made}
use Rattle.capcore.proofs.SessionChanged.{session_changed-table, session_direct}
use Rattle.capcore.specs.UnderWay.{GivesOne, HasBegun, MayBegin, state_of}
use Rattle.capcore.specs.declared.parts.ReplyDue.TheVariants.{Dropped}
use Rattle.capcore.specs.declared.parts.CoreState.{CoreState}

-- ---- no more are left than there were

pub few-waiting : (b : Bool) (locks : LockMap) (client : ClientId) → length (locks_left b locks client).queue ≤ length locks.queue
few-waiting b locks client = grind (arith, length-filter, count_by-le-length)

pub few-messages : (b : Bool) (messages : List Ended) (client : ClientId) → length (messages_left b messages client) ≤ length messages
few-messages b messages client = grind (arith, length-filter, count_by-le-length)

-- and at most one change is noted
pub noted-few : (change : Option ViewChange) → length (option_to_list change) ≤ 1
noted-few change = grind arith

-- ---- the order of the locks stays

left-order : (b : Bool) (locks : LockMap) (client : ClientId) → IsLockMap locks → IsLockMap (locks_left b locks client)
left-order b locks client order = grind (arith, without_requests_of-stays)

-- ---- an event that nothing rejects

module _ (p q : CoreState) (output : StepOutput) (client : ClientId) (change : SessionChange) (may : MayBegin p (session_event client change)) (is : plain q.scene ≡ (session_changed (state_of p) client change).scene)
    (left : q.messages.items ≡ messages_left (is_end change) p.messages.items client) (inos : InoSet) (has_inodes : HasInodesOf client p.scene.table.entries p.scene.locks.locks inos)
    (kept : (k : Holder) (f : Entry) → entry_at q.scene.table.entries k ≡ Some f → known_of q.scene.table.kept k ≡ known_of p.scene.table.kept k) (permitted : ArePermittedIn q.scene.table.kept (plain q.scene)) (counted : AreCountedIn q.scene) where
  abbrev e : Event
  e = session_event client change

  abbrev old : State
  old = state_of p

  abbrev from : ℕ → Bool
  from = set.contains inos

  by_itself : direct old e ≡ session_direct old client change
  by_itself = direct-session_changed old client change may.passed

  state_is : state_of q ≡ session_changed old client change
  state_is = λ i. record { scene = is i; messages = left i }

  affects : Affects from old (state_of q)
  affects = subst (Affects from old) (sym state_is) (session_changed-affects old client change may.whole.0 may.table from has_inodes.entries has_inodes.requests)

  table : IsTable q.scene.table.entries
  table = subst (λ (s : Scene). IsTable s.table) (sym is) (session_changed-table (is_end change) p.scene.table.entries client may.table)

  gives : GivesOne old e
  gives = grind (arith, by_itself, session_changed-below, session_changed-made, session_changed-last)

  -- each entry is as it was
  alike : HoldAlike p.scene.table.entries q.scene.table.entries
  alike = subst (λ (s : Scene). HoldAlike p.scene.table.entries s.table) (sym is) (λ k f there. (f, left-was (is_end change) p.scene.table.entries client k f there, refl))

  still : StillKnown p.scene.table.entries q.scene.table.entries p.scene.table.kept q.scene.table.kept
  still = still-there p.scene.table.entries q.scene.table.entries p.scene.table.kept q.scene.table.kept (λ k f there. ap is_some (alike k f there).1) kept

  order : IsLockMap q.scene.locks.locks
  order = subst (λ (s : Scene). IsLockMap s.locks) (sym is) (left-order (is_end change) p.scene.locks.locks client may.order)

  pub change-begun : (dropped : DueEndings) → dropped.items ≡ dropped_by (is_end change) p.scene.locks.locks client → HaveRoomFor (length q.scene.locks.locks.queue) output
      → IsJudged output.judged (plain q.scene) → HavePlaces output.changes q.scene.locks.locks inos → HasRoom q.messages q.scene.locks.locks → length dropped.items + length q.scene.locks.locks.queue ≤ vec_capacity dropped
      → AreChanges output.changes.items (view_of old) (view_of (state_of q)) → HasBegun p e (record { affected = Inodes inos; reply_due = Dropped dropped }) q output
  change-begun dropped dropped_is room judged at left_room places noted =
      let by_rule : state_of q ≡ (direct old e).state = state_is ∙ sym (ap (λ (d : Direct). d.state) by_itself) in
      record {
        is = by_rule;
        reply_due = sym (ap (λ (d : Direct). d.reply_due) by_itself);
        dropped = dropped_is ∙ sym (ap (λ (d : Direct). d.dropped) by_itself);
        number = ap (λ (s : Scene). s.locks.last) is ∙ session_changed-last (is_end change) p.scene.locks.locks client;
        affects = affects;
        table = table;
        gives = gives;
        still = still;
        knows = still-knows p.scene.table.kept q.scene.table.kept (plain p.scene) q.scene.table.entries may.whole.2.0 still table (alike-less p.scene.table.entries q.scene.table.entries alike);
        ready = record {
          settles = affects-settles from old (state_of q) may.whole.0 affects order;
          judged = judged;
          entries = begun-entries p q e from may by_rule affects gives permitted;
          room = room;
          at = at;
        };
        counted = counted;
        room = left_room;
        places = places;
        noted = noted;
      }
