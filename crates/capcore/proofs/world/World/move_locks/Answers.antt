use Rattle.std.proofs.Common.{◌≡◌, ◌+◌, ◌++◌, List, length, sym, ap, subst, ◌∙◌, arith}
use Rattle.std.proofs.lemmas.List.{length-append}
use Rattle.capstep.specs.NotedChanges.{Noted}
use Rattle.capstep.specs.Recorded.{twice}
use Rattle.capcore.proofs.Begun.{ended-known, ended-numbers, ended-replied, few-earlier, fewer-places, shown-counted, shown-rest, shown-stays}
use Rattle.capcore.proofs.Closing.{ends-sessions}
use Rattle.capcore.proofs.Common.{AreChanges, AreCounted, ClientViews, Ended, Event, IsLockMap, IsReplied, IsSound, IsTable, KeptScene, NumbersLeft, Scene}
use Rattle.capcore.proofs.Common.{SessionTable, State, StepOutput, Table, changes-still, plain, shown, view, view_of}
use Rattle.capcore.proofs.Rejections.{judged-at, rejection-replied}
use Rattle.capcore.proofs.world.World.move_locks.Goals.{After-close, After-end}
use Rattle.capcore.specs.UnderWay.{AreKept, HasBegun, MayBegin, direct_reply_of, earlier_of, event_of, state_of}
use Rattle.capcore.specs.declared.parts.Applied.{Applied}
use Rattle.capcore.specs.declared.parts.CoreState.{CoreState}
use Rattle.capcore.proofs.world.World.move_locks.Goals as goal

-- ---- an event that is rejected

pub returns-in-Some-clause-replied : goal.returns-in-Some-clause-replied
returns-in-Some-clause-replied c =
    let s = c.args.self.now in
    rejection-replied s (event_of c.args.lock_event.now) c.in-Some.rejection c.alone.result (subst IsSound c.self.view_is c.self.invariant.0) c.requires.table
    (judged-at _ s (event_of c.args.lock_event.now) c.rejection.result c.self.view_is (c.rejection.ensures c.self.invariant.2.0) ∙ c.in-Some.is)
    (c.alone.ensures.reply ∙ ap twice c.into_reply.ensures.reply) c.alone.ensures.ended

pub returns-in-Some-clause-changes : goal.returns-in-Some-clause-changes
returns-in-Some-clause-changes c = changes-still c.clear.new.self.items (view_of c.args.self.now) c.clear.ensures.items

-- ---- one that nothing rejects

pub begin-requires : goal.begin-requires
begin-requires c = record {
  may = record {
    whole = c.self.invariant;
    table = subst (λ (s : State). IsTable s.scene.table) (sym c.self.view_is) c.requires.table;
    order = subst (λ (s : State). IsLockMap s.scene.locks) (sym c.self.view_is) c.requires.locks;
    numbers = subst NumbersLeft (sym c.self.view_is) c.requires.numbers;
    passed = sym (c.rejection.ensures c.self.invariant.2.0) ∙ c.in_default.is;
  };
}

pub end-requires : goal.end-requires
end-requires c = let begun = c.in_ok-affected.ensures.begun in record { ready = begun.ready; counted = begun.counted }

-- ---- the end of the step

module _ (c : After-end) where
  abbrev p : CoreState
  p = c.self.inside.parts

  abbrev q : CoreState
  q = c.begin.new.self

  abbrev last : CoreState
  last = record c.begin.new.self { scene = c.end.new.scene }

  abbrev output : StepOutput
  output = c.begin.new.output

  abbrev ended_now : List Ended
  ended_now = c.end.new.output.given.items

  abbrev e : Event
  e = event_of c.args.lock_event.now

  abbrev effect : Applied
  effect = c.in_ok-affected.field-0

  may : MayBegin p e
  may = record {
    whole = c.self.invariant;
    table = subst (λ (s : State). IsTable s.scene.table) (sym c.self.view_is) c.requires.table;
    order = subst (λ (s : State). IsLockMap s.scene.locks) (sym c.self.view_is) c.requires.locks;
    numbers = subst NumbersLeft (sym c.self.view_is) c.requires.numbers;
    passed = sym (c.rejection.ensures c.self.invariant.2.0) ∙ c.in_default.is;
  }

  begun : HasBegun p e effect q output
  begun = c.in_ok-affected.ensures.begun

  kept : AreKept last.scene.table.kept (plain last.scene)
  kept = let ends = c.end.ensures.ends in (ended-known p q output e effect may begun last.scene.table.kept (plain last.scene) ended_now ends, ends.permitted)

pub close-requires : goal.close-requires
close-requires g =
    let c = (goal.at.close-requires g).After-end in
    record {
      differ = ended-numbers (p c) (q c) (output c) (e c) (effect c) (may c) (begun c) (last c).scene.table.kept (plain (last c).scene) (ended_now c) c.end.ensures.ends;
      recorded = c.end.ensures.recorded;
      room = omega (arith, c.end.ensures.count, (begun c).room);
      places = fewer-places (effect c).reply_due (length (q c).scene.locks.locks.queue) (length (ended_now c)) (omega (arith, c.end.ensures.count)) (begun c).places;
      known = (kept c).0;
    }

module _ (g : After-close) where
  abbrev c : After-end
  c = (goal.at.returns-clause-replied g).After-end

  abbrev new : CoreState
  new = g.close.new.self

  abbrev left : List Ended
  left = (q c).messages.items ++ earlier_of (effect c).reply_due (ended_now c)

  abbrev closed : State
  closed = record { scene = plain (last c).scene; messages = left }

  items : new.messages.items ≡ left
  items = g.close.ensures.messages

  new_is : state_of new ≡ shown (direct_reply_of (effect c).reply_due) closed
  new_is = (λ i. record { scene = plain new.scene; messages = items i }) ∙ g.close.ensures.shown left

  rest : plain new.scene ≡ record (plain (last c).scene) { table = (shown (direct_reply_of (effect c).reply_due) closed).scene.table }
  rest = ap (λ (s : State). s.scene) new_is ∙ shown-rest (effect c).reply_due closed

  whole : IsReplied (state_of (p c)) (e c) g.close.result (state_of new)
  whole =
      ended-replied (p c) (q c) (output c) (e c) (effect c) (may c) (begun c) (last c).scene.table.kept (plain (last c).scene) (ended_now c) g.end.ensures.ends g.close.result (state_of new)
      (g.close.ensures.reply left) g.close.ensures.ended new_is

pub returns-clause-replied : goal.returns-clause-replied
returns-clause-replied g = subst (λ (s : State). IsReplied s (e (c g)) g.close.result (state_of (new g))) g.self.view_is (whole g)

pub invariant_of-self-2 : goal.invariant_of-self-2
invariant_of-self-2 g =
    let w = whole g in
    let items = ap length (items g) ∙ length-append (q (c g)).messages.items (earlier_of (effect (c g)).reply_due (ended_now (c g))) in
    let few = few-earlier (effect (c g)).reply_due (ended_now (c g)) in
    let queue = ap (λ (s : Scene). length s.locks.queue) (rest g) in (
      w.sound,
      omega (arith, items, few, queue, g.close.ensures.room, g.end.ensures.count, (begun (c g)).room),
      subst (λ (s : Scene). AreKept (new g).scene.table.kept s) (sym (ap (λ (s : State). s.scene) (new_is g)))
          (subst (λ (sets : ClientViews). AreKept sets (shown (direct_reply_of (effect (c g)).reply_due) (closed g)).scene) (sym (ap (λ (s : KeptScene). s.table.kept) g.close.ensures.rest))
          (shown-stays (effect (c g)).reply_due (closed g) (last (c g)).scene.table.kept (kept (c g)))),
      subst (AreCounted (new g).scene.table.entries) (sym (ap (λ (s : KeptScene). s.locks) g.close.ensures.rest))
          (subst (λ (t : Table). AreCounted t (last (c g)).scene.locks) (sym (ap (λ (s : State). s.scene.table) (new_is g)))
          (shown-counted (effect (c g)).reply_due (closed g) (last (c g)).scene.locks g.end.ensures.counted)),
    )

pub returns-clause-changes : goal.returns-clause-changes
returns-clause-changes g =
    let changes = g.end.new.output.changes.items in
    let first : State = state_of (p (c g)) in
    let all : AreChanges changes (view_of first) (view (last (c g)).scene.tree (q (c g)).scene.sessions.sessions) =
    g.end.ensures.lead.on (view_of first) (q (c g)).scene.sessions.sessions (begun (c g)).noted in
    let stay : (new g).scene.sessions ≡ (q (c g)).scene.sessions = ap (λ (s : Scene). s.sessions) (rest g) ∙ ends-sessions _ _ _ _ _ _ g.end.ensures.ends in
    subst (λ (s : State). AreChanges g.close.new.output.changes.items (view_of s) (view_of (state_of (new g)))) g.self.view_is
    (subst (λ (noted : Noted). AreChanges noted.items (view_of first) (view_of (state_of (new g)))) (sym g.close.ensures.changes)
    (subst (λ (t : SessionTable). AreChanges changes (view_of first) (view (new g).scene.tree t.sessions)) (sym stay)
    (rw (ap (λ (s : Scene). s.tree) (rest g)) all)))
