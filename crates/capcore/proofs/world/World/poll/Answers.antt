use Rattle.std.proofs.Common.{◌≡◌, ◌≤◌, [], List, length, filter, Some, refl, sym, ap, subst, ◌∙◌, arith}
use Rattle.std.proofs.lemmas.List.Sums.{count_by-le-length, length-filter}
use Rattle.capstep.proofs.Twice.{both-twice}
use Rattle.capcore.proofs.Telling.{given-held}
use Rattle.capstep.specs.DueEndings.{AreEndsOf}
use Rattle.capcore.proofs.Common.{AreChanges, AreCounted, ByTest, Ended, Event, IsReplied, IsSound, IsTable, KeptTable, Message, Reply, State, StepReply}
use Rattle.capcore.proofs.Common.{after_messages, alike-where, changed_where, changes-still, first_failing, first_messages, is_left, is_of_client, plain}
use Rattle.capcore.proofs.Common.{rejection-before, session_tests, view_of, with_given}
use Rattle.capcore.proofs.Counts.{counted-where}
use Rattle.capcore.proofs.Polled.{poll-answered, polled-new}
use Rattle.capcore.proofs.Rejections.{rejection-replied}
use Rattle.capcore.proofs.Unaffected.{alike-kept}
use Rattle.capcore.proofs.world.World.poll.Goals.{After-drop-told}
use Rattle.capcore.specs.UnderWay.{AreKept}
use Rattle.capcore.proofs.world.World.poll.Goals as goal

-- ---- no open session

pub returns-in-Some-clause-replied : goal.returns-in-Some-clause-replied
returns-in-Some-clause-replied c =
    let s = c.args.self.now in
    let sound : IsSound s = subst IsSound c.self.view_is c.self.invariant.0 in
    let failed : first_failing (session_tests s.scene.sessions c.args.client.0) ≡ Some c.in-Some.refusal =
    ap (λ (w : State). first_failing (session_tests w.scene.sessions c.args.client.0)) (sym c.self.view_is) ∙ sym c.session_refusal.ensures ∙ c.in-Some.is in
    rejection-replied s (Event.Poll c.args.client c.args.max) (ByTest c.in-Some.refusal) c.alone.result sound c.requires.table
    (rejection-before s.scene (session_tests s.scene.sessions c.args.client.0) [] [] c.in-Some.refusal failed)
    c.alone.ensures.reply c.alone.ensures.ended

-- ---- an open session

module _ (c : After-drop-told) where
  -- the state before the event
  abbrev old : State
  old = record { scene = plain c.self.inside.parts.scene; messages = c.self.inside.parts.messages.items }

  -- and behind it
  abbrev new : State
  new = record { scene = record old.scene { table = c.skip_not_due.new.self.entries }; messages = c.remove_given.new.due.items }

  abbrev step_reply : StepReply
  step_reply = record { reply = record { given = Reply.Messages c.in_ok-given.given; recorded = Reply.Messages c.in_ok-recorded.recorded }; ended = c.new.result }

  first : c.in_ok-given.given ≡ first_messages old c.args.client c.args.max
  first = c.in_ok-given.ensures old refl refl c.self.invariant.2.0 (sym c.as_slice-ended.ensures.value)

  same : c.in_ok-recorded.recorded ≡ first_messages old c.args.client c.args.max
  same = c.in_ok-recorded.ensures ∙ c.as_slice.ensures ∙ first

  kept_items : c.remove_given.new.due.items ≡ filter (is_left c.args.client c.in_ok-given.given) old.messages
  kept_items =
      c.remove_given.ensures.items c.in_ok-given.given
      (subst (λ (given : List Message). AreEndsOf given c.in_ok-told.told) c.as_slice-2.ensures c.in_ok-told.ensures)

  all : c.skip_not_due.new.self ≡ record c.self.inside.parts.scene.table { entries = changed_where (is_of_client c.args.client) (after_messages c.in_ok-given.given) old.scene.table }
  all =
      c.skip_not_due.ensures ∙ c.give.ensures
      ∙ ap (λ (given : List Message). record c.self.inside.parts.scene.table { entries = changed_where (is_of_client c.args.client) (after_messages given) old.scene.table }) c.as_slice-3.ensures

  told : c.skip_not_due.new.self.entries ≡ changed_where (is_of_client c.args.client) (after_messages c.in_ok-given.given) old.scene.table
  told = ap (λ (t : KeptTable). t.entries) all

  left : with_given old c.args.client (first_messages old c.args.client c.args.max) ≡ new
  left = polled-new old c.self.invariant.0 (subst (λ (s : State). IsTable s.scene.table) (sym c.self.view_is) c.requires.table) c.args.client c.args.max c.in_ok-given.given c.skip_not_due.new.self.entries c.remove_given.new.due.items first told kept_items

  whole : IsReplied old (Event.Poll c.args.client c.args.max) step_reply new
  whole =
      subst (IsReplied old (Event.Poll c.args.client c.args.max) step_reply) left
      (poll-answered old c.self.invariant.0 (subst (λ (s : State). IsTable s.scene.table) (sym c.self.view_is) c.requires.table) c.args.client c.args.max step_reply (sym c.session_refusal.ensures ∙ c.in_default.is)
      (both-twice _ _ _ (ap Reply.Messages first) (ap Reply.Messages same)) c.new.ensures)

pub invariant_of-self : goal.invariant_of-self
invariant_of-self c =
    let w = whole c in
    let items = c.self.inside.parts.messages.items in
    let few : length c.remove_given.new.due.items ≤ length items =
    subst (λ (n : List Ended). length n ≤ length items) (sym (kept_items c))
    (omega (arith, length-filter (is_left c.args.client c.in_ok-given.given) items, count_by-le-length (is_left c.args.client c.in_ok-given.given) items)) in (
      w.sound,
      omega (arith, few, c.remove_given.ensures.room, c.self.invariant.1),
      subst (λ (t : KeptTable). AreKept t.kept (record (old c).scene { table = t.entries })) (sym (all c))
          (alike-kept c.self.inside.parts.scene.table.kept (old c).scene (changed_where (is_of_client c.args.client) (after_messages c.in_ok-given.given) (old c).scene.table)
          (alike-where (is_of_client c.args.client) (after_messages c.in_ok-given.given) (old c).scene.table (given-held c.in_ok-given.given)) c.self.invariant.2),
      subst (λ (t : KeptTable). AreCounted t.entries c.self.inside.parts.scene.locks) (sym (all c))
          (counted-where (after_messages c.in_ok-given.given) (given-held c.in_ok-given.given) (is_of_client c.args.client) (old c).scene.table c.self.inside.parts.scene.locks c.self.invariant.3),
    )

pub returns-clause-replied : goal.returns-clause-replied
returns-clause-replied c =
    subst (λ (s : State). IsReplied s (Event.Poll c.args.client c.args.max) (step_reply c) (new c)) c.self.view_is (whole c)

pub returns-in-Some-clause-changes : goal.returns-in-Some-clause-changes
returns-in-Some-clause-changes c = changes-still c.clear.new.self.items (view_of c.args.self.now) c.clear.ensures.items

pub returns-clause-changes : goal.returns-clause-changes
returns-clause-changes c = subst (λ (s : State). AreChanges c.clear-2.new.self.items (view_of s) (view_of (new c))) c.self.view_is (changes-still c.clear-2.new.self.items (view_of (old c)) c.clear-2.ensures.items)
