use Rattle.std.proofs.Common.{ap, subst, sym}
use Rattle.capstep.proofs.Twice.{both-twice}
use Rattle.capcore.proofs.Common.{AreChanges, Event, IsReplied, KeptTable, Reply, State, StepReply, changes-still, plain, view_of, with_table}
use Rattle.capcore.proofs.Counts.{recalled-counted}
use Rattle.capcore.proofs.Recalled.{recall-answered, recalled-sound, recalled-stays}
use Rattle.capcore.proofs.world.World.recall.Goals.{After-new}
use Rattle.capcore.specs.declared.parts.CoreState.{CoreState}
use Rattle.capcore.proofs.world.World.recall.Goals as goal

module _ (c : After-new) where
  -- the state before the event
  abbrev old : State
  old = record { scene = plain c.self.inside.parts.scene; messages = c.self.inside.parts.messages.items }

  -- and behind it
  abbrev new : State
  new = with_table old c.recall.new.self.entries

  abbrev step_reply : StepReply
  step_reply = record { reply = record { given = Reply.Recalled c.in_ok-named.named; recorded = Reply.Recalled c.in_ok-recorded.recorded }; ended = c.new.result }

  whole : IsReplied old (Event.Recall c.args.count) step_reply new
  whole =
      subst (λ t. IsReplied old (Event.Recall c.args.count) step_reply (with_table old t)) (sym (ap (λ (t : KeptTable). t.entries) c.in_ok-named.ensures.ok))
      (recall-answered old c.self.invariant.0 c.args.count step_reply c.first_to_recall.ensures.sound (both-twice _ _ _ (ap Reply.Recalled c.in_ok-named.ensures.named) (ap Reply.Recalled c.in_ok-recorded.ensures.named)) c.new.ensures)

pub invariant_of-self : goal.invariant_of-self
invariant_of-self c = rw c.in_err-named.ensures.err c.self.invariant

pub invariant_of-self-2 : goal.invariant_of-self-2
invariant_of-self-2 c =
    let p : CoreState = c.self.inside.parts in
    rw c.in_ok-named.ensures.ok (
      recalled-sound _ c.self.invariant.0 c.args.count,
      c.self.invariant.1,
      recalled-stays _ c.self.invariant.0 c.args.count p.scene.table.kept c.self.invariant.2,
      recalled-counted p.scene.table.entries c.args.count p.scene.locks c.self.invariant.3,
    )

pub returns-clause-replied : goal.returns-clause-replied
returns-clause-replied c = subst (λ (s : State). IsReplied s (Event.Recall c.args.count) (step_reply c) (new c)) c.self.view_is (whole c)

pub returns-clause-changes : goal.returns-clause-changes
returns-clause-changes c = subst (λ (s : State). AreChanges c.clear.new.self.items (view_of s) (view_of (new c))) c.self.view_is (changes-still c.clear.new.self.items (view_of (old c)) c.clear.ensures.items)
