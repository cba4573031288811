use Rattle.std.proofs.Common.{◌∙◌, ◌≤◌, ℕ, List, Option, MatchOption, ap, sym, subst}
use Rattle.std.specs.Option.{option_copied_mut}
use mathlib.Core.List.{IsPrefix}
use Rattle.policy_view.specs.declared.change.ViewChange.{ViewChange}
use Rattle.policy_view.specs.Changes.{AreChanges}
use Rattle.capstep.specs.History.{CoreValue}
use Rattle.capstep.specs.Noted.{view_of}
use Rattle.capcore.specs.Promised.{IsPromised}
use Rattle.snapshot.specs.Publishing.{Publishing}
use Rattle.capserver.specs.Held.{IsHeld}
use Rattle.capserver.specs.Passes.{pass_id}
use Rattle.capserver.proofs.Holding.{begins_next, held_next, legal_of, room_of}
use Rattle.capserver.proofs.locked.Locked.step.Goals as goal

-- it is promised of the core. Under the lock the same is said of the value that contracts see
pub returns-clause-promised : goal.returns-clause-promised
returns-clause-promised g c =
    subst (λ (t : CoreValue). IsPromised t (pass_id c.args.pass.now) c.args.event c.in_ok-reply.reply c.make.new.core) c.self.view_is c.in_ok-reply.ensures.promised

-- ---- what is published next

pub follow-requires-clause-legal : goal.follow-requires-clause-legal
follow-requires-clause-legal g c =
    let o = g.L.Server.opening in
    legal_of o c.make.new.core c.history.result.now (c.in_ok-reply.ensures.promised.legal o c.self.invariant.2.replays) c.history.ensures.legal c.history.ensures.rows

pub follow-requires-clause-begins : goal.follow-requires-clause-begins
follow-requires-clause-begins g c =
    let held = subst (λ (q : Option Publishing). MatchOption q ⊥ (IsHeld c.self.inside.core c.self.inside.calls.total)) (sym c.as_mut.ensures.value ∙ ap option_copied_mut c.in-Some.is) c.self.invariant.4 in
    let before = c.in-Some.publisher.now.rows in
    subst (IsPrefix before) (sym c.history.ensures.rows) (begins_next c.self.inside.core c.make.new.core (pass_id c.args.pass.now) c.args.event c.in_ok-reply.reply before held.begins c.in_ok-reply.ensures.promised.next)

pub follow-requires-clause-room : goal.follow-requires-clause-room
follow-requires-clause-room g c =
    let held = subst (λ (q : Option Publishing). MatchOption q ⊥ (IsHeld c.self.inside.core c.self.inside.calls.total)) (sym c.as_mut.ensures.value ∙ ap option_copied_mut c.in-Some.is) c.self.invariant.4 in
    room_of c.make.new.core c.history.result.now (subst (λ (n : ℕ). n ≤ 4294967295) (sym c.in_ok-reply.ensures.promised.next.max_rows) held.room) c.history.ensures.legal c.history.ensures.rows

pub invariant_of-self-2 : goal.invariant_of-self-2
invariant_of-self-2 g c =
    let held = subst (λ (q : Option Publishing). MatchOption q ⊥ (IsHeld c.self.inside.core c.self.inside.calls.total)) (sym c.as_mut.ensures.value ∙ ap option_copied_mut c.in-Some.is) c.self.invariant.4 in
    let after = c.follow.new.self in
    let made = c.in_ok-reply.ensures.promised in
    let history = c.history.ensures in
    let led = c.self.invariant.2 in (
      c.self.invariant.0,
      c.self.invariant.1,
      record { replays = made.legal g.L.Server.opening led.replays; max_rows_is = made.next.max_rows ∙ led.max_rows_is },
      history.legal.legal.numbered,
      held_next c.self.inside.core c.make.new.core (pass_id c.args.pass.now) c.args.event c.in_ok-reply.reply c.self.inside.calls.total c.make.new.calls.total c.in-Some.publisher.now after c.last_changes.result.now held made.next c.in_ok-reply.ensures.book
          (subst (λ (changes : List ViewChange). AreChanges changes (view_of c.self.inside.core.state) (view_of c.make.new.core.state)) (sym c.last_changes.ensures) made.changes)
          (subst (IsPrefix after.rows) history.rows c.follow.ensures.begins) c.follow.ensures.lost (λ there. c.follow.ensures.rows there ∙ history.rows) c.follow.ensures.view,
    )
