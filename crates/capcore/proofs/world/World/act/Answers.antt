use Rattle.std.proofs.Common.{sym, ap, subst, ◌∙◌}
use Rattle.capstep.proofs.Noting.{changes-unseen}
use Rattle.capcore.proofs.Common.{Event, IsDirect, State, changes-still, direct, view_of}
use Rattle.capcore.proofs.Effects.{looked-up}
use Rattle.capcore.proofs.world.World.act.Goals as goal

pub returns-in-Unblock-clause-changes : goal.returns-in-Unblock-clause-changes
returns-in-Unblock-clause-changes c = changes-unseen c.clear.new.self.items (view_of c.args.self.now) (view_of c.unblock.new.self) c.clear.ensures.items c.unblock.ensures.seen

pub returns-in-Lookup-clause-direct : goal.returns-in-Lookup-clause-direct
returns-in-Lookup-clause-direct c =
    let s : State = c.args.self.now in
    let client = c.in-Lookup.client in
    let dir = c.in-Lookup.dir in
    subst (λ (e : Event). IsDirect s e c.lookup.result s) (sym c.in-Lookup.is)
    (looked-up s client dir c.in-Lookup.name c.lookup.result
    (c.lookup.ensures c.self.inside.parts.scene.table.entries c.self.inside.parts.scene.locks.locks c.self.inside.parts.messages.items
    ∙ ap (λ (w : State). (direct w (Event.Lookup client dir c.as_slice.result.now)).reply_due) c.self.view_is
    ∙ ap (λ name. (direct s (Event.Lookup client dir name)).reply_due) c.as_slice.ensures))

pub returns-in-Lookup-clause-changes : goal.returns-in-Lookup-clause-changes
returns-in-Lookup-clause-changes c = changes-still c.clear-in-Lookup.new.self.items (view_of c.args.self.now) c.clear-in-Lookup.ensures.items

pub returns-in_ok-reply-in-MakeSnapshot-clause-changes : goal.returns-in_ok-reply-in-MakeSnapshot-clause-changes
returns-in_ok-reply-in-MakeSnapshot-clause-changes c =
    changes-unseen c.clear-in-MakeSnapshot.new.self.items (view_of c.args.self.now) (view_of c.make_snapshot.new.self) c.clear-in-MakeSnapshot.ensures.items c.in_ok-reply-in-MakeSnapshot.ensures.seen

pub returns-in-RemoveSnapshot-clause-changes : goal.returns-in-RemoveSnapshot-clause-changes
returns-in-RemoveSnapshot-clause-changes c =
    changes-unseen c.clear-in-RemoveSnapshot.new.self.items (view_of c.args.self.now) (view_of c.remove_snapshot.new.self) c.clear-in-RemoveSnapshot.ensures.items c.remove_snapshot.ensures.seen
