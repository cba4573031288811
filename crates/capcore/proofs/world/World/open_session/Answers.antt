use Rattle.std.proofs.Common.{[], ◌∷◌, refl, sym, ap, subst, ◌∙◌}
use Rattle.capstep.proofs.Noting.{changes-one}
use Rattle.capcore.proofs.Common.{AreChanges, State, ViewChange, changes-still, view_of}
use Rattle.capcore.proofs.world.World.open_session.Goals as goal

pub returns-in-Some-clause-changes : goal.returns-in-Some-clause-changes
returns-in-Some-clause-changes c = changes-still c.clear.new.self.items (view_of c.args.self.now) c.clear.ensures.items

pub returns-clause-changes : goal.returns-clause-changes
returns-clause-changes c =
    subst (λ (s : State). AreChanges c.start.new.self.items (view_of c.args.self.now) (view_of s)) (sym c.in_default-connect.ensures.ok)
    (changes-one [] c.start.new.self.items (view_of c.args.self.now) (ViewChange.Opened c.args.client c.args.caller.now c.args.grants.now) refl
    (c.start.ensures.items ∙ ap (λ opening. opening ∷ []) c.in_ok-opening.ensures))
