use Rattle.std.proofs.Common.{◌≡◌, ◌==◌, ◌&&◌, is_some, true, false, Some, refl, sym, ap, ◌∙◌}
use Rattle.step_acts.specs.Renewing.{has_entry}
use Rattle.capcore.proofs.Common.{KeptScene, permitted, permitted_of, plain}
use Rattle.capcore.proofs.Granted.{kept-permitted, other-permitted}
use Rattle.capcore.proofs.moving.renew_granted.Goals as goal

pub returns-in-Some-clause-permitted : goal.returns-in-Some-clause-permitted
returns-in-Some-clause-permitted c = λ old is was k e there.
    let s : KeptScene = c.args.scene.now in
    elim (k.client.0 == c.args.client.0) as (λ b. (k.client.0 == c.args.client.0) ≡ b → permitted_of c.renew_client.new.table.kept k ≡ Some (permitted s.fs s.tree s.sessions k)) [
      | true ↦ λ mine. c.renew_client.ensures.renews.anew k (λ i. mine i && is_some (there i))
      | false ↦ λ off.
          c.renew_client.ensures.renews.others k (ap (λ b. b && has_entry s.table.entries k) off)
          ∙ other-permitted s.table.kept old c.args.client c.args.change (plain s) is was k e there off
    ] refl

pub returns-in_default-clause-permitted : goal.returns-in_default-clause-permitted
returns-in_default-clause-permitted c = λ old is was. kept-permitted c.args.scene.now.table.kept old c.args.client c.args.change (plain c.args.scene.now) is was (sym c.in_default.ensures)
