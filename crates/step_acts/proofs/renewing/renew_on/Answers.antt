use Rattle.std.proofs.Common.{◌==◌, sym, refl, ◌∙◌}
use Rattle.step_acts.proofs.Common.{permitted}
use Rattle.step_acts.proofs.Renewed.{renews-nobody}
use Rattle.step_acts.proofs.renewing.renew_on.Goals as goal

pub returns-else-is_held : goal.returns-else-is_held
returns-else-is_held c = record {
  renews = renews-nobody (λ k. k.ino.0 == c.args.ino.0) (permitted c.args.policy.now.fs.now c.args.policy.now.tree.now c.args.policy.now.sessions.now) c.args.table.now.entries c.args.table.now.kept
      (sym c.is_held.ensures ∙ c.if-is_held.false);
  entries = refl;
}
