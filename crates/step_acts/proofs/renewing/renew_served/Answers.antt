use Rattle.std.proofs.Common.{◌≡◌, ◌⊎◌, inl, inr, false, sym, ap, subst, ◌∙◌, ◌==◌}
use Rattle.std.specs.FinSet as set
use Rattle.lockmachine.specs.Scene.{plain}
use Rattle.step_acts.proofs.Common.{ArePermitted, Nodes, Operation, Rmdir, Unlink, tree_after, tree_with}
use Rattle.step_acts.proofs.Renewed.{alike-far, alike-off, permitted-on, unserved}
use Rattle.step_acts.specs.Served.{is_rename}
use Rattle.step_acts.proofs.renewing.renew_served.Goals as goal

-- the tree is that of before
pub returns-in_default-clause-permitted : goal.returns-in_default-clause-permitted
returns-in_default-clause-permitted c = λ tree served are.
    let s = plain c.args.scene.now in
    subst (λ (t : Nodes). ArePermitted c.args.scene.now.table.kept s.fs t s.sessions s.table) (sym (served.after ∙ unserved tree c.args.request.now c.args.outcome.now c.in_default.not-Done)) are

pub returns-in-Get-clause-permitted : goal.returns-in-Get-clause-permitted
returns-in-Get-clause-permitted c = λ tree served are.
    let s = plain c.args.scene.now in
    subst (λ (t : Nodes). ArePermitted c.args.scene.now.table.kept s.fs t s.sessions s.table)
    (sym (served.after ∙ ap (tree_after tree c.args.request.now) c.in-Done.is ∙ ap (tree_with tree c.args.request.now.ino.0) c.in-Get.is)) are

pub returns-in-Alter-clause-permitted : goal.returns-in-Alter-clause-permitted
returns-in-Alter-clause-permitted c = λ tree served are.
    c.renew_changed.ensures.permitted tree (served.after ∙ ap (tree_after tree c.args.request.now) c.in-Done.is ∙ ap (tree_with tree c.args.request.now.ino.0) c.in-Alter.is) are

not_moved : (operation : Operation) → (operation ≡ Unlink) ⊎ (operation ≡ Rmdir) → is_rename operation ≡ false
not_moved operation (inl is) = ap is_rename is
not_moved operation (inr is) = ap is_rename is

pub returns-in-Unlink-clause-permitted : goal.returns-in-Unlink-clause-permitted
returns-in-Unlink-clause-permitted c = λ tree served are.
    permitted-on c.args.scene.now.fs tree c.args.scene.now.tree c.args.scene.now.sessions c.args.scene.now.table.entries c.args.scene.now.table.kept c.renew_on.new.table.kept (λ n. n == c.args.request.now.ino.0)
    c.renew_on.ensures.renews
    (λ k e there off. alike-off tree c.args.request.now c.args.outcome.now c.args.affected.now (plain c.args.scene.now) served (not_moved c.args.request.now.operation c.in-Unlink.is) k off) are

pub returns-in-Rename-clause-permitted : goal.returns-in-Rename-clause-permitted
returns-in-Rename-clause-permitted c = λ tree served are.
    permitted-on c.args.scene.now.fs tree c.args.scene.now.tree c.args.scene.now.sessions c.args.scene.now.table.entries c.args.scene.now.table.kept c.renew_on_each.new.table.kept (set.contains c.args.affected.now)
    c.renew_on_each.ensures.renews (alike-far tree c.args.request.now c.args.outcome.now c.args.affected.now (plain c.args.scene.now) served (ap is_rename c.in-Rename.is)) are
