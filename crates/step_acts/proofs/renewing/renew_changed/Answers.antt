use Rattle.std.proofs.Common.{sym, subst, ◌∙◌, ◌==◌}
use Rattle.step_acts.proofs.Common.{IsAlike, Nodes}
use Rattle.step_acts.proofs.Renewed.{alike-unset, alike_change, other-number, permitted-on, permitted-still}
use Rattle.step_acts.proofs.renewing.renew_changed.Goals as goal

pub returns-then-sets_attr-clause-permitted : goal.returns-then-sets_attr-clause-permitted
returns-then-sets_attr-clause-permitted c = λ tree is are.
    permitted-on c.args.policy.now.fs.now tree c.args.policy.now.tree.now c.args.policy.now.sessions.now c.args.table.now.entries c.args.table.now.kept c.renew_on.new.table.kept (λ n. n == c.args.ino.0) c.renew_on.ensures.renews
    (λ k e there off. subst (λ (t : Nodes). IsAlike tree t k.ino.0) (sym is) (alike_change tree c.args.ino.0 k.ino.0 c.args.change.now (other-number k.ino.0 c.args.ino.0 off))) are

pub returns-else-sets_attr-clause-permitted : goal.returns-else-sets_attr-clause-permitted
returns-else-sets_attr-clause-permitted c = λ tree is are.
    permitted-still c.args.policy.now.fs.now tree c.args.policy.now.tree.now c.args.policy.now.sessions.now c.args.table.now.entries c.args.table.now.kept
    (λ other. subst (λ (t : Nodes). IsAlike tree t other) (sym is) (alike-unset tree c.args.ino.0 other c.args.change.now (sym c.sets_attr.ensures ∙ c.if-sets_attr.false))) are
