use Rattle.std.proofs.Common.{sym, ◌∙◌}
use Rattle.capstep.proofs.Noting.{leads-attr, leads-not_set, leads-not_there, leads-set}
use Rattle.capstep.proofs.changes.ChangeList.note_change.Goals as goal

pub returns-in-Some-clause-lead : goal.returns-in-Some-clause-lead
returns-in-Some-clause-lead c = λ before is.
    leads-set c.args.self.now.items before c.args.tree.now c.args.ino c.args.change.now (sym c.sets_attr.ensures ∙ c.if-sets_attr.true) is c.push.new.self.items
    (λ f kinds sites by. rw c.push.ensures.items (leads-attr c.args.self.now.items before c.args.tree.now c.args.ino f kinds sites by c.in-Some.node.now (sym c.in-Some.ensures.node)))

pub returns-in_default-clause-lead : goal.returns-in_default-clause-lead
returns-in_default-clause-lead c = λ before is.
    leads-set c.args.self.now.items before c.args.tree.now c.args.ino c.args.change.now (sym c.sets_attr.ensures ∙ c.if-sets_attr.true) is c.args.self.now.items
    (λ f kinds sites by. leads-not_there c.args.self.now.items before c.args.tree.now c.args.ino f by (sym c.in_default.ensures.node))

pub returns-else-sets_attr-clause-lead : goal.returns-else-sets_attr-clause-lead
returns-else-sets_attr-clause-lead c = λ before is.
    leads-not_set c.args.self.now.items before c.args.tree.now c.args.ino c.args.change.now (sym c.sets_attr.ensures ∙ c.if-sets_attr.false) is
