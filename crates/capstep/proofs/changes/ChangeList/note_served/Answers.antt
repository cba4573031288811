use Rattle.std.proofs.Common.{◌≡◌, List, ℕ, sym, ap, ◌∙◌}
use Rattle.capbits.specs.declared.ids.Ino.{Ino}
use Rattle.inotree.specs.Calls.{moved}
use Rattle.inotree.specs.Inodes.{with_site}
use Rattle.inotree.specs.Tree.{Nodes}
use Rattle.inotree.specs.declared.node.Site.TheVariants.{Under}
use Rattle.lockmachine.specs.declared.request.Operation.TheVariants.{Rename}
use Rattle.lockmachine.specs.declared.request.Request.{Request}
use Rattle.capstep.specs.declared.outcome.Outcome.{Outcome}
use Rattle.capstep.specs.declared.outcome.Outcome.TheVariants.{Done}
use Rattle.capstep.proofs.Noting.{leads-not_there, leads-site, leads-unlinked, stands}
use Rattle.capstep.specs.Changing.{tree_after, tree_with}
use Rattle.capstep.proofs.changes.ChangeList.note_served.Goals as goal

pub returns-in-Unlink-clause-lead : goal.returns-in-Unlink-clause-lead
returns-in-Unlink-clause-lead c = λ before is. rw c.push-in-Unlink.ensures.items (leads-unlinked c.args.self.now.items before c.args.tree.now c.args.request.now c.args.outcome.now c.in-Done.is c.in-Unlink.is is)

-- the tree after a rename
renamed : (before after : Nodes) (q : Request) (o : Outcome) (dir : Ino) (name : List ℕ) → o ≡ Done → q.operation ≡ Rename dir name → after ≡ tree_after before q o → after ≡ moved before q.ino.0 dir.0 name
renamed before after q o dir name done asked is = is ∙ ap (tree_after before q) done ∙ ap (tree_with before q.ino.0) asked

pub returns-in-Under-clause-lead : goal.returns-in-Under-clause-lead
returns-in-Under-clause-lead c = λ before is.
    rw c.push.ensures.items
    (leads-site c.args.self.now.items before c.args.tree.now c.args.request.now.ino c.in-Rename.dir.0 c.in-Rename.name
    (renamed before c.args.tree.now c.args.request.now c.args.outcome.now c.in-Rename.dir c.in-Rename.name c.in-Done.is c.in-Rename.is is) c.in-Some.node.now (sym c.in-Some.ensures.node) c.in-Under.dir
    c.copy-name.result (c.in-Under.is ∙ ap (Under c.in-Under.dir) (sym c.copy-name.ensures)))

pub returns-in_default-clause-lead : goal.returns-in_default-clause-lead
returns-in_default-clause-lead c = λ before is.
    leads-not_there c.args.self.now.items before c.args.tree.now c.args.request.now.ino (with_site (Under c.in-Rename.dir c.in-Rename.name))
    (renamed before c.args.tree.now c.args.request.now c.args.outcome.now c.in-Rename.dir c.in-Rename.name c.in-Done.is c.in-Rename.is is) (sym c.in_default.ensures.node)

-- it stands in a directory
pub returns-in_default-site-clause-lead : goal.returns-in_default-site-clause-lead
returns-in_default-site-clause-lead c = λ before is.
    absurd (c.in_default-site.not-Under c.in-Rename.dir c.in-Rename.name
    (stands c.args.self.now.items before c.args.tree.now c.args.request.now.ino c.in-Rename.dir.0 c.in-Rename.name
    (renamed before c.args.tree.now c.args.request.now c.args.outcome.now c.in-Rename.dir c.in-Rename.name c.in-Done.is c.in-Rename.is is) c.in-Some.node.now (sym c.in-Some.ensures.node)))
