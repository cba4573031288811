use Rattle.std.proofs.Common.{refl, ap, ◌∙◌}
use Rattle.inotree.specs.Tree.{Nodes, presence}
use Rattle.inotree.proofs.Changes.{consistent-forgotten, consistent_at}
use Rattle.inotree.proofs.Passing.{gone_site}
use Rattle.inotree.proofs.Rising.{removed_same}
use Rattle.inotree.proofs.tree.Tree.forget.Goals as goal

pub invariant_of-self : goal.invariant_of-self
invariant_of-self c =
    consistent_at c.remove-2.new.self _ _ c.self.inside.last _ _ c.remove.ensures refl
    (consistent-forgotten c.self.inside.inodes c.self.inside.last c.args.ino.0 c.self.inside.names c.self.inside.heights c.remove-2.new.self c.self.invariant.0 c.self.invariant.1
    (removed_same c.self.inside.heights c.remove-2.new.self c.args.ino.0 c.remove-2.ensures)
    (gone_site c.self.inside.inodes c.args.ino.0 (ap (λ (t : Nodes). presence t.nodes c.args.ino.0) c.self.view_is ∙ c.requires)))
