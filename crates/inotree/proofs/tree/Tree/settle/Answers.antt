use Rattle.std.proofs.Common.{refl}
use Rattle.inotree.specs.Inodes.{with_attr}
use Rattle.inotree.proofs.Changes.{consistent-any, consistent_at}
use Rattle.inotree.proofs.Inner.{attr_good}
use Rattle.inotree.proofs.tree.Tree.settle.Goals as goal

pub invariant_of-self : goal.invariant_of-self
invariant_of-self c =
    consistent_at c.self.inside.heights _ _ c.self.inside.last _ _ c.settle.ensures refl
    (consistent-any c.self.inside.heights c.self.inside.inodes c.self.inside.last c.args.ino.0 (with_attr c.args.attr) c.self.inside.names c.self.invariant.0 c.self.invariant.1 (λ y. refl) (λ y. refl) (attr_good c.args.attr))
