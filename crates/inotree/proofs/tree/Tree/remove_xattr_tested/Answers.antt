use Rattle.std.proofs.Common.{refl, subst}
use Rattle.inotree.specs.Inodes.{without_attribute}
use Rattle.inotree.specs.Tree.{IsTree}
use Rattle.inotree.proofs.Changes.{consistent-any, consistent_at}
use Rattle.inotree.proofs.Inner.{no_attribute_good}
use Rattle.inotree.proofs.Passing.{short_attribute}
use Rattle.inotree.proofs.tree.Tree.remove_xattr_tested.Goals as goal

pub invariant_of-self : goal.invariant_of-self
invariant_of-self c =
    consistent_at c.self.inside.heights _ _ c.self.inside.last _ _ c.remove_attribute.ensures refl
    (consistent-any c.self.inside.heights c.self.inside.inodes c.self.inside.last c.args.ino.0 (without_attribute c.in-Some.name) c.self.inside.names c.self.invariant.0 c.self.invariant.1 (λ y. refl) (λ y. refl) (no_attribute_good c.in-Some.name))

pub unreachable-requires : goal.unreachable-requires
unreachable-requires c =
    let fits = short_attribute c.args.self.now (subst IsTree c.self.view_is c.self.invariant.0) c.args.ino.0 c.args.name.now c.requires.passed in
    let read = c.in_default.ensures.valid.1 fits in
    cc
