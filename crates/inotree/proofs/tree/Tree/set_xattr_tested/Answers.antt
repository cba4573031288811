use Rattle.std.proofs.Common.{◌≡◌, false, refl, ap, ◌∙◌}
use Rattle.inotree.specs.Names.{is_bad_attribute}
use Rattle.capbits.specs.Maps.{change_at}
use Rattle.inotree.specs.Inodes.{InodeMap, with_attribute}
use Rattle.inotree.proofs.Changes.{consistent-any, consistent_at}
use Rattle.inotree.proofs.Inner.{attribute_good}
use Rattle.inotree.proofs.Passing.{passed-set_xattr}
use Rattle.inotree.proofs.Results.{either}
use Rattle.inotree.proofs.tree.Tree.set_xattr_tested.Goals as goal

pub invariant_of-self : goal.invariant_of-self
invariant_of-self c =
    let m : InodeMap = c.self.inside.inodes in
    let passed = passed-set_xattr c.args.self.now c.args.ino.0 c.args.name.now c.args.value.now c.requires.passed in
    let good : is_bad_attribute c.of.result ≡ false = ap is_bad_attribute c.of.ensures ∙ passed in
    either c.set_attribute.result c.set_attribute.ensures.ok c.set_attribute.ensures.err
    (λ (done : c.set_attribute.new.self ≡ change_at (with_attribute c.of.result c.in_ok-value.value) m c.args.ino.0).
    consistent_at c.self.inside.heights _ _ c.self.inside.last _ _ done refl
    (consistent-any c.self.inside.heights m c.self.inside.last c.args.ino.0 (with_attribute c.of.result c.in_ok-value.value) c.self.inside.names c.self.invariant.0 c.self.invariant.1 (λ y. refl) (λ y. refl) (attribute_good c.of.result c.in_ok-value.value good)))
    (λ (same : c.set_attribute.new.self ≡ m). consistent_at c.self.inside.heights _ _ c.self.inside.last _ _ same refl (c.self.invariant.0, c.self.invariant.1))
