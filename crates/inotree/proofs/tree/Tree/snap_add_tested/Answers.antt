use Rattle.std.proofs.Common.{◌≡◌, false, refl, ap, ◌∙◌}
use Rattle.inotree.specs.Names.{is_bad_name}
use Rattle.capbits.specs.Maps.{change_at}
use Rattle.inotree.specs.Inodes.{InodeMap, with_snapshot}
use Rattle.inotree.proofs.Changes.{consistent-any, consistent_at}
use Rattle.inotree.proofs.Inner.{snapshot_good}
use Rattle.inotree.proofs.Passing.{passed-snap_add}
use Rattle.inotree.proofs.Results.{either}
use Rattle.inotree.proofs.tree.Tree.snap_add_tested.Goals as goal

pub invariant_of-self : goal.invariant_of-self
invariant_of-self c =
    let m : InodeMap = c.self.inside.inodes in
    let passed = passed-snap_add c.args.self.now c.args.ino.0 c.args.name.now c.requires.passed in
    let good : is_bad_name c.of.result ≡ false = ap is_bad_name c.of.ensures ∙ passed in
    either c.add_snapshot.result c.add_snapshot.ensures.ok c.add_snapshot.ensures.err
    (λ (done : c.add_snapshot.new.self ≡ change_at (with_snapshot c.of.result) m c.args.ino.0).
    consistent_at c.self.inside.heights _ _ c.self.inside.last _ _ done refl
    (consistent-any c.self.inside.heights m c.self.inside.last c.args.ino.0 (with_snapshot c.of.result) c.self.inside.names c.self.invariant.0 c.self.invariant.1 (λ y. refl) (λ y. refl) (snapshot_good c.of.result good)))
    (λ (same : c.add_snapshot.new.self ≡ m). consistent_at c.self.inside.heights _ _ c.self.inside.last _ _ same refl (c.self.invariant.0, c.self.invariant.1))
