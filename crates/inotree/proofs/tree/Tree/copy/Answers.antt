use Rattle.std.proofs.Common.{subst, sym}
use Rattle.inotree.specs.Tree.{IsTree}
use Rattle.inotree.specs.Heights.{AreConsistent, HeightMap}
use Rattle.inotree.proofs.Changes.{consistent_at}
use Rattle.inotree.proofs.tree.Tree.copy.Goals as goal

pub invariant_of-result : goal.invariant_of-result
invariant_of-result c =
    subst (λ (heights : HeightMap). IsTree (record { nodes = c.in_ok-copy.field-0; last = c.self.inside.last }) × AreConsistent c.in_ok-copy.field-0 c.in_ok-copy-2.field-0 heights) (sym c.in_ok-copy-3.ensures)
    (consistent_at c.self.inside.heights c.self.inside.inodes c.in_ok-copy.field-0 c.self.inside.last c.self.inside.names c.in_ok-copy-2.field-0 c.in_ok-copy.ensures c.in_ok-copy-2.ensures (c.self.invariant.0, c.self.invariant.1))
