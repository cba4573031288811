use Rattle.std.proofs.Common.{◌≡◌, ◌<◌, false, nat_le}
use Rattle.std.specs.List.{list_any}
use Rattle.inotree.specs.Heights.{AreAllKnown, AreNoHigher, HeightsRise, height}
use Rattle.inotree.specs.Index.{index_descends}
use Rattle.inotree.proofs.heights.Heights.+lower.Given as goal

abbrev pub decreases-lower : goal.decreases-lower
decreases-lower l = l.steps

abbrev pub invariant-loop-child : goal.invariant-loop-child
invariant-loop-child l = HeightsRise l.inodes l.self × AreNoHigher l.inodes l.fn.self l.self × (list_any (λ p. nat_le l.most (height l.inodes l.self p.1.now)) l.yielded ≡ false)
    × (AreAllKnown l.inodes l.fn.self → index_descends l.steps l.names l.dir ≡ false → l.most < l.steps)
