use Rattle.std.proofs.Common.{◌≡◌}
use Rattle.std.specs.FinSet as set
use Rattle.capcore.proofs.CommonPieces.{plain}
use Rattle.capcore.proofs.Sweeping.{behind}
use Rattle.capcore.specs.Begun.{AreCountedIn}
use Rattle.capcore.specs.Sweep.{IsSwept, StandsAt}
use Rattle.capcore.proofs.settle.sweep.Given as goal

abbrev pub decreases-inodes : goal.decreases-inodes
decreases-inodes l = behind l.affected l.place.at.0

abbrev pub invariant-inodes : goal.invariant-inodes
invariant-inodes l = record {
  swept : IsSwept (set.contains l.affected) (plain l.fn.scene) (plain l.scene);
  stands : StandsAt (set.contains l.affected) l.place (plain l.scene);
  rest : l.scene ≡ record l.fn.scene { locks = l.scene.locks };
  counted : AreCountedIn l.scene;
}
