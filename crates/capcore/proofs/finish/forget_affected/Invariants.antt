use Rattle.std.proofs.Common.{◌≡◌, ◌≤◌, ◌+◌, length}
use Rattle.std.specs.List.{fold}
use Rattle.capcore.proofs.CommonPieces.{LeadOn, plain}
use Rattle.capcore.proofs.Strays.{forget_on}
use Rattle.capcore.specs.Begun.{AreCountedIn}
use Rattle.capcore.proofs.finish.forget_affected.Given as goal

abbrev pub decreases-inodes : goal.decreases-inodes
decreases-inodes l = length l.walk

-- what is left to do makes of the scene what all makes of the one at first
abbrev pub invariant-inodes : goal.invariant-inodes
invariant-inodes l = record {
  left : fold forget_on (plain l.scene) l.walk ≡ fold forget_on (plain l.fn.scene) l.initial.walk;
  table : l.scene.table ≡ l.fn.scene.table;
  counted : AreCountedIn l.fn.scene → AreCountedIn l.scene;
  queue : l.scene.locks.locks.queue ≡ l.fn.scene.locks.locks.queue;
  lead : LeadOn l.fn.changes.items l.changes.items l.fn.scene.tree l.scene.tree;
  places : length l.changes.items + length l.walk ≤ l.changes.room;
}
