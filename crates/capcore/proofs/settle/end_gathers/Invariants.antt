use Rattle.std.proofs.Common.{◌≡◌, ◌<◌, ℕ, List, true, false}
use Rattle.std.specs.FinMap as map
use Rattle.std.specs.FinSet as set
use Rattle.capcore.proofs.CommonPieces.{AreCounted, Nodes, Part, SessionTable, WaitAt, may_end_by, scene}
use Rattle.capcore.proofs.Sweeping.{behind}
use Rattle.capcore.specs.Sweep.{IsSwept}
use Rattle.capcore.proofs.settle.end_gathers.Given as goal

abbrev pub decreases-inodes : goal.decreases-inodes
decreases-inodes l = behind l.affected l.at.0

abbrev pub invariant-inodes : goal.invariant-inodes
invariant-inodes l = record {
  swept : (fs : List ℕ) (tree : Nodes) (sessions : SessionTable) → WaitAt (set.contains l.affected) (scene fs tree sessions l.table.entries l.fn.locks.locks)
      → IsSwept (set.contains l.affected) (scene fs tree sessions l.table.entries l.fn.locks.locks) (scene fs tree sessions l.table.entries l.locks.locks);
  same : (other : ℕ) → set.contains l.affected other ≡ false → map.get l.locks.locks.states other ≡ map.get l.fn.locks.locks.states other;
  lower : (other : ℕ) (part : Part) → other < l.at.0 → may_end_by l.table.entries l.locks.locks (other, part) ≡ false;
  counted : AreCounted l.table.entries l.locks;
  here : set.contains l.affected l.at.0 ≡ true;
}
