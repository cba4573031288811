use Rattle.std.specs.Prelude.{◌≡◌, IfSome}
use Rattle.lockmachine.specs.Counts.{AreCounted}
use Rattle.lockmachine.specs.Scene.{scene_by, wanted_in_all}
use Rattle.lockmachine.proofs.Settling.{SoFar, moves_left}
use Rattle.lockmachine.proofs.locks.Locks.advance_at.Given as goal

abbrev pub decreases-moves : goal.decreases-moves
decreases-moves l = moves_left (scene_by l.policy l.table.entries l.self.locks) l.fn.ino.0

abbrev pub invariant-moves : goal.invariant-moves
invariant-moves l = SoFar (scene_by l.policy l.table.entries l.fn.self.locks) (scene_by l.policy l.table.entries l.self.locks) l.fn.ino.0
    × IfSome l.wanted (λ wants. wants ≡ wanted_in_all (scene_by l.policy l.table.entries l.self.locks) l.fn.ino.0)
    × AreCounted l.table.entries l.self
