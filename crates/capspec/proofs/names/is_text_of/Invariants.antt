use Rattle.std.proofs.Common.{◌≡◌, ◌≤◌, ◌++◌, length, take, drop, map}
use Rattle.capspec.specs.Paths.{slashed}
use Rattle.capspec.proofs.names.is_text_of.Given as goal

abbrev pub invariant-loop-left : goal.invariant-loop-left
invariant-loop-left l = (l.left ≤ length l.names) × (l.end ≤ length l.text) × (l.text ≡ take l.end l.text ++ slashed (map (λ name. name.now) (drop l.left l.names)))

abbrev pub decreases-loop-left : goal.decreases-loop-left
decreases-loop-left l = l.left
