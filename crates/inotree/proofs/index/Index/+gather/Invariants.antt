use Rattle.std.proofs.Common.{◌≡◌, ◌-◌, ◌∷◌, ◌++◌}
use Rattle.std.specs.List.{flat_map}
use Rattle.inotree.specs.Index.{gathered}
use Rattle.inotree.proofs.index.Index.+gather.Given as goal

abbrev pub decreases-gather : goal.decreases-gather
decreases-gather l = l.steps

abbrev pub invariant-loop-child : goal.invariant-loop-child
invariant-loop-child l = l.found.items ≡ l.fn.found.items ++ record { 0 = l.ino } ∷ flat_map (λ p. gathered (l.steps - 1) l.self p.1.now) l.yielded
