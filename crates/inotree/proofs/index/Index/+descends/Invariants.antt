use Rattle.std.proofs.Common.{false, ◌≡◌, ◌-◌}
use Rattle.std.specs.List.{list_any}
use Rattle.inotree.specs.Index.{index_descends}
use Rattle.inotree.proofs.index.Index.+descends.Given as goal

abbrev pub decreases-descends : goal.decreases-descends
decreases-descends l = l.steps

abbrev pub invariant-loop-child : goal.invariant-loop-child
invariant-loop-child l = list_any (λ p. index_descends (l.steps - 1) l.self p.1.now) l.yielded ≡ false
