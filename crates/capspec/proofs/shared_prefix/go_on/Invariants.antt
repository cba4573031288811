use Rattle.std.proofs.Common.{length, ◌-◌, map}
use Rattle.capspec.specs.SharedPrefix.{Begins}
use Rattle.capspec.proofs.shared_prefix.go_on.Given as goal

abbrev pub invariant-loop-at : goal.invariant-loop-at
invariant-loop-at l = Begins (map (λ name. name.now) l.names) l.text l.at

abbrev pub decreases-loop-at : goal.decreases-loop-at
decreases-loop-at l = length l.names - l.at.count
