use Rattle.std.proofs.Common.{◌≡◌, ◌≤◌, ◌-◌, length, take, map}
use Rattle.capspec.specs.Paths.{slashed}
use Rattle.capspec.proofs.shared_prefix.within.Given as goal

abbrev pub invariant-loop-at : goal.invariant-loop-at
invariant-loop-at l = record {
  count : l.at.count ≤ l.most;
  fits : l.at.size ≤ l.bytes;
  size : l.at.size ≡ length (slashed (take l.at.count (map (λ name. name.now) l.names)));
}

abbrev pub decreases-loop-at : goal.decreases-loop-at
decreases-loop-at l = l.most - l.at.count
