use Rattle.std.proofs.Common.{◌≡◌, ◌++◌, drop}
use Rattle.cluster_audit.specs.Conflicts.{conflicts_of}
use Rattle.cluster_audit.proofs.conflict.conflicts.Given as goal

abbrev pub invariant-loop-place : goal.invariant-loop-place
invariant-loop-place l = l.found.items ++ conflicts_of (drop l.place l.holdings) ≡ conflicts_of l.holdings
