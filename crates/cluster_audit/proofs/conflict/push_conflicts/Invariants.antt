use Rattle.std.proofs.Common.{◌≡◌, ◌++◌, take}
use Rattle.std.specs.Prelude.{filter_map}
use Rattle.cluster_audit.specs.Conflicts.{conflict_of}
use Rattle.cluster_audit.proofs.conflict.push_conflicts.Given as goal

abbrev pub invariant-loop-other : goal.invariant-loop-other
invariant-loop-other l = l.found.items ≡ l.fn.found.items ++ filter_map (conflict_of l.one) (take l.other-index l.others)
