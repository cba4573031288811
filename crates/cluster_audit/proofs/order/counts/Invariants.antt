use Rattle.std.proofs.Common.{◌≡◌, take}
use Rattle.std.specs.List.{flat_map}
use Rattle.cluster_audit.specs.Order.{counted_line}
use Rattle.cluster_audit.proofs.order.counts.Given as goal

abbrev pub invariant-loop-kind : goal.invariant-loop-kind
invariant-loop-kind l = l.text.items ≡ flat_map (counted_line l.shape l.lines) (take l.kind-index l.kinds)
