use Rattle.std.proofs.Common.{map}
use Rattle.std.specs.Map.Iter.{deref}
use Rattle.inotree.proofs.Order.{name_same, name_total}
use Rattle.capbits.proofs.Copies.{IsCopiedSet}
use Rattle.inotree.proofs.snapshots.Snapshots.copy.Given as goal

abbrev pub invariant-loop-name : goal.invariant-loop-name
invariant-loop-name l = IsCopiedSet name_total name_same (map deref l.yielded) l.made
