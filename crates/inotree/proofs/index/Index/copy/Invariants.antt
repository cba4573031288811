use Rattle.std.proofs.Common.{map}
use Rattle.std.specs.Map.Iter.{deref_pair}
use Rattle.inotree.proofs.Slots.{slot_same, slot_total}
use Rattle.capbits.proofs.Copies.{IsCopied}
use Rattle.inotree.proofs.index.Index.copy.Given as goal

abbrev pub invariant-loop-slot : goal.invariant-loop-slot
invariant-loop-slot l = IsCopied slot_total slot_same l.self (map deref_pair l.yielded) l.made
