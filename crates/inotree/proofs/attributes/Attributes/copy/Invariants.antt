use Rattle.std.proofs.Common.{map}
use Rattle.std.specs.Map.Iter.{deref_pair}
use Rattle.inotree.proofs.Order.{name_same, name_total}
use Rattle.capbits.proofs.Copies.{IsCopied}
use Rattle.inotree.proofs.attributes.Attributes.copy.Given as goal

abbrev pub invariant-loop-name : goal.invariant-loop-name
invariant-loop-name l = IsCopied name_total name_same l.self (map deref_pair l.yielded) l.made
