use Rattle.std.proofs.Common.{map}
use Rattle.std.specs.Map.Iter.{deref}
use Rattle.std.specs.Cmp.{nat_cmp_total}
use Rattle.std.specs.FinMap as fin
use Rattle.capbits.proofs.Copies.{IsCopiedAt}
use Rattle.sessiontab.proofs.connected.Connected.copy.Given as goal

abbrev pub invariant-loop-client : goal.invariant-loop-client
invariant-loop-client l = IsCopiedAt nat_cmp_total fin.nat_cmp-IsAntisymmetric l.self (map deref l.yielded) l.made
