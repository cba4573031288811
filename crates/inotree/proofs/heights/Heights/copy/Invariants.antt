use Rattle.std.proofs.Common.{map}
use Rattle.std.specs.Map.Iter.{deref}
use Rattle.std.specs.Cmp.{nat_cmp_total}
use Rattle.std.specs.FinMap as fin
use Rattle.capbits.proofs.Copies.{IsCopiedAt}
use Rattle.inotree.proofs.heights.Heights.copy.Given as goal

abbrev pub invariant-loop-dir : goal.invariant-loop-dir
invariant-loop-dir l = IsCopiedAt nat_cmp_total fin.nat_cmp-IsAntisymmetric l.self (map deref l.yielded) l.made
