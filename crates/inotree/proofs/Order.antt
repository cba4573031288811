-- The order of names is total, and only equal names tie.
use Rattle.std.specs.Cmp.{IsTotalOrder}
use Rattle.std.specs.Cmp.Lexicographic.{nat_list_cmp_total}
use Rattle.std.specs.FinMap as map
use Rattle.inotree.specs.Names.{name_cmp}

pub name_total : IsTotalOrder name_cmp
name_total = nat_list_cmp_total

pub name_same : map.IsAntisymmetric name_cmp
name_same = map.slice_cmp-IsAntisymmetric map.nat_cmp-IsAntisymmetric
