-- A change of one value in a finite map.
use Rattle.std.specs.declared.cmp.Ordering.{Ordering}
use Rattle.std.specs.FinMap as map
use Rattle.std.specs.FinMap.{FinMap}
use Rattle.std.specs.Option.{option_map_or}

-- the map with its value at k changed by f, where it has one
abbrev pub change_at : {K X : Type 0} {R : K → K → Ordering} → (X → X) → FinMap R X → K → FinMap R X
change_at f m k = option_map_or (λ x. map.insert m k (f x)) (map.get m k) m
