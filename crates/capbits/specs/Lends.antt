-- What the map ends as, where a `&mut` to one of its values is returned.
use Rattle.std.specs.Prelude.{Option, ℕ}
use Rattle.std.specs.Borrow.{Fml, LendsIf, MutBor, RattleType}
use Rattle.std.specs.FinMap as map
use Rattle.std.specs.FinMap.{FinMap}
use Rattle.std.specs.Ordering.{nat_cmp}
use Rattle.capbits.specs.contracts.numbered.Numbered.{the_row}

-- once the borrow r ends, the number has the last value written through r, and at `None` the map stays as it is
abbrev pub lends_get : (T : RattleType) → MutBor (FinMap nat_cmp T.Denot) → ℕ → Option (MutBor T.Denot) → Fml
lends_get T m number r = LendsIf (the_row T) T m r (map.insert m.now number) m.now
