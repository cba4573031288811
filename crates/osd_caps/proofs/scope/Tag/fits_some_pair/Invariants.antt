use Rattle.std.proofs.Common.{◌≡◌, false, take}
use Rattle.std.specs.List.{list_any}
use Rattle.osd_caps.specs.Opening.{fits_pair}
use Rattle.osd_caps.proofs.scope.Tag.fits_some_pair.Given as goal

abbrev pub invariant-loop-pair : goal.invariant-loop-pair
invariant-loop-pair l = list_any (fits_pair l.self) (take l.pair-index l.pairs) ≡ false
