use Rattle.std.proofs.Common.{◌≡◌, false, take}
use Rattle.std.specs.List.{list_any}
use Rattle.osd_caps.specs.Opening.{fits_application}
use Rattle.osd_caps.proofs.scope.Tag.fits_some.Given as goal

abbrev pub invariant-loop-application : goal.invariant-loop-application
invariant-loop-application l = list_any (fits_application l.self) (take l.application-index l.tags) ≡ false
