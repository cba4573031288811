-- A path that was read into a list, and is lent where there is one.
use Rattle.std.proofs.Common.{◌≡◌, Bool, true, false, None, Some, Bor, refl}
use Rattle.std.specs.Prelude.{if◌then◌else◌}
use Rattle.std.specs.Bool.{then_some}
use Rattle.std.specs.Option.{option_copied}

pub lent-where : {A : Type 0} (there : Bool) (names : Bor A) → option_copied (then_some there names) ≡ (if there then Some names.now else None)
lent-where true names = refl
lent-where false names = refl
