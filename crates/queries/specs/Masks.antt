-- What a check asks for.
use Rattle.std.specs.Prelude.{ℕ, Bool, nat_lt, ◌&&◌, IsTrue, List}
use Rattle.capspec.specs.Items.{IsNumber}
use Rattle.capgrant.specs.declared.access.Access.{Access}
use Rattle.capgrant.specs.Masks.{accesses_in, is_known}
use Rattle.queries.specs.declared.mask.Mask.{Mask}
use Rattle.queries.specs.Checks.{CheckTexts}

-- there is a bit, and none but those of accesses
abbrev pub is_mask : ℕ → Bool
is_mask bits = nat_lt 0 bits && is_known bits

-- the bits that a check has, and the numbers that may belong to them
pub record AreNumbersOf (check : CheckTexts) (mask : Mask) : Type 0 where
  pub bits : IsNumber check.mask mask.bits
  pub uid : IsNumber check.new_uid mask.uid
  pub gid : IsNumber check.new_gid mask.gid

-- each of the bits has a meaning
pub record IsMaskOf (check : CheckTexts) (mask : Mask) : Type 0 where
  pub numbers : AreNumbersOf check mask
  pub known : IsTrue (is_mask mask.bits)

-- what the bits ask for, one access for each
abbrev pub accesses_of : Mask → List Access
accesses_of mask = accesses_in mask.bits mask.uid mask.gid
