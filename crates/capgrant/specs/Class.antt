-- The permission bits of a mode, for each class of callers.
use Rattle.std.specs.Prelude.{ℕ, Bool, not, ◌==◌, Option, Some, None, bit_and}
use Rattle.capgrant.specs.declared.access.Access.{Access}
use Rattle.capgrant.specs.declared.access.Access.TheVariants.{Read, SetVxattr, Snapshot, Write}
use Rattle.capgrant.specs.declared.class.Class.{Class}
use Rattle.capgrant.specs.declared.class.Class.TheVariants.{Group, Other, Owner}

-- the bit that lets the class read
abbrev pub read_bit : Class → ℕ
read_bit Owner = 0o400
read_bit Group = 0o040
read_bit Other = 0o004

-- the bit that lets the class write
abbrev pub write_bit : Class → ℕ
write_bit Owner = 0o200
write_bit Group = 0o020
write_bit Other = 0o002

-- the bit that a class needs for an access; to change the mode, the owner or the group takes none
abbrev pub needed_bit : Access → Class → Option ℕ
needed_bit Read class = Some (read_bit class)
needed_bit Write class = Some (write_bit class)
needed_bit SetVxattr class = Some (write_bit class)
needed_bit Snapshot class = Some (write_bit class)
needed_bit access class = None

-- the mode has the bit
abbrev pub has_bit : ℕ → ℕ → Bool
has_bit mode bit = not (bit_and mode bit == 0)
