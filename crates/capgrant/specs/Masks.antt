-- What the mask of a metadata server asks for.
use Rattle.std.specs.Prelude.{◌==◌, ◌/◌, ◌%◌, ◌&&◌, nat_lt, ℕ, Bool, List, [], ◌∷◌, ◌++◌, if◌then◌else◌}
use Rattle.capgrant.specs.declared.access.Access.{Access}
use Rattle.capgrant.specs.declared.access.Access.TheVariants.{Read, Write, SetVxattr, Snapshot, Chown, Chgrp}

-- no bit but 1, 2, 16, 32, 64 and 128
abbrev pub is_known : ℕ → Bool
is_known mask = nat_lt mask 256 && (mask / 4 % 4 == 0)

-- the access, where the bit is set
abbrev pub asked_if : ℕ → ℕ → Access → List Access
asked_if mask bit access = if mask / bit % 2 == 1 then access ∷ [] else []

-- what the mask asks for, one access for each bit, with the new owner and the new group that belong to two of them
abbrev pub accesses_in : ℕ → ℕ → ℕ → List Access
accesses_in mask new_uid new_gid =
    asked_if mask 1 Read
    ++ (asked_if mask 2 Write
    ++ (asked_if mask 16 (Chown new_uid)
    ++ (asked_if mask 32 (Chgrp new_gid)
    ++ (asked_if mask 64 SetVxattr
    ++ asked_if mask 128 Snapshot))))
