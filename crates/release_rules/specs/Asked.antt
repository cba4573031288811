-- What a check asks for: by an access, or by the bits of the mask that the MDS logs.
use Rattle.std.specs.Prelude.{Bool, None, Option, Some, false, if◌then◌else◌, true, ℕ}
use Rattle.capgrant.specs.declared.access.Access.{Access}
use Rattle.capgrant.specs.declared.access.Access.TheVariants.{Chgrp, Chmod, Chown, Read, SetVxattr, Snapshot, Write}
use Rattle.capgrant.specs.Class.{has_bit}
use Rattle.release_rules.specs.declared.asked.Asked.{Asked}

abbrev pub nothing : Asked
nothing = record { read = false; write = false; execute = false; new_owner = None; new_group = None; set_vxattr = false; snapshot = false; full = false }

-- what an MDS asks its grants for an access. A change of the mode is a write to it, and so are the other changes with what they are besides; to
-- set an attribute of the directory is none.
abbrev pub asked_for : Access → Asked
asked_for Read = record nothing { read = true }
asked_for Write = record nothing { write = true }
asked_for SetVxattr = record nothing { set_vxattr = true }
asked_for Snapshot = record nothing { write = true; snapshot = true }
asked_for Chmod = record nothing { write = true }
asked_for (Chown uid) = record nothing { write = true; new_owner = Some uid }
asked_for (Chgrp gid) = record nothing { write = true; new_group = Some gid }

abbrev pub some_if : Bool → ℕ → Option ℕ
some_if condition n = if condition then Some n else None

-- what a mask asks for, where the inode is to be given to this user, or to this group
abbrev pub asked_by : ℕ → ℕ → ℕ → Asked
asked_by mask uid gid = record {
  read = has_bit mask 1;
  write = has_bit mask 2;
  execute = has_bit mask 4;
  new_owner = some_if (has_bit mask 16) uid;
  new_group = some_if (has_bit mask 32) gid;
  set_vxattr = has_bit mask 64;
  snapshot = has_bit mask 128;
  full = has_bit mask 256;
}
