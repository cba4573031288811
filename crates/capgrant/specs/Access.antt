-- What kinds of access there are, and how they are named in a text.
use Rattle.std.specs.Prelude.{ℕ, Bool, true, false, Option, Some, None, List, ◌++◌, codes}
use Rattle.std.specs.Fmt.{decimal}
use Rattle.capgrant.specs.declared.access.Access.{Access}
use Rattle.capgrant.specs.declared.access.Access.TheVariants.{Chgrp, Chmod, Chown, Read, SetVxattr, Snapshot, Write}

-- to read, and so to change nothing
abbrev pub is_read : Access → Bool
is_read Read = true
is_read access = false

-- to set or remove an attribute whose name begins with `ceph.`
abbrev pub is_set_vxattr : Access → Bool
is_set_vxattr SetVxattr = true
is_set_vxattr access = false

-- to make or remove a snapshot
abbrev pub is_snapshot : Access → Bool
is_snapshot Snapshot = true
is_snapshot access = false

-- to change the mode, the owner or the group
abbrev pub changes_attr : Access → Bool
changes_attr Chmod = true
changes_attr (Chown uid) = true
changes_attr (Chgrp gid) = true
changes_attr access = false

-- the owner that a Chown gives the inode
abbrev pub new_owner : Access → Option ℕ
new_owner (Chown uid) = Some uid
new_owner access = None

-- the group that a Chgrp gives the inode
abbrev pub new_group : Access → Option ℕ
new_group (Chgrp gid) = Some gid
new_group access = None

-- the word of an access; its number is in decimal, without leading zeros
abbrev pub access_word : Access → List ℕ
access_word Read = codes "read"
access_word Write = codes "write"
access_word SetVxattr = codes "vxattr"
access_word Snapshot = codes "snapshot"
access_word Chmod = codes "chmod"
access_word (Chown uid) = codes "chown:" ++ decimal uid
access_word (Chgrp gid) = codes "chgrp:" ++ decimal gid
