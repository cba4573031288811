-- What an MDS is asked for.
use Rattle.std.specs.Prelude.{Bool, false, List, ◌++◌, codes, ℕ}
use Rattle.std.specs.Fmt.{decimal}
use Rattle.capgrant.specs.declared.access.Access.{Access}
use Rattle.capgrant.specs.Access.{access_word}
use Rattle.release_rules.specs.declared.asked.Asked.{Asked}
use Rattle.release_rules.specs.Asked.{asked_by, asked_for}
use Rattle.release_rules.specs.Clients.{changes_attributes}
use Rattle.texts.specs.declared.mds_asked.MdsAccess.{MdsAccess}
use Rattle.texts.specs.declared.mds_asked.MdsAccess.TheVariants.{Mask, One, ReadWrite}

-- how it is named in a text; its numbers are in decimal, without leading zeros
abbrev pub mds_access_word : MdsAccess → List ℕ
mds_access_word (One access) = access_word access
mds_access_word ReadWrite = codes "readwrite"
mds_access_word (Mask bits uid gid) = codes "mask:" ++ (decimal bits ++ (codes ":" ++ (decimal uid ++ (codes ":" ++ decimal gid))))

-- what the MDS asks its grants for it
abbrev pub asked_there : MdsAccess → Asked
asked_there (One access) = asked_for access
asked_there ReadWrite = asked_by 3 0 0
asked_there (Mask bits uid gid) = asked_by bits uid gid

-- a client checks it before it asks; of several accesses at once it is not known what the client asks for
abbrev pub is_checked_by_client : MdsAccess → Bool
is_checked_by_client (One access) = changes_attributes access
is_checked_by_client access = false
