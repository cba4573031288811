-- The words that name an access.
use Rattle.std.specs.Prelude.{◌≡◌, ℕ, List, ◌++◌, codes}
use Rattle.capspec.specs.Items.{IsNumber}
use Rattle.capgrant.specs.declared.access.Access.{Access}
use Rattle.capgrant.specs.declared.access.Access.TheVariants.{Chgrp, Chmod, Chown, Read, SetVxattr, Snapshot, Write}

-- the text is the word and a number behind it, which may have leading zeros
abbrev pub IsWordWithNumber : List ℕ → List ℕ → ℕ → Type 0
IsWordWithNumber text word n = (digits : List ℕ) × (text ≡ word ++ digits) × IsNumber digits n

-- the text names the access
abbrev pub IsAccessWord : List ℕ → Access → Type 0
IsAccessWord text Read = text ≡ codes "read"
IsAccessWord text Write = text ≡ codes "write"
IsAccessWord text SetVxattr = text ≡ codes "vxattr"
IsAccessWord text Snapshot = text ≡ codes "snapshot"
IsAccessWord text Chmod = text ≡ codes "chmod"
IsAccessWord text (Chown uid) = IsWordWithNumber text (codes "chown:") uid
IsAccessWord text (Chgrp gid) = IsWordWithNumber text (codes "chgrp:") gid
