-- The one text that grants are written as.
use Rattle.std.specs.Prelude.{ℕ, Bool, true, false, Option, Some, None, not, ◌==◌, List, [], ◌∷◌, ◌++◌, codes, if◌then◌else◌}
use Rattle.std.specs.Fmt.{decimal}
use Rattle.std.specs.List.{join_by, list_all}
use Rattle.capspec.specs.declared.grant.Grant.{Grant}
use Rattle.byte_sets.specs.Sets.{is_bare_path_byte}
use Rattle.capspec.specs.Flags.{flags_text}
use Rattle.capspec.specs.Paths.{slashed}

-- whether each byte may stand in a path without quotes
abbrev pub can_be_bare : List ℕ → Bool
can_be_bare path = list_all is_bare_path_byte path

-- whether it has no `"`
abbrev pub has_no_double_quote : List ℕ → Bool
has_no_double_quote path = list_all (λ b. not (b == 34)) path

-- bare where that can be, else in `"`, else (it has a `"`) in `'`
abbrev pub written_path : List ℕ → List ℕ
written_path path =
    if can_be_bare path then path
    else (if has_no_double_quote path then codes "\"" ++ path ++ codes "\"" else codes "'" ++ path ++ codes "'")

-- each item that the grant has, behind a space

abbrev pub fsname_text : Option (List ℕ) → List ℕ
fsname_text None = []
fsname_text (Some name) = codes " fsname=" ++ name

abbrev pub path_text : List (List ℕ) → List ℕ
path_text [] = []
path_text (name ∷ names) = codes " path=" ++ written_path (slashed (name ∷ names))

abbrev pub uid_text : Option ℕ → List ℕ
uid_text None = []
uid_text (Some uid) = codes " uid=" ++ decimal uid

abbrev pub gids_text : List ℕ → List ℕ
gids_text [] = []
gids_text (gid ∷ gids) = codes " gids=" ++ join_by decimal (codes ",") (gid ∷ gids)

abbrev pub root_squash_text : Bool → List ℕ
root_squash_text false = []
root_squash_text true = codes " root_squash"

-- `allow`, the flags and the items in this order
abbrev pub grant_text : Grant → List ℕ
grant_text grant =
    codes "allow " ++ flags_text grant.flags ++ fsname_text grant.fsname ++ path_text grant.path ++ uid_text grant.uid ++ gids_text grant.gids ++ root_squash_text grant.root_squash

-- the grants, with a comma and a space between each two
abbrev pub written : List Grant → List ℕ
written grants = join_by grant_text (codes ", ") grants
