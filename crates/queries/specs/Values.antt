-- What the values of the options mean.
use Rattle.std.specs.Prelude.{◌≡◌, ℕ, ◌-◌, ◌≤◌, Bool, ◌||◌, Option, Some, None, List, [], length, take, drop, codes, bytes_eq, IsTrue, if◌then◌else◌}
use Rattle.std.specs.Global.{Vec}
use Rattle.std.specs.Str.Parse.{IsNumeral, digits_value}
use Rattle.std.specs.declared.net.ip_addr.IpAddr.{IpAddr}
use Rattle.capspec.specs.Items.{IsNumber, is_comma}
use Rattle.capspec.specs.Separated.{AreSeparated}
use Rattle.capspec.specs.Names.{IsFsName}
use Rattle.capspec.specs.Paths.{are_few_and_short, names_of}
use Rattle.release_grants.specs.Networks.{address_in, address_of}

-- the text is the name of a file system
pub record IsFs (text name : List ℕ) : Type 0 where
  pub same : name ≡ text
  pub good : IsFsName text

-- the name that is given, or none
abbrev pub IsFsIf : Option (Vec ℕ) → Option (List ℕ) → Type 0
IsFsIf None name = name ≡ None
IsFsIf (Some text) None = ⊥
IsFsIf (Some text) (Some name) = IsFs text.items name

-- one to sixteen numbers, with a comma between each two
abbrev pub AreGroups : List ℕ → List ℕ → Type 0
AreGroups text gids = AreSeparated is_comma IsNumber text gids × (length gids ≤ 16)

-- the groups that are given, or none
abbrev pub AreGroupsIf : Option (Vec ℕ) → List ℕ → Type 0
AreGroupsIf None gids = gids ≡ []
AreGroupsIf (Some text) gids = AreGroups text.items gids

-- the names between the slashes, at most 32 of at most 255 bytes
pub record ArePathNames (text : List ℕ) (names : List (List ℕ)) : Type 0 where
  pub same : names ≡ names_of text
  pub fit : IsTrue (are_few_and_short names)

-- the kinds of inode that stat(2) tells apart, as they stand before the four digits of the mode in a line of the MDS's log
abbrev pub is_kind : List ℕ → Bool
is_kind digits =
    bytes_eq digits (codes "010") || (bytes_eq digits (codes "04") || (bytes_eq digits (codes "012") || (bytes_eq digits (codes "01")
    || (bytes_eq digits (codes "02") || (bytes_eq digits (codes "06") || bytes_eq digits (codes "014"))))))

-- the last four digits, where a kind stands before them
abbrev pub without_kind : List ℕ → List ℕ
without_kind text = if is_kind (take (length text - 4) text) then drop (length text - 4) text else text

-- one to four octal digits, or a kind and four of them
pub record IsModeText (text : List ℕ) (mode : ℕ) : Type 0 where
  pub numeral : IsNumeral 8 (without_kind text)
  pub short : length (without_kind text) ≤ 4
  pub value : mode ≡ digits_value 8 (without_kind text)

-- the address that is given, an IPv4 or an IPv6 address; or none
abbrev pub IsAddressIf : Option (Vec ℕ) → Option IpAddr → Type 0
IsAddressIf None address = address ≡ None
IsAddressIf (Some text) None = ⊥
IsAddressIf (Some text) (Some address) = address_in text.items ≡ Some (address_of address)
