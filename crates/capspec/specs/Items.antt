-- The items of a grant text, and the word that each is.
use Rattle.std.specs.Prelude.{◌≡◌, ◌⊎◌, ℕ, ◌<◌, ◌≤◌, ◌^◌, ◌==◌, ◌||◌, ◌&&◌, nat_le, not, Option, Some, None, Bool, List, [], ◌∷◌, ◌++◌, length, codes, IsTrue}
use Rattle.std.specs.List.{list_all, list_any}
use Rattle.std.specs.Str.Parse.{IsNumeral, digits_value}
use Rattle.capspec.specs.declared.items.Key.{Key}
use Rattle.capspec.specs.declared.items.Key.TheVariants as keys
use Rattle.byte_sets.specs.Sets.{is_bare_path_byte}
use Rattle.capspec.specs.Names.{IsFsName}
use Rattle.capspec.specs.Paths.{are_few_and_short, names_of}
use Rattle.capspec.specs.Separated.{AreSeparated}

-- what a word behind the flags says of the grant
pub data Item : Type 0 where
  FsName : Option (List ℕ) → Item
  Path : List (List ℕ) → Item
  Uid : ℕ → Item
  Gids : List ℕ → Item
  RootSquash : Item

-- the key of an item: what it speaks of
abbrev pub key_of : Item → Key
key_of (FsName name) = keys.FsName
key_of (Path names) = keys.Path
key_of (Uid uid) = keys.Uid
key_of (Gids gids) = keys.Gids
key_of RootSquash = keys.RootSquash

-- the word by which an item has the key
abbrev pub key_name : Key → List ℕ
key_name keys.FsName = codes "fsname"
key_name keys.Path = codes "path"
key_name keys.Uid = codes "uid"
key_name keys.Gids = codes "gids"
key_name keys.RootSquash = codes "root_squash"

-- how the word of an item with the key begins; that of `root_squash` is the whole word, as no value follows
abbrev pub key_text : Key → List ℕ
key_text keys.FsName = codes "fsname="
key_text keys.Path = codes "path="
key_text keys.Uid = codes "uid="
key_text keys.Gids = codes "gids="
key_text keys.RootSquash = codes "root_squash"

-- decimal digits of a number of 32 bits
pub record IsNumber (digits : List ℕ) (n : ℕ) : Type 0 where
  pub numeral : IsNumeral 10 digits
  pub value : digits_value 10 digits ≡ n
  pub small : n < 2 ^ 32

-- `,` between the numbers of a gids item
abbrev pub is_comma : ℕ → Bool
is_comma b = b == 44

-- a byte that no path has: one below 32, or 127
abbrev pub is_control : ℕ → Bool
is_control b = nat_le b 31 || (b == 127)

-- the value is the path between two of one quote, with no such quote in it
pub record IsQuotedBy (quote : ℕ) (value path : List ℕ) : Type 0 where
  pub parts : value ≡ quote ∷ path ++ quote ∷ []
  pub none_inside : IsTrue (list_all (λ b. not (b == quote)) path)

-- the value is a path without quotes
pub record IsBare (value path : List ℕ) : Type 0 where
  pub same : value ≡ path
  pub all_in : IsTrue (list_all is_bare_path_byte path)

-- the value is the path as it is, or between `"`, or between `'`
abbrev pub IsPlainOrQuoted : List ℕ → List ℕ → Type 0
IsPlainOrQuoted value path = IsBare value path ⊎ IsQuotedBy 34 value path ⊎ IsQuotedBy 39 value path

-- a grant may have the path: it is not empty, has no control byte, and has few and short names
abbrev pub can_be_path : List ℕ → Bool
can_be_path path = not (length path == 0) && not (list_any is_control path) && are_few_and_short (names_of path)

-- the value writes the path, and a grant may have that path
pub record IsPath (value path : List ℕ) : Type 0 where
  pub written : IsPlainOrQuoted value path
  pub fit : IsTrue (can_be_path path)

-- the text of the item's value, behind its key
abbrev pub IsValue : List ℕ → Item → Type 0
IsValue value (FsName None) = value ≡ codes "*"
IsValue value (FsName (Some name)) = (value ≡ name) × IsFsName name
IsValue value (Path names) = (path : List ℕ) × IsPath value path × (names ≡ names_of path)
IsValue value (Uid uid) = IsNumber value uid
IsValue value (Gids gids) = AreSeparated is_comma IsNumber value gids × (length gids ≤ 16)
IsValue value RootSquash = value ≡ []

-- the word is the item
abbrev pub IsItem : List ℕ → Item → Type 0
IsItem word item = (value : List ℕ) × (word ≡ key_text (key_of item) ++ value) × IsValue value item
