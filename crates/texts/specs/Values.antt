-- JSON values, and the lines that they are.
use Rattle.std.specs.Prelude.{◌≡◌, ◌<◌, ◌≤◌, ◌^◌, ℕ, false, List, [], ◌∷◌, ◌++◌, codes, map, Option, Some, None, if◌then◌else◌}
use Rattle.std.specs.Str.{is_utf8}
use Rattle.hex.specs.Hex.{encode_lower}
use Rattle.serde_json.specs.Data.{Data, Items, Members, Num, array, boolean, depth, float, item, member, negative, no_items, no_members, null, number, object, put, string, unsigned}
use Rattle.serde_json.specs.Read.{max_depth, read}
use Rattle.serde_json.specs.View.{items_of}
use Rattle.serde_json.specs.Written.{compact_text, has_float}

-- keys, and what stands at each
abbrev pub Table : Type 0
Table = List (List ℕ × Data)

-- the members, and those of the table
abbrev pub with_all : Table → Members → Members
with_all [] ms = ms
with_all (m ∷ more) ms = with_all more (put m.0 m.1 ms)

-- the object with these values at these keys
abbrev pub object_of : Table → Data
object_of table = object (with_all table no_members)

abbrev pub natural : ℕ → Data
natural n = number (unsigned n)

abbrev pub numbers_value : List ℕ → Data
numbers_value numbers = array (items_of (map natural numbers))

-- bytes that are UTF-8 are a string, others an object with their hexadecimal digits
abbrev pub bytes_value : List ℕ → Data
bytes_value bytes = if is_utf8 bytes then string bytes else object_of ((codes "hex", string (encode_lower bytes)) ∷ [])

abbrev pub or_null : {A : Type 0} → (A → Data) → Option A → Data
or_null value None = null
or_null value (Some a) = value a

-- no members, or the number of a line
abbrev pub numbered : Option ℕ → Members
numbered None = no_members
numbered (Some n) = with_all ((codes "line", natural n) ∷ []) no_members

-- ---- lines

-- the text of the value, and a line feed
abbrev pub json_line : Data → List ℕ
json_line d = compact_text d ++ codes "\n"

-- whoever reads that text has the value again
abbrev pub ReadsBack : Data → Type 0
ReadsBack d = read (compact_text d) ≡ Some d

-- it has no float, and does not nest too deep to be read
abbrev pub IsPlain : Data → Type 0
IsPlain d = (has_float d ≡ false) × (depth d ≤ max_depth)

-- ---- numbers

-- a natural number of 64 bits
abbrev pub IsWhole : Num → Type 0
IsWhole (unsigned n) = n < 2 ^ 64
IsWhole (negative z) = ⊥
IsWhole (float x) = ⊥

-- each number in it is one
abbrev mutual
  pub HasWholeNumbers : Data → Type 0
  HasWholeNumbers null = Unit {0}
  HasWholeNumbers (boolean b) = Unit {0}
  HasWholeNumbers (number n) = IsWhole n
  HasWholeNumbers (string text) = Unit {0}
  HasWholeNumbers (array ds) = ItemsHaveWholeNumbers ds
  HasWholeNumbers (object ms) = MembersHaveWholeNumbers ms

  pub ItemsHaveWholeNumbers : Items → Type 0
  ItemsHaveWholeNumbers no_items = Unit {0}
  ItemsHaveWholeNumbers (item d ds) = HasWholeNumbers d × ItemsHaveWholeNumbers ds

  pub MembersHaveWholeNumbers : Members → Type 0
  MembersHaveWholeNumbers no_members = Unit {0}
  MembersHaveWholeNumbers (member key d ms) = HasWholeNumbers d × MembersHaveWholeNumbers ms
