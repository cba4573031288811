-- Sets of bytes, and the longest front of a text that one of them allows.
use Rattle.std.specs.Prelude.{◌≡◌, ℕ, Bool, true, false, not, ◌||◌, ◌&&◌, nat_le, ◌==◌, List, [], ◌∷◌, ◌++◌, IsTrue, IsFalse}
use Rattle.std.specs.List.{list_all}
use Rattle.byte_sets.specs.declared.sets.ByteSet.{ByteSet}
use Rattle.byte_sets.specs.declared.sets.ByteSet.TheVariants.{AllBut, AnyWhite, BarePath, Blank, Digit, FsName, Network, Only, Plain, White}

-- a space, a tab or a line feed
abbrev pub is_white : ℕ → Bool
is_white b = (b == 32) || (b == 9) || (b == 10)

-- `,` or `;`, which separate two grants
abbrev pub is_mark : ℕ → Bool
is_mark b = (b == 44) || (b == 59)

-- a byte from low to high, both included
abbrev pub is_within : ℕ → ℕ → ℕ → Bool
is_within low high b = nat_le low b && nat_le b high

-- a space, a tab, a line feed, a vertical tab, a form feed or a carriage return
abbrev pub is_any_white : ℕ → Bool
is_any_white b = (b == 32) || is_within 9 13 b

-- a space or a tab
abbrev pub is_blank : ℕ → Bool
is_blank b = (b == 32) || (b == 9)

-- what the address of a network may have: a digit, a letter from a to f or from A to F, `:`, `.`, `/`, `[` or `]`
abbrev pub is_network_byte : ℕ → Bool
is_network_byte b = is_within 46 58 b || is_within 97 102 b || is_within 65 70 b || (b == 91) || (b == 93)

-- what the name of a file system may have: A to Z, a to z, 0 to 9, `_`, `.` or `-`
abbrev pub is_fs_name_byte : ℕ → Bool
is_fs_name_byte b = is_within 65 90 b || is_within 97 122 b || is_within 48 57 b || (b == 95) || (b == 46) || (b == 45)

-- what a path without quotes may have: the same bytes, and `/`
abbrev pub is_bare_path_byte : ℕ → Bool
is_bare_path_byte b = is_fs_name_byte b || (b == 47)

-- whether the set has the byte
abbrev pub is_in : ByteSet → ℕ → Bool
is_in White b = is_white b
is_in AnyWhite b = is_any_white b
is_in Blank b = is_blank b
is_in FsName b = is_fs_name_byte b
is_in BarePath b = is_bare_path_byte b
is_in Network b = is_network_byte b
is_in Digit b = is_within 48 57 b
is_in Plain b = not (is_white b || is_mark b)
is_in (Only one) b = b == one
is_in (AllBut one) b = not (b == one)

-- there is a first byte, and it passes the test
abbrev pub begins : (ℕ → Bool) → List ℕ → Bool
begins test [] = false
begins test (b ∷ bs) = test b

-- the text is front and rest, where front is the longest beginning that the set allows
pub record SplitsWhile (set : ByteSet) (text front rest : List ℕ) : Type 0 where
  pub parts : text ≡ front ++ rest
  pub all_in : IsTrue (list_all (is_in set) front)
  pub longest : IsFalse (begins (is_in set) rest)
