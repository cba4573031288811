-- The texts of small values: a mode, bytes, groups.
use Rattle.std.specs.Prelude.{ℕ, ◌/◌, ◌%◌, false, List, [], ◌∷◌, ◌++◌, codes}
use Rattle.std.specs.Fmt.{decimal, digit_glyph}
use Rattle.std.specs.List.{flat_map, join_by}

-- four octal digits
abbrev pub mode_text : ℕ → List ℕ
mode_text mode = decimal (mode / 512) ++ decimal (mode / 64 % 8) ++ decimal (mode / 8 % 8) ++ decimal (mode % 8)

-- two hexadecimal digits
abbrev pub byte_text : ℕ → List ℕ
byte_text byte = digit_glyph false (byte / 16) ∷ digit_glyph false (byte % 16) ∷ []

-- byte by byte, or a dash for no bytes
abbrev pub hex_text : List ℕ → List ℕ
hex_text [] = codes "-"
hex_text (byte ∷ bytes) = flat_map byte_text (byte ∷ bytes)

-- joined by commas; a dash for none
abbrev pub groups_text : List ℕ → List ℕ
groups_text [] = codes "-"
groups_text (gid ∷ gids) = join_by decimal (codes ",") (gid ∷ gids)
