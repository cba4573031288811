-- Bytes in a form that has neither control bytes nor, outside of quotes, spaces.
use Rattle.std.specs.Prelude.{ℕ, Bool, not, ◌||◌, ◌==◌, nat_lt, List, [], ◌∷◌, ◌++◌, codes, if◌then◌else◌}
use Rattle.std.specs.List.{flat_map, list_all}
use Rattle.texts.specs.PartTexts.{byte_text}

-- below 32, or 127
abbrev pub is_control : ℕ → Bool
is_control byte = nat_lt byte 32 || (byte == 127)

-- a double quote or a backslash
abbrev pub is_mark : ℕ → Bool
is_mark byte = (byte == 34) || (byte == 92)

-- a byte that can stand without quotes
abbrev pub is_plain : ℕ → Bool
is_plain byte = not (is_control byte || is_mark byte || (byte == 32))

-- in quotes: a control byte as \x and two hexadecimal digits, a quote or a backslash behind a backslash
abbrev pub escaped : ℕ → List ℕ
escaped byte =
    if is_control byte then codes "\\x" ++ byte_text byte
    else (if is_mark byte then 92 ∷ byte ∷ [] else byte ∷ [])

-- as they are where each is plain, else in double quotes
abbrev pub quoted : List ℕ → List ℕ
quoted bytes = if list_all is_plain bytes then bytes else codes "\"" ++ (flat_map escaped bytes ++ codes "\"")
