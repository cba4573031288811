-- The text of an entity's grants in a keyring, or the first thing that is missing.
use Rattle.std.specs.Prelude.{ℕ, Bool, true, false, nat_eq, ◌==◌, ◌||◌, ◌&&◌, ◌++◌, List, [], ◌∷◌, length, ◌-◌, take, drop, codes, Option, Some, None}
use Rattle.std.specs.Prelude.{option_map, Result, Ok, Err, if◌then◌else◌}
use Rattle.std.specs.Global.{Vec}
use Rattle.std.specs.List.{ends_with, list_all, slice_split, starts_with}
use Rattle.ceph_input.specs.declared.keyring_fault.KeyringFault.{KeyringFault}
use Rattle.ceph_input.specs.declared.keyring_fault.KeyringFault.TheVariants.{NoCaps, NoEntity, NotQuoted}

-- a space, a tab or a carriage return
abbrev pub is_blank : ℕ → Bool
is_blank b = (b == 32) || (b == 9) || (b == 13)

-- what stands between the line feeds
abbrev pub lines : List ℕ → List (List ℕ)
lines text = slice_split (λ b. b == 10) text

-- the line from its first byte on that is no blank
abbrev pub from_text : List ℕ → List ℕ
from_text [] = []
from_text (b ∷ bytes) = if is_blank b then from_text bytes else b ∷ bytes

-- the line has only this, and blanks behind it
abbrev pub is_only : List ℕ → List ℕ → Bool
is_only text line = starts_with nat_eq line text && list_all is_blank (drop (length text) line)

-- a line of the section: it begins the next one, or has the value, or the lines behind it say
abbrev pub value_at : List ℕ → Result (List ℕ) KeyringFault → Result (List ℕ) KeyringFault
value_at line behind = if starts_with nat_eq line (codes "[") then Err NoCaps else (if starts_with nat_eq line (codes "caps mds = ") then Ok (drop 11 line) else behind)

-- What stands behind `caps mds = ` in the first line that begins so, in the section that begins with the first line that is the head. The
-- truth value says whether that line is already passed.
abbrev pub value_in : List ℕ → Bool → List (List ℕ) → Result (List ℕ) KeyringFault
value_in head false [] = Err NoEntity
value_in head true [] = Err NoCaps
value_in head false (line ∷ behind) = value_in head (is_only head (from_text line)) behind
value_in head true (line ∷ behind) = value_at (from_text line) (value_in head true behind)

-- A text up to its closing quote, behind which are only blanks, with what is read of it. A quote behind a backslash takes its place.
abbrev pub unquoted : List ℕ → List ℕ → Option (List ℕ)
unquoted read [] = None
unquoted read (b ∷ bytes) = if b == 34 then (if ends_with nat_eq read (codes "\\") then unquoted (take (length read - 1) read ++ b ∷ []) bytes
    else (if list_all is_blank bytes then Some read else None)) else unquoted (read ++ b ∷ []) bytes

-- a text between double quotes
abbrev pub quoted : List ℕ → Option (List ℕ)
quoted [] = None
quoted (b ∷ bytes) = if b == 34 then unquoted [] bytes else None

-- the text that is there, or that it is not quoted
abbrev pub or_not_quoted : Option (List ℕ) → Result (List ℕ) KeyringFault
or_not_quoted None = Err NotQuoted
or_not_quoted (Some text) = Ok text

-- what stands between the quotes of a value
abbrev pub between_quotes : Result (List ℕ) KeyringFault → Result (List ℕ) KeyringFault
between_quotes (Ok value) = or_not_quoted (quoted value)
between_quotes (Err fault) = Err fault

-- the text of the grants that the entity has for the MDS
abbrev pub caps_in : List ℕ → List ℕ → Result (List ℕ) KeyringFault
caps_in keyring entity = between_quotes (value_in (codes "[" ++ entity ++ codes "]") false (lines keyring))

-- the bytes of a text
abbrev pub text_of : Option (Vec ℕ) → Option (List ℕ)
text_of text = option_map (λ v. v.items) text
