-- Names: their order, and which of them can't be given.
use Rattle.std.specs.Prelude.{ℕ, ◌==◌, nat_lt, ◌||◌, ◌&&◌, Bool, true, false, List, [], ◌∷◌, length}
use Rattle.std.specs.List.{list_any}
use Rattle.std.specs.declared.cmp.Ordering.{Ordering}
use Rattle.std.specs.Ordering.{nat_cmp}
use Rattle.std.specs.Cmp.Lexicographic.{slice_cmp}

-- names are ordered by their bytes
abbrev pub name_cmp : List ℕ → List ℕ → Ordering
name_cmp = slice_cmp nat_cmp

-- some byte of the name is b
abbrev pub has_byte : ℕ → List ℕ → Bool
has_byte b name = list_any (λ x. x == b) name

-- nothing, `.` or `..`
abbrev pub is_dots : List ℕ → Bool
is_dots [] = true
is_dots (a ∷ []) = a == 46
is_dots (a ∷ b ∷ []) = (a == 46) && (b == 46)
is_dots (a ∷ b ∷ c ∷ rest) = false

-- it is empty, `.` or `..`, has over 255 bytes, or has a `/` or a zero byte
abbrev pub is_bad_name : List ℕ → Bool
is_bad_name name = is_dots name || nat_lt 255 (length name) || has_byte 47 name || has_byte 0 name

-- it is empty, has over 255 bytes, or has a zero byte
abbrev pub is_bad_attribute : List ℕ → Bool
is_bad_attribute name = (length name == 0) || nat_lt 255 (length name) || has_byte 0 name
