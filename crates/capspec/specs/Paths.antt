-- Paths as lists of names.
use Rattle.std.specs.Prelude.{ℕ, false, codes, ◌||◌, [], ◌∷◌, ◌++◌, not, ◌==◌, nat_lt, nat_le, ◌&&◌, Bool, List, length, filter}
use Rattle.std.specs.List.{flat_map, list_all, list_any, slice_split}

-- the names between the slashes; two slashes in a row, or one at an end, have no name between them
abbrev pub names_of : List ℕ → List (List ℕ)
names_of path = filter (λ name. nat_lt 0 (length name)) (slice_split (λ b. b == 47) path)

-- at most 32 names of at most 255 bytes each
abbrev pub are_few_and_short : List (List ℕ) → Bool
are_few_and_short names = nat_le (length names) 32 && list_all (λ name. nat_le (length name) 255) names

-- a name has a byte, and no slash
abbrev pub is_name : List ℕ → Bool
is_name name = nat_lt 0 (length name) && not (list_any (λ b. b == 47) name)

-- `/` before each name
abbrev pub slashed : List (List ℕ) → List ℕ
slashed names = flat_map (λ name. codes "/" ++ name) names

-- two slashes stand side by side
abbrev pub has_double_slash : List ℕ → Bool
has_double_slash [] = false
has_double_slash (b ∷ []) = false
has_double_slash (b ∷ c ∷ bytes) = ((b == 47) && (c == 47)) || has_double_slash (c ∷ bytes)
