-- Walks from place to place: along a list from its beginning until its end comes.
use Rattle.std.specs.Prelude.{◌≡◌, ℕ, Bool, true, false, List, [], ◌∷◌, Option, Some, None, nat_eq, slice_get, if◌then◌else◌}
use Rattle.std.specs.List.{list_any}

-- whether two places are the same
abbrev pub same_place : Option ℕ → Option ℕ → Bool
same_place None None = true
same_place (Some key) (Some other) = nat_eq key other
same_place _ _ = false

-- whether the key is among these
abbrev pub is_among : List ℕ → ℕ → Bool
is_among keys key = list_any (nat_eq key) keys

-- steps from a place lead to these keys, and then to the end
abbrev pub IsWalk : (Option ℕ → Option ℕ) → Option ℕ → List ℕ → Type 0
IsWalk step place [] = step place ≡ None
IsWalk step place (key ∷ keys) = (step place ≡ Some key) × IsWalk step (Some key) keys

-- the key after this one
abbrev pub key_after : List ℕ → ℕ → Option ℕ
key_after [] key = None
key_after (k ∷ keys) key = if nat_eq key k then slice_get keys 0 else key_after keys key
