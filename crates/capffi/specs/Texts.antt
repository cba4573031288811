-- Grants in the one form that they are written in, in a room of the caller's.
use Rattle.std.specs.Prelude.{◌≡◌, ◌<◌, ◌≤◌, ◌⊎◌, ℕ, List, length, take, drop}
use Rattle.capspec.specs.Grants.{Reads}
use Rattle.capspec.specs.Written.{written}
use Rattle.capspec.specs.declared.grant.Grant.{Grant}

-- the form is that of the grants that the text means
abbrev pub IsFormOf : List ℕ → List ℕ → Type 0
IsFormOf text form = (grants : List Grant) × Reads text grants × (form ≡ written grants)

-- the room begins with the form, and is else as it was
pub record IsInFront (form before after : List ℕ) : Type 0 where
  pub front : take (length form) after ≡ form
  pub rest : drop (length form) after ≡ drop (length form) before

-- the form fits, and stands at the front of the room; or it does not fit, and the room is as it was
abbrev pub IsPut : List ℕ → List ℕ → List ℕ → ℕ → ℕ → Type 0
IsPut form before after len status =
    (len ≡ length form)
    × (((length form ≤ length before) × (status ≡ 0) × IsInFront form before after)
    ⊎ ((length before < length form) × (status ≡ 11) × (after ≡ before)))
