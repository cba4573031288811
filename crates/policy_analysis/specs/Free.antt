-- Names and numbers that no grant has.
use Rattle.std.specs.Prelude.{◌≡◌, ◌≢◌, ℕ, Some, false, List, ◌++◌, All, ◌⊎◌}
use Rattle.std.specs.Option.{option_to_list}
use Rattle.capspec.specs.declared.grant.Grant.{Grant}
use Rattle.capgrant.specs.Question.{contains}

-- no grant names this file system
abbrev pub NoneNames : List ℕ → List Grant → Type 0
NoneNames fs grants = All (λ g. g.fsname ≢ Some fs) grants

-- no grant lists this gid
abbrev pub NoneLists : ℕ → List Grant → Type 0
NoneLists gid grants = All (λ g. contains g.gids gid ≡ false) grants

-- no grant is for this uid
abbrev pub NoneAreFor : ℕ → List Grant → Type 0
NoneAreFor uid grants = All (λ g. g.uid ≢ Some uid) grants

-- the gids that it lists, and its uid
abbrev pub ids_of : Grant → List ℕ
ids_of g = g.gids ++ option_to_list g.uid

-- the letter x or y
abbrev pub IsLetter : ℕ → Type 0
IsLetter b = (b ≡ 120) ⊎ (b ≡ 121)
