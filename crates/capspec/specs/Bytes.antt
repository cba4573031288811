-- What ends a word of a grant text.
use Rattle.std.specs.Prelude.{◌≡◌, ℕ, Bool, true, ◌||◌, List, [], ◌∷◌, ◌++◌, IsTrue}
use Rattle.byte_sets.specs.Sets.{is_mark, is_white}

-- nothing, or white space, or a mark: here a word can end
abbrev pub ends_word : List ℕ → Bool
ends_word [] = true
ends_word (b ∷ bs) = is_white b || is_mark b

-- nothing, or a mark: here a grant can end
abbrev pub ends_grant : List ℕ → Bool
ends_grant [] = true
ends_grant (b ∷ bs) = is_mark b

-- The text begins with a front of which P holds, and the rest follows.
pub record Takes (P : List ℕ → Type 0) (text rest : List ℕ) : Type 0 where
  pub front : List ℕ
  pub parts : text ≡ front ++ rest
  pub holds : P front

-- the same, where the front is the end of a word
abbrev pub TakesWord : (List ℕ → Type 0) → List ℕ → List ℕ → Type 0
TakesWord P text rest = Takes P text rest × IsTrue (ends_word rest)
