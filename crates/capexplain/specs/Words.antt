-- The words of a line, and what the first of them says.
use Rattle.std.specs.Prelude.{◌==◌, not, ℕ, Bool, List, [], ◌∷◌, drop}
use Rattle.std.specs.List.{join_with_byte, list_all, slice_split}

abbrev pub is_space : ℕ → Bool
is_space b = b == 32

-- The words of a line: there is one space between each two. So a word is empty where two spaces meet, and at an end of the line that is a
-- space.
abbrev pub words : List ℕ → List (List ℕ)
words text = slice_split is_space text

-- words with one space between each two
abbrev pub spaced : List (List ℕ) → List ℕ
spaced some = join_with_byte 32 some

-- the words, with all from the sixth on as one
abbrev pub six_parts : List (List ℕ) → List (List ℕ)
six_parts (a ∷ b ∷ c ∷ d ∷ e ∷ f ∷ more) = a ∷ b ∷ c ∷ d ∷ e ∷ spaced (f ∷ more) ∷ []
six_parts few = few

-- the parts of a line: its words, of which the sixth is all that is left of it
abbrev pub parts : List ℕ → List (List ℕ)
parts text = six_parts (words text)

-- the parts behind the first
abbrev pub arguments_in : List ℕ → List (List ℕ)
arguments_in text = drop 1 (parts text)

-- The part is one word. The last part of a line with more words than parts has a space.
abbrev pub is_one_word : List ℕ → Bool
is_one_word part = list_all (λ b. not (is_space b)) part
