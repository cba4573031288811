-- The words that changes begin with, and how many words they take.
use Rattle.std.specs.Prelude.{ℕ, Bool, true, false, Option, List, [], ◌∷◌, find, bytes_eq}
use Rattle.std.specs.Option.{option_map_or}
use Rattle.capstep.specs.declared.change_word.ChangeWord.{ChangeWord}
use Rattle.capstep.specs.declared.change_word.ChangeWord.TheVariants as words
use Rattle.capstep.specs.Words.{change_word}
use Rattle.capexplain.specs.Words.{is_one_word}

abbrev pub change_words : List ChangeWord
change_words = words.Mode ∷ words.Uid ∷ words.Gid ∷ words.SetXattr ∷ words.RemoveXattr ∷ words.Size ∷ words.Time ∷ []

-- the kind of the changes that begin with a word
abbrev pub change_kind : List ℕ → Option ChangeWord
change_kind word = find (λ kind. bytes_eq word (change_word kind)) change_words

-- a change of this kind takes so many words: the name and the value of an attribute, else one
abbrev pub takes : ChangeWord → List (List ℕ) → Bool
takes words.SetXattr (name ∷ value ∷ []) = is_one_word value
takes words.SetXattr more = false
takes kind (word ∷ []) = true
takes kind more = false

-- there is a first word, and what it begins takes the others; where it is none of these, it takes any
unfoldable pub is_counted : List (List ℕ) → Bool
is_counted [] = false
is_counted (word ∷ more) = option_map_or (λ kind. takes kind more) (change_kind word) true
