-- What an OSD caps text is made of. Each definition reads at the front of a text, and gives what follows behind that.
use Rattle.std.specs.Prelude.{ℕ, List, [], ◌∷◌, length, drop, codes, nat_eq, Option, Some, None, option_map, if◌then◌else◌}
use Rattle.std.specs.List.{starts_with}
use Rattle.std.specs.Option.{option_or}
use Rattle.byte_sets.specs.Sets.{is_in}
use Rattle.capspec.specs.Words.{front_while, is_quote, rest_while}
use Rattle.byte_sets.specs.declared.sets.ByteSet.{ByteSet}
use Rattle.byte_sets.specs.declared.sets.ByteSet.TheVariants.{AllBut, AnyWhite, BarePath}

-- what is not there ends the reading
infixl 10 ◌>>=◌
abbrev pub ◌>>=◌ : {A B : Type 0} → Option A → (A → Option B) → Option B
Some found >>= next = next found
None >>= next = None

-- the text behind these bytes
unfoldable pub behind : List ℕ → List ℕ → Option (List ℕ)
behind bytes text = if starts_with nat_eq text bytes then Some (drop (length bytes) text) else None

-- the front, if it is not empty, and the rest
abbrev pub if_any : List ℕ → List ℕ → Option (List ℕ × List ℕ)
if_any [] rest = None
if_any (b ∷ front) rest = Some (b ∷ front, rest)

-- one byte of the set or more, as many as there are
unfoldable pub run_at : ByteSet → List ℕ → Option (List ℕ × List ℕ)
run_at set text = if_any (front_while (is_in set) text) (rest_while (is_in set) text)

-- the text behind one space or more
unfoldable pub behind_spaces : List ℕ → Option (List ℕ)
behind_spaces text = option_map (λ found. found.1) (run_at AnyWhite text)

-- the text behind spaces and a keyword
unfoldable pub behind_keyword : List ℕ → List ℕ → Option (List ℕ)
behind_keyword keyword text = do
  text ← behind_spaces text
  behind keyword text

-- the same, where spaces follow the keyword
unfoldable pub behind_spaced : List ℕ → List ℕ → Option (List ℕ)
behind_spaced keyword text = do
  text ← behind_keyword keyword text
  behind_spaces text

-- the text behind `=`, or behind spaces
unfoldable pub behind_sign : List ℕ → Option (List ℕ)
behind_sign text = option_or (behind (codes "=") text) (behind_spaces text)

-- the text behind spaces, a keyword, and `=` or spaces
unfoldable pub behind_key : List ℕ → List ℕ → Option (List ℕ)
behind_key keyword text = do
  text ← behind_keyword keyword text
  behind_sign text

-- what stands before a closing quote
abbrev pub closed : List ℕ → List ℕ → Option (List ℕ × List ℕ)
closed inside [] = None
closed inside (quote ∷ rest) = Some (inside, rest)

-- the text behind an opening quote, up to the next such quote: no byte between them has another meaning
unfoldable pub quoted_at : ℕ → List ℕ → Option (List ℕ × List ℕ)
quoted_at quote text = closed (front_while (is_in (AllBut quote)) text) (rest_while (is_in (AllBut quote)) text)

-- a name without quotes, or what stands between two of one quote, which may be nothing
unfoldable pub string_at : List ℕ → Option (List ℕ × List ℕ)
string_at [] = None
string_at (b ∷ bytes) = if is_quote b then quoted_at b bytes else run_at BarePath (b ∷ bytes)

-- the same, but not nothing
unfoldable pub word_at : List ℕ → Option (List ℕ × List ℕ)
word_at text = do
  found ← string_at text
  if_any found.0 found.1

-- the text behind `*` or `all`
unfoldable pub behind_star : List ℕ → Option (List ℕ)
behind_star text = option_or (behind (codes "*") text) (behind (codes "all") text)
