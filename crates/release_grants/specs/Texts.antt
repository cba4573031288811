-- The pieces that an MDS cuts a grant text into, from the left. What it has taken it does not give back.
use Rattle.std.specs.Prelude.{ℕ, ◌^◌, Bool, not, ◌==◌, ◌||◌, nat_le, Option, Some, None, option_and_then, List, length, take, drop, bytes_eq, if◌then◌else◌}
use Rattle.std.specs.Str.Parse.{digits_value}
use Rattle.byte_sets.specs.Sets.{begins, is_white}
use Rattle.capspec.specs.Words.{front_while, is_digit, rest_while}

-- something, and the text behind it
abbrev pub Found : Type 0 → Type 0
Found A = Option (A × List ℕ)

abbrev pub is_space : ℕ → Bool
is_space b = b == 32

abbrev pub is_not : ℕ → ℕ → Bool
is_not one b = not (b == one)

-- what follows the word at the front of a text
abbrev pub behind : List ℕ → List ℕ → Option (List ℕ)
behind word text = if bytes_eq (take (length word) text) word then Some (drop (length word) text) else None

-- what follows the spaces, tabs and newlines at the front, one at least
abbrev pub behind_white : List ℕ → Option (List ℕ)
behind_white text = if begins is_white text then Some (rest_while is_white text) else None

-- what follows white space and then the word
abbrev pub behind_word : List ℕ → List ℕ → Option (List ℕ)
behind_word word text = option_and_then (behind word) (behind_white text)

-- as many bytes as pass, one at least
abbrev pub some_while : (ℕ → Bool) → List ℕ → Found (List ℕ)
some_while test text = if begins test text then Some (front_while test text, rest_while test text) else None

-- the number of 32 bits that all digits at the front write
abbrev pub number_at : List ℕ → Found ℕ
number_at text =
    let digits = front_while is_digit text in
    if (length digits == 0) || nat_le (2 ^ 32) (digits_value 10 digits) then None else Some (digits_value 10 digits, rest_while is_digit text)

-- what was found, if something was, and what is left
abbrev pub or_none : {A : Type 0} → Found A → List ℕ → Option A × List ℕ
or_none None text = (None, text)
or_none (Some (value, rest)) text = (Some value, rest)

-- by what was found, or else this
abbrev pub if_found : {A B : Type 0} → Option A → B → (A → B) → B
if_found None otherwise by = otherwise
if_found (Some found) otherwise by = by found
