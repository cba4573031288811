-- The flags and the items of a grant, as they stand at the front of a text.
use Rattle.std.specs.Prelude.{ℕ, zero, suc, Bool, true, false, ◌==◌, Option, Some, None, option_map, option_and_then, List, [], ◌∷◌, ◌++◌, length, codes}
use Rattle.std.specs.Prelude.{if◌then◌else◌}
use Rattle.std.specs.Option.{option_or}
use Rattle.byte_sets.specs.Sets.{is_bare_path_byte, is_fs_name_byte, is_network_byte}
use Rattle.capspec.specs.Words.{front_while, rest_while}
use Rattle.release_grants.specs.declared.flags.Flags.{Flags}
use Rattle.release_grants.specs.Texts.{Found, behind, behind_white, behind_word, if_found, is_not, number_at, some_while}

-- ---- flags

-- only read
abbrev pub read_alone : Flags
read_alone = record { all = false; w = false; f = false; p = false; s = false }

abbrev pub everything : Flags
everything = record { all = true; w = false; f = false; p = false; s = false }

-- whether the letter is at the front, and what is left
abbrev pub letter_at : ℕ → List ℕ → Bool × List ℕ
letter_at letter [] = (false, [])
letter_at letter (b ∷ bs) = if b == letter then (true, bs) else (false, b ∷ bs)

-- the letters f, p and s behind `rw`, each at most once and in this order
abbrev pub letters_at : List ℕ → Flags × List ℕ
letters_at text =
    let f = letter_at 102 text in
    let p = letter_at 112 f.1 in
    let s = letter_at 115 p.1 in
    (record { all = false; w = true; f = f.0; p = p.0; s = s.0 }, s.1)

-- `*`, `all`, `rw` with letters, or `r`
abbrev pub flags_at : List ℕ → Found Flags
flags_at text =
    option_or (option_map (λ rest. (everything, rest)) (behind (codes "*") text))
    (option_or (option_map (λ rest. (everything, rest)) (behind (codes "all") text))
    (option_or (option_map letters_at (behind (codes "rw") text)) (option_map (λ rest. (read_alone, rest)) (behind (codes "r") text))))

-- ---- items, each behind white space

abbrev pub fsname_at : List ℕ → Found (List ℕ)
fsname_at text = option_and_then (some_while is_fs_name_byte) (behind_word (codes "fsname=") text)

-- what stands before a closing quote
abbrev pub closed : List ℕ → List ℕ → Found (List ℕ)
closed path [] = None
closed path (quote ∷ rest) = Some (path, rest)

-- a path between two of one quote: any bytes but that, or none
abbrev pub quoted_at : ℕ → List ℕ → Found (List ℕ)
quoted_at quote text = option_and_then (λ inside. closed (front_while (is_not quote) inside) (rest_while (is_not quote) inside)) (behind (quote ∷ []) text)

abbrev pub path_value_at : List ℕ → Found (List ℕ)
path_value_at text = option_or (quoted_at 34 text) (option_or (quoted_at 39 text) (some_while is_bare_path_byte text))

abbrev pub path_at : List ℕ → Found (List ℕ)
path_at text = option_and_then path_value_at (behind_word (codes "path=") text)

-- whether `root_squash` is at the front, and what is left
abbrev pub squash_of : Option (List ℕ) → List ℕ → Bool × List ℕ
squash_of None text = (false, text)
squash_of (Some rest) text = (true, rest)

abbrev pub root_squash_at : List ℕ → Bool × List ℕ
root_squash_at text = squash_of (behind_word (codes "root_squash") text) text

abbrev pub uid_at : List ℕ → Found ℕ
uid_at text = option_and_then number_at (behind_word (codes "uid=") text)

-- a comma and a number
abbrev pub next_number : List ℕ → Found ℕ
next_number text = option_and_then number_at (behind (codes ",") text)

-- these numbers and those that follow, at most as many as are counted
abbrev pub more_numbers : ℕ → List ℕ → List ℕ → List ℕ × List ℕ
more_numbers zero numbers text = (numbers, text)
more_numbers (suc count) numbers text = if_found (next_number text) (numbers, text) (λ next. more_numbers count (numbers ++ next.0 ∷ []) next.1)

-- the numbers from the first on; a text has no more than it has bytes
abbrev pub numbers_of : Found ℕ → List ℕ → List ℕ × List ℕ
numbers_of None text = ([], text)
numbers_of (Some (first, rest)) text = more_numbers (length rest) (first ∷ []) rest

-- the gids of a grant, none where it has no such item
abbrev pub gids_at : List ℕ → List ℕ × List ℕ
gids_at text = numbers_of (option_and_then number_at (behind_word (codes "gids=") text)) text

abbrev pub network_at : List ℕ → Found (List ℕ)
network_at text = option_and_then (λ rest. option_and_then (some_while is_network_byte) (behind_white rest)) (behind_word (codes "network") text)
