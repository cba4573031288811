-- What a grant allows, as its text says it, as far as plain reads and writes go: calls of object classes are passed over.
use Rattle.std.specs.Prelude.{ℕ, Bool, true, false, ◌||◌, List, codes, bytes_eq, Option, Some, None, option_map, unwrap_or, if◌then◌else◌}
use Rattle.std.specs.Option.{option_or}
use Rattle.osd_caps.specs.declared.access.Profile.{Profile}
use Rattle.osd_caps.specs.declared.access.Profile.TheVariants.{Other, Rbd, RbdReadOnly, ReadOnly, ReadWrite}
use Rattle.osd_caps.specs.declared.access.Rights.{Rights}
use Rattle.osd_caps.specs.Words.{◌>>=◌, behind, behind_spaces, behind_keyword, behind_spaced, behind_star, word_at}

abbrev pub rights : Bool → Bool → Rights
rights reads writes = record { reads = reads; writes = writes }

-- whether the letter stands there, and what follows it
abbrev pub letter_by : List ℕ → Option (List ℕ) → Bool × List ℕ
letter_by text None = (false, text)
letter_by text (Some rest) = (true, rest)

unfoldable pub letter_at : List ℕ → List ℕ → Bool × List ℕ
letter_at letter text = letter_by text (behind letter text)

-- r, w and x in this order, at least one of them
unfoldable pub letters_at : List ℕ → Option (Rights × List ℕ)
letters_at text =
    let reads = letter_at (codes "r") text in
    let writes = letter_at (codes "w") reads.1 in
    let calls = letter_at (codes "x") writes.1 in
    if reads.0 || writes.0 || calls.0 then Some (rights reads.0 writes.0, calls.1) else None

-- the text behind the keyword, if it stands there
unfoldable pub behind_any : List ℕ → List ℕ → List ℕ
behind_any keyword text = unwrap_or (behind_keyword keyword text) text

-- the text behind letters, and behind `class-read` and `class-write`
abbrev pub spelled : Rights × List ℕ → Rights × List ℕ
spelled found = (found.0, behind_any (codes "class-write") (behind_any (codes "class-read") found.1))

-- the text behind a word that may follow, the method of a class
abbrev pub method_at : List ℕ → Option (List ℕ × List ℕ)
method_at text = do
  text ← behind_spaces text
  word_at text

unfoldable pub behind_method : List ℕ → List ℕ
behind_method text = unwrap_or (option_map (λ found. found.1) (method_at text)) text

-- the text behind `class NAME` or `class NAME METHOD`
unfoldable pub behind_class : List ℕ → Option (List ℕ)
behind_class text = do
  text ← behind_spaced (codes "class") text
  found ← word_at text
  Some (behind_method found.1)

-- the text behind calls of classes without letters: `class-read`, `class-write`, both in this order, or a class by its name
unfoldable pub behind_calls : List ℕ → Option (List ℕ)
behind_calls text =
    option_or (option_map (behind_any (codes "class-write")) (behind_keyword (codes "class-read") text))
    (option_or (behind_keyword (codes "class-write") text) (behind_class text))

-- spaces, and `*` or `all`: to read and to write
unfoldable pub all_at : List ℕ → Option (Rights × List ℕ)
all_at text = do
  text ← behind_spaces text
  text ← behind_star text
  Some (rights true true, text)

-- spaces and letters, and what is allowed of classes behind them
unfoldable pub spelled_at : List ℕ → Option (Rights × List ℕ)
spelled_at text = do
  text ← behind_spaces text
  option_map spelled (letters_at text)

-- what a grant allows, in the first of these forms that stands there
unfoldable pub rights_at : List ℕ → Option (Rights × List ℕ)
rights_at text = option_or (all_at text) (option_or (spelled_at text) (option_map (λ rest. (rights false false, rest)) (behind_calls text)))

-- the profile of that name: what has another name is read, and allows nothing
unfoldable pub profile_of : List ℕ → Profile
profile_of name =
    if bytes_eq name (codes "read-only") then ReadOnly
    else (if bytes_eq name (codes "read-write") then ReadWrite
    else (if bytes_eq name (codes "rbd") then Rbd
    else (if bytes_eq name (codes "rbd-read-only") then RbdReadOnly else Other)))
