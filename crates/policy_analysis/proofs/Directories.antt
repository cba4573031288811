-- A directory of a grant as the text that an MDS compares, and as names.
use Rattle.std.proofs.Common.{◌≡◌, ℕ, suc, ◌-◌, ◌<◌, Bool, true, false, not, ◌||◌, ◌&&◌, cond, List, [], ◌∷◌, ◌++◌, length, take, drop, get_or, refl, sym, ap, ◌∙◌, arith}
use Rattle.std.proofs.Common.{take-append-drop}
use Rattle.std.specs.Prelude.{All, IsTrue, bytes_eq, ◌==◌}
use Rattle.std.specs.List.{list_all, list_any, starts_with}
use Rattle.std.proofs.lemmas.Bool.{and_parts, eqb-true, false≢true, ne_eqb, not-true, or_parts}
use Rattle.std.proofs.Math.Seq.{drop-append_seam, take-append_seam}
use Rattle.std.proofs.lemmas.List.{append-nil, append_cancel_left}
use Rattle.std.proofs.lemmas.List.Elements.{All-head, All-tail}
use Rattle.std.proofs.lemmas.Option.{slice_get-get_or}
use Rattle.std.proofs.lemmas.Slice.Eq.{bytes_eq-Decides}
use Rattle.capspec.specs.Paths.{has_double_slash, is_name, names_of, slashed}
use Rattle.capspec.specs.Words.{rest_while}
use Rattle.capspec.proofs.Backwards.{slashed-append}
use Rattle.capspec.proofs.OneText.{is_as_it_stands, name_has_bytes, names-append}
use Rattle.capspec.proofs.Paths.{has_bytes, names_of-slashes}
use Rattle.capspec.proofs.Slashed.{names_of_slashed}
use Rattle.capgrant.specs.Failing.{is_some_and}
use Rattle.release_grants.specs.declared.switches.Switches.{Switches}
use Rattle.release_grants.specs.Paths.{directory_of, ends_in_slash, ends_name, is_slash, lies_in, path_text, unless_last_slash, without_first_slashes, without_last_slashes}
use Rattle.policy_analysis.proofs.Rules.{above, below}

-- ---- of lists and tests

same_tail : (xs ys : List ℕ) → 47 ∷ xs ≡ 47 ∷ ys → xs ≡ ys
same_tail xs ys same = append_cancel_left (47 ∷ []) xs ys same

pub same_answer : (a b : Bool) → (a ≡ true → b ≡ true) → (b ≡ true → a ≡ true) → a ≡ b
same_answer true b there back = sym (there refl)
same_answer false true there back = back refl
same_answer false false there back = refl

-- ---- the text of names

all_have_bytes : (names : List (List ℕ)) → All (λ name. IsTrue (is_name name)) names → list_all has_bytes names ≡ true
all_have_bytes [] all = refl
all_have_bytes (name ∷ names) all =
    rw ((name_has_bytes name (All-head (λ n. IsTrue (is_name n)) name names all)).0) (all_have_bytes names (All-tail (λ n. IsTrue (is_name n)) name names all))

all_apart : (names : List (List ℕ)) → All (λ name. IsTrue (is_name name)) names → list_all (list_all (λ b. not (b == 47))) names ≡ true
all_apart [] all = refl
all_apart (name ∷ names) all =
    rw ((name_has_bytes name (All-head (λ n. IsTrue (is_name n)) name names all)).1) (all_apart names (All-tail (λ n. IsTrue (is_name n)) name names all))

names_back : (names : List (List ℕ)) → All (λ name. IsTrue (is_name name)) names → names_of (slashed names) ≡ names
names_back names all = names_of_slashed names (all_have_bytes names all) (all_apart names all)

-- a name does not begin with a slash
of_name : (name rest : List ℕ) → IsTrue (is_name name) → without_first_slashes (name ++ rest) ≡ name ++ rest
of_name [] rest is = absurd (false≢true is)
of_name (b ∷ bs) rest is =
    let other : is_slash b ≡ false = (or_parts (is_slash b) (list_any is_slash bs) (not-true (list_any is_slash (b ∷ bs)) (name_parts.1))).0 in
    rw other refl
  where
    name_parts : (has_bytes (b ∷ bs) ≡ true) × (not (list_any is_slash (b ∷ bs)) ≡ true)
    name_parts = and_parts (has_bytes (b ∷ bs)) (not (list_any is_slash (b ∷ bs))) is

-- the path as an MDS has it, and a slash before it
with_slash : (name : List ℕ) (names : List (List ℕ)) → All (λ n. IsTrue (is_name n)) (name ∷ names) → 47 ∷ path_text (name ∷ names) ≡ slashed (name ∷ names)
with_slash name names all = ap (λ (t : List ℕ). 47 ∷ t) (of_name name (slashed names) (All-head (λ n. IsTrue (is_name n)) name names all))

-- behind the text of names a name ends
ends_behind : (names : List (List ℕ)) → ends_name (slashed names) ≡ true
ends_behind [] = refl
ends_behind (name ∷ names) = refl

-- names whose text goes on where a name ends are those names and others
names_on : (ds : List (List ℕ)) (rest : List ℕ) → names_of (slashed ds) ≡ ds → ends_name rest ≡ true → names_of (slashed ds ++ rest) ≡ ds ++ names_of rest
names_on ds [] back ends = ap names_of (append-nil (slashed ds)) ∙ back ∙ sym (append-nil ds)
names_on ds (b ∷ bs) back ends =
    let slash : b ≡ 47 = eqb-true b 47 ends in
    ap (λ (x : ℕ). names_of (slashed ds ++ x ∷ bs)) slash ∙ names-append (slashed ds) bs
    ∙ ap (λ (ns : List (List ℕ)). ns ++ names_of (47 ∷ bs)) back ∙ ap (λ (x : ℕ). ds ++ names_of (x ∷ bs)) (sym slash)

-- ---- what lies in a directory

-- a directory whose text is that of its names
module _ (d : List ℕ) (some : 0 < length d) (plain : ends_in_slash d ≡ false) (whole : 47 ∷ d ≡ slashed (names_of d)) where
  not_empty : (length d == 0) ≡ false
  not_empty = ne_eqb (length d) 0 (λ none. absurd (omega (arith, none, some)))

  -- no path with a name is the root
  none_lies : lies_in d [] ≡ false
  none_lies = rw not_empty (by_bytes d some)
    where
      by_bytes : (text : List ℕ) → 0 < length text → (bytes_eq (take (length text) []) text && (ends_name (drop (length text) []) || ends_in_slash text)) ≡ false
      by_bytes [] none = absurd (omega (arith, none))
      by_bytes (b ∷ bs) more = refl

  none_starts : starts_with bytes_eq [] (names_of d) ≡ false
  none_starts = by_names (names_of d) whole
    where
      by_names : (ds : List (List ℕ)) → 47 ∷ d ≡ slashed ds → starts_with bytes_eq [] ds ≡ false
      by_names [] is = absurd (let none : length (47 ∷ d) ≡ 0 = ap length is in omega (arith, none))
      by_names (x ∷ ds) is = refl

  module _ (names : List (List ℕ)) (text : List ℕ) (valid : All (λ name. IsTrue (is_name name)) names) (text_is : 47 ∷ text ≡ slashed names) where
    there : lies_in d text ≡ true → starts_with bytes_eq names (names_of d) ≡ true
    there lies = above names (names_of d) (names_of (drop (length d) text)) (sym (names_back names valid) ∙ ap names_of all_text ∙ names_on (names_of d) (drop (length d) text) (ap names_of (sym whole) ∙ names_of-slashes (47 ∷ []) d refl) ends)
      where
        both : (bytes_eq (take (length d) text) d ≡ true) × ((ends_name (drop (length d) text) || ends_in_slash d) ≡ true)
        both = and_parts (bytes_eq (take (length d) text) d) (ends_name (drop (length d) text) || ends_in_slash d) (rw not_empty at lies)

        ends : ends_name (drop (length d) text) ≡ true
        ends = or_left_of (ends_name (drop (length d) text)) (rw plain at both.1)
          where
            or_left_of : (b : Bool) → (b || false) ≡ true → b ≡ true
            or_left_of true is = refl
            or_left_of false is = is

        all_text : slashed names ≡ slashed (names_of d) ++ drop (length d) text
        all_text =
            sym text_is
            ∙ ap (λ (t : List ℕ). 47 ∷ t) (sym (take-append-drop (length d) text) ∙ ap (λ (f : List ℕ). f ++ drop (length d) text) ((bytes_eq-Decides (take (length d) text) d).0 both.0))
            ∙ ap (λ (t : List ℕ). t ++ drop (length d) text) whole

    back : starts_with bytes_eq names (names_of d) ≡ true → lies_in d text ≡ true
    back starts =
        rw (not_empty, taken, dropped) (rw (same_bytes, ends_behind one.0) refl)
      where
        one : (rest : List (List ℕ)) × (names ≡ names_of d ++ rest)
        one = below names (names_of d) starts

        text_parts : text ≡ d ++ slashed one.0
        text_parts = same_tail text (d ++ slashed one.0) (text_is ∙ ap slashed one.1 ∙ slashed-append (names_of d) one.0 ∙ ap (λ (t : List ℕ). t ++ slashed one.0) (sym whole))

        taken : take (length d) text ≡ d
        taken = ap (take (length d)) text_parts ∙ take-append_seam d (slashed one.0)

        dropped : drop (length d) text ≡ slashed one.0
        dropped = ap (drop (length d)) text_parts ∙ drop-append_seam d (slashed one.0)

        same_bytes : bytes_eq d d ≡ true
        same_bytes = (bytes_eq-Decides d d).1 refl

  pub lies_as_names : (names : List (List ℕ)) → All (λ name. IsTrue (is_name name)) names → lies_in d (path_text names) ≡ starts_with bytes_eq names (names_of d)
  lies_as_names [] valid = none_lies ∙ sym none_starts
  lies_as_names (name ∷ names) valid =
      same_answer _ _ (there (name ∷ names) (path_text (name ∷ names)) valid (with_slash name names valid)) (back (name ∷ names) (path_text (name ∷ names)) valid (with_slash name names valid))

-- ---- which directories there are

-- the text does not begin with a slash
abbrev begins_plain : List ℕ → Bool
begins_plain [] = true
begins_plain (b ∷ bs) = not (is_slash b)

first_plain : (text : List ℕ) → begins_plain (without_first_slashes text) ≡ true
first_plain [] = refl
first_plain (b ∷ bs) = by_case (is_slash b) refl (first_plain bs)
  where
    by_case : (t : Bool) → is_slash b ≡ t → begins_plain (rest_while is_slash bs) ≡ true → begins_plain (cond (is_slash b) (rest_while is_slash bs) (b ∷ bs)) ≡ true
    by_case true is later = rw is later
    by_case false is later = rw (is, is) refl

stays_plain : (text : List ℕ) → begins_plain text ≡ true → begins_plain (without_last_slashes text) ≡ true
stays_plain [] plain = refl
stays_plain (b ∷ bs) plain = by_rest (without_last_slashes bs)
  where
    other : is_slash b ≡ false
    other = not-true (is_slash b) plain

    by_rest : (rest : List ℕ) → begins_plain (unless_last_slash b rest) ≡ true
    by_rest [] = rw (other, other) refl
    by_rest (c ∷ rest) = plain

directory_plain : (s : Switches) (path : List ℕ) → begins_plain (directory_of s path) ≡ true
directory_plain s path = by_switch s.drops_last_slashes
  where
    by_switch : (drops : Bool) → begins_plain (cond drops (without_last_slashes (without_first_slashes path)) (without_first_slashes path)) ≡ true
    by_switch true = stays_plain (without_first_slashes path) (first_plain path)
    by_switch false = first_plain path

-- a text without slashes at its ends or side by side is that of its names
is_whole : (b : ℕ) (bs : List ℕ) → begins_plain (b ∷ bs) ≡ true → has_double_slash (b ∷ bs) ≡ false → ends_in_slash (b ∷ bs) ≡ false → 47 ∷ b ∷ bs ≡ slashed (names_of (b ∷ bs))
is_whole b bs plain lone ends =
    is_as_it_stands (47 ∷ b ∷ bs) 0 (omega arith) refl
    (ap (λ (k : ℕ). is_slash (get_or (47 ∷ b ∷ bs) k 0)) last ∙ ap (is_some_and is_slash) (sym (slice_get-get_or (b ∷ bs) (length (b ∷ bs) - 1) 0 (omega arith))) ∙ ends)
    (rw (not-true (is_slash b) plain) lone)
    ∙ ap slashed (names_of-slashes (47 ∷ []) (b ∷ bs) refl)
  where
    last : length (47 ∷ b ∷ bs) - 1 ≡ suc (length (b ∷ bs) - 1)
    last = omega arith

-- an inode lies in such a directory of a grant where its names begin with those of the directory
pub directory_as_names : (s : Switches) (path : List ℕ) (names : List (List ℕ)) → has_double_slash (directory_of s path) ≡ false → ends_in_slash (directory_of s path) ≡ false → All (λ name. IsTrue (is_name name)) names
    → lies_in (directory_of s path) (path_text names) ≡ starts_with bytes_eq names (names_of (directory_of s path))
directory_as_names s path names lone ends valid = by_text (directory_of s path) (directory_plain s path) lone ends
  where
    by_text : (d : List ℕ) → begins_plain d ≡ true → has_double_slash d ≡ false → ends_in_slash d ≡ false → lies_in d (path_text names) ≡ starts_with bytes_eq names (names_of d)
    by_text [] plain lone ends = refl
    by_text (b ∷ bs) plain lone ends = lies_as_names (b ∷ bs) (omega arith) ends (is_whole b bs plain lone ends) names valid
