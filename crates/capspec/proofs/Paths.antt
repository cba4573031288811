-- The names of a path's text, one after the other.
use Rattle.std.proofs.Common.{◌≡◌, ℕ, ◌<◌, Bool, true, false, ◌&&◌, not, eqb, ltb, leb, List, [], ◌∷◌, ◌++◌, length, refl, sym, ap, subst, ◌∙◌, arith}
use Rattle.std.specs.Prelude.{filter}
use Rattle.std.specs.List.{AllByRecursion, list_all, slice_split}
use Rattle.std.proofs.lemmas.Bool.{and_parts, eqb-true, lt-ltb, not-false, not-true, true≢false}
use Rattle.std.proofs.lemmas.Bool.Decides.{nat_tests}
use Rattle.std.proofs.lemmas.List.{append-nil}
use Rattle.std.proofs.lemmas.List.Elements.{All-from_recursion}
use Rattle.std.proofs.lemmas.List.Splits.{slice_split-cons_yes, slice_split_at, slice_split_none}
use Rattle.byte_sets.specs.declared.sets.ByteSet.TheVariants.{AllBut, Only}
use Rattle.byte_sets.specs.Sets.{SplitsWhile, begins, is_in}
use Rattle.capspec.specs.Paths.{names_of}

abbrev pub is_slash : ℕ → Bool
is_slash b = eqb b 47

abbrev pub has_bytes : List ℕ → Bool
has_bytes name = ltb 0 (length name)

-- slashes in front have no name between them
pub names_of-slashes : (front rest : List ℕ) → list_all (is_in (Only 47)) front ≡ true → names_of (front ++ rest) ≡ names_of rest
names_of-slashes [] rest all = refl
names_of-slashes (b ∷ bs) rest all =
    let both = and_parts (is_slash b) (list_all (is_in (Only 47)) bs) all in
    ap (filter has_bytes) (slice_split-cons_yes is_slash b (bs ++ rest) both.0) ∙ names_of-slashes bs rest both.1

no_slash : (front : List ℕ) → list_all (is_in (AllBut 47)) front ≡ true → AllByRecursion (λ b. is_slash b ≡ false) front
no_slash [] all = tt
no_slash (b ∷ bs) all =
    let both = and_parts (not (is_slash b)) (list_all (is_in (AllBut 47)) bs) all in
    (not-true (is_slash b) both.0, no_slash bs both.1)

kept : (name : List ℕ) (names : List (List ℕ)) → 0 < length name → filter has_bytes (name ∷ names) ≡ name ∷ filter has_bytes names
kept name names some = rw (lt-ltb 0 (length name) some) refl

-- a name, and what follows it
pub names_of-name : (front rest : List ℕ) → 0 < length front → list_all (is_in (AllBut 47)) front ≡ true → begins (is_in (AllBut 47)) rest ≡ false → names_of (front ++ rest) ≡ front ∷ names_of rest
names_of-name front [] some all ends =
    ap names_of (append-nil front) ∙ ap (filter has_bytes) (slice_split_none is_slash front (All-from_recursion _ front (no_slash front all))) ∙ kept front [] some
names_of-name front (b ∷ bs) some all ends =
    let slash : is_slash b ≡ true = not-false (is_slash b) ends in
    ap (filter has_bytes) (slice_split_at is_slash front b bs (All-from_recursion _ front (no_slash front all)) slash) ∙ kept front (slice_split is_slash bs) some
    ∙ ap (λ (names : List (List ℕ)). front ∷ names) (sym (ap (filter has_bytes) (slice_split-cons_yes is_slash b bs slash)))

-- no name at all
names_of-none : (rest : List ℕ) (name after : List ℕ) → rest ≡ name ++ after → length name ≡ 0 → begins (is_in (AllBut 47)) after ≡ false → begins (is_in (Only 47)) rest ≡ false → names_of rest ≡ []
names_of-none rest [] [] parts none ends start = rw parts refl
names_of-none rest [] (b ∷ bs) parts none ends start =
    let slash : is_slash b ≡ true = not-false (is_slash b) ends in
    let apart : is_slash b ≡ false = subst (λ (t : List ℕ). begins (is_in (Only 47)) t ≡ false) parts start in
    absurd (true≢false (sym slash ∙ apart))
names_of-none rest (c ∷ cs) after parts none ends start = absurd (omega arith)

pub no_name : (text front rest name after : List ℕ) → SplitsWhile (Only 47) text front rest → SplitsWhile (AllBut 47) rest name after → eqb (length name) 0 ≡ true → names_of text ≡ []
no_name text front rest name after blank word none =
    ap names_of blank.parts ∙ names_of-slashes front rest blank.all_in ∙ names_of-none rest name after word.parts (eqb-true _ _ none) word.longest blank.longest

pub first_name : (text front rest name after : List ℕ) → SplitsWhile (Only 47) text front rest → SplitsWhile (AllBut 47) rest name after → eqb (length name) 0 ≡ false → names_of text ≡ name ∷ names_of after
first_name text front rest name after blank word some =
    let long : 0 < length name = grind (arith, nat_tests) in
    ap names_of blank.parts ∙ names_of-slashes front rest blank.all_in ∙ ap names_of word.parts ∙ names_of-name name after long word.all_in word.longest

-- at most n names, all of them short
abbrev pub fits : ℕ → List (List ℕ) → Bool
fits n names = leb (length names) n && list_all (λ name. leb (length name) 255) names
