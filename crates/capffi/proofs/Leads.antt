-- Paths as texts: where the names of one are the first of another's.
use Rattle.std.proofs.Common.{◌≡◌, ℕ, ◌<◌, ◌≤◌, Bool, true, false, ◌&&◌, ◌≢◌, eqb, List, [], ◌∷◌, length, take, drop, get_or, ◌+◌, ◌-◌, true≢false, refl, sym}
use Rattle.std.proofs.Common.{ap, ◌∙◌, inl, inr, arith}
use Rattle.std.specs.Prelude.{◌↔◌, IsTrue, bytes_eq}
use Rattle.std.specs.List.{onto_first, slice_split, starts_with}
use Rattle.std.proofs.Math.Bool.{and-false, and-true, and_assoc}
use Rattle.std.proofs.lemmas.Bool.{eqb-true, ne_eqb}
use Rattle.std.proofs.lemmas.Bool.Decides.{same_from_decides}
use Rattle.std.proofs.lemmas.Slice.Eq.{bytes_eq-Decides}
use Rattle.std.proofs.lemmas.List.{drop-drop, drop_all}
use Rattle.std.proofs.lemmas.List.Splits.{length-slice_split, slice_split-cons_no, slice_split-cons_yes}
use Rattle.std.proofs.lemmas.Cmp.{nat_eq_equiv}
use Rattle.capspec.proofs.Fronts.{which}
use Rattle.capspec.proofs.Paths.{is_slash}
use Rattle.capffi.specs.Blocks.{bare_names, path_names}

-- the text `to` is `dir`, or goes on behind it with a slash
abbrev leads : List ℕ → List ℕ → Bool
leads [] [] = true
leads [] (c ∷ to) = is_slash c
leads (b ∷ dir) [] = false
leads (b ∷ dir) (c ∷ to) = eqb b c && leads dir to

-- the first parts are these
abbrev begin : List (List ℕ) → List (List ℕ) → Bool
begin parts firsts = starts_with bytes_eq parts firsts

some_part : (bytes : List ℕ) → 0 < length (slice_split is_slash bytes)
some_part bytes = let count = length-slice_split is_slash bytes in omega arith

none_behind : (parts : List (List ℕ)) → 0 < length parts → begin ([] ∷ []) ([] ∷ parts) ≡ false
none_behind [] some = absurd (omega arith)
none_behind (part ∷ parts) some = refl

empty_first : (c : ℕ) (parts firsts : List (List ℕ)) → begin (onto_first c parts) ([] ∷ firsts) ≡ false
empty_first c [] firsts = refl
empty_first c (part ∷ parts) firsts = refl

empty_part : (b : ℕ) (parts firsts : List (List ℕ)) → begin ([] ∷ parts) (onto_first b firsts) ≡ false
empty_part b parts [] = refl
empty_part b parts (first ∷ firsts) = refl

onto_both : (b c : ℕ) (parts firsts : List (List ℕ)) → 0 < length parts → 0 < length firsts → begin (onto_first c parts) (onto_first b firsts) ≡ (eqb b c && begin parts firsts)
onto_both b c [] firsts some others = absurd (omega arith)
onto_both b c (part ∷ parts) [] some others = absurd (omega arith)
onto_both b c (part ∷ parts) (first ∷ firsts) some others = and_assoc (eqb b c) (bytes_eq first part) (begin parts firsts)

-- two bytes, of which one alone is a slash
differ : (b c : ℕ) (one other : Bool) → one ≢ other → is_slash b ≡ one → is_slash c ≡ other → eqb b c ≡ false
differ b c one other unlike e f = elim (which (eqb b c)) [ inl same ↦ absurd (unlike (sym e ∙ ap is_slash (eqb-true b c same) ∙ f)) | inr differs ↦ differs ]

-- the parts between the slashes of one text are the first of another's where it leads there
begin_is : (dir to : List ℕ) → begin (slice_split is_slash to) (slice_split is_slash dir) ≡ leads dir to
begin_is [] [] = refl
begin_is [] (c ∷ to) = elim (which (is_slash c)) [
  | inl e ↦ rw (slice_split-cons_yes is_slash c to e, e) refl
  | inr e ↦ rw (slice_split-cons_no is_slash c to e, e) (empty_first c (slice_split is_slash to) [])
]
begin_is (b ∷ dir) [] = elim (which (is_slash b)) [
  | inl e ↦ rw (slice_split-cons_yes is_slash b dir e) (none_behind (slice_split is_slash dir) (some_part dir))
  | inr e ↦ rw (slice_split-cons_no is_slash b dir e) (empty_part b [] (slice_split is_slash dir))
]
begin_is (b ∷ dir) (c ∷ to) = elim (which (is_slash b)) [
  | inl e ↦ elim (which (is_slash c)) [
    | inl f ↦
        let same : eqb b c ≡ true = rw (eqb-true b 47 e, eqb-true c 47 f) refl in
        rw (slice_split-cons_yes is_slash b dir e, slice_split-cons_yes is_slash c to f, same) (begin_is dir to)
    | inr f ↦
        rw (slice_split-cons_yes is_slash b dir e, slice_split-cons_no is_slash c to f, differ b c true false (λ t. cc) e f) (empty_first c (slice_split is_slash to) (slice_split is_slash dir))
  ]
  | inr e ↦ elim (which (is_slash c)) [
    | inl f ↦
        rw (slice_split-cons_no is_slash b dir e, slice_split-cons_yes is_slash c to f, differ b c false true (λ t. cc) e f) (empty_part b (slice_split is_slash to) (slice_split is_slash dir))
    | inr f ↦
        rw (slice_split-cons_no is_slash b dir e, slice_split-cons_no is_slash c to f)
        (onto_both b c (slice_split is_slash to) (slice_split is_slash dir) (some_part to) (some_part dir) ∙ ap (λ (t : Bool). eqb b c && t) (begin_is dir to))
  ]
]

-- ---- how a text leads to another, by its length

leads_past : (dir to : List ℕ) → length to ≤ length dir → bytes_eq dir to ≡ leads dir to
leads_past [] [] past = refl
leads_past [] (c ∷ to) past = absurd (omega (arith, past))
leads_past (b ∷ dir) [] past = refl
leads_past (b ∷ dir) (c ∷ to) past = ap (λ (t : Bool). eqb b c && t) (leads_past dir to (omega (arith, past)))

leads_slash : (dir to : List ℕ) → length dir < length to → get_or to (length dir) 0 ≡ 47 → bytes_eq (take (length dir) to) dir ≡ leads dir to
leads_slash [] [] within is = absurd (omega (arith, within))
leads_slash [] (c ∷ to) within is = rw is refl
leads_slash (b ∷ dir) [] within is = absurd (omega (arith, within))
leads_slash (b ∷ dir) (c ∷ to) within is = rw (nat_eq_equiv.symm c b) (ap (λ (t : Bool). eqb b c && t) (leads_slash dir to (omega (arith, within)) is))

leads_other : (dir to : List ℕ) → length dir < length to → get_or to (length dir) 0 ≢ 47 → false ≡ leads dir to
leads_other [] [] within other = absurd (omega (arith, within))
leads_other [] (c ∷ to) within other = sym (ne_eqb c 47 other)
leads_other (b ∷ dir) [] within other = absurd (omega (arith, within))
leads_other (b ∷ dir) (c ∷ to) within other = sym (and-false (eqb b c)) ∙ ap (λ (t : Bool). eqb b c && t) (leads_other dir to (omega (arith, within)) other)

-- ---- the same of the names

not_all : (parts : List (List ℕ)) → 0 < length parts → false ≡ begin [] parts
not_all [] some = absurd (omega arith)
not_all (part ∷ parts) some = refl

pub begin_past : (dir to : List ℕ) → 0 < length dir → length to ≤ length dir → bytes_eq dir to ≡ starts_with bytes_eq (bare_names to) (bare_names dir)
begin_past [] to some past = absurd (omega (arith, some))
begin_past (b ∷ dir) [] some past = not_all (slice_split is_slash (b ∷ dir)) (some_part (b ∷ dir))
begin_past (b ∷ dir) (c ∷ to) some past = leads_past (b ∷ dir) (c ∷ to) past ∙ sym (begin_is (b ∷ dir) (c ∷ to))

pub begin_slash : (dir to : List ℕ) → 0 < length dir → length dir < length to → get_or to (length dir) 0 ≡ 47 → bytes_eq (take (length dir) to) dir ≡ starts_with bytes_eq (bare_names to) (bare_names dir)
begin_slash [] to some within is = absurd (omega (arith, some))
begin_slash (b ∷ dir) [] some within is = absurd (omega (arith, within))
begin_slash (b ∷ dir) (c ∷ to) some within is = leads_slash (b ∷ dir) (c ∷ to) within is ∙ sym (begin_is (b ∷ dir) (c ∷ to))

pub begin_other : (dir to : List ℕ) → 0 < length dir → length dir < length to → get_or to (length dir) 0 ≢ 47 → false ≡ starts_with bytes_eq (bare_names to) (bare_names dir)
begin_other [] to some within other = absurd (omega (arith, some))
begin_other (b ∷ dir) [] some within other = absurd (omega (arith, within))
begin_other (b ∷ dir) (c ∷ to) some within other = leads_other (b ∷ dir) (c ∷ to) within other ∙ sym (begin_is (b ∷ dir) (c ∷ to))

-- the root lies above all
pub root_above : (dir to : List ℕ) → length dir < 2 → true ≡ starts_with bytes_eq (bare_names to) (path_names dir)
root_above [] to short = refl
root_above (b ∷ []) to short = refl
root_above (b ∷ c ∷ dir) to short = absurd (omega (arith, short))

-- what tells whether two texts are the same is their comparison
pub same_is : (r : Bool) (xs ys : List ℕ) → (IsTrue r ↔ (xs ≡ ys)) → r ≡ bytes_eq xs ys
same_is r xs ys reported = same_from_decides r (bytes_eq xs ys) reported (bytes_eq-Decides xs ys)

pub other_length : (xs ys : List ℕ) → length xs ≢ length ys → false ≡ bytes_eq xs ys
other_length xs ys other = elim (which (bytes_eq xs ys)) [
  | inl e ↦ absurd (other (ap length ((bytes_eq-Decides xs ys).0 e)))
  | inr e ↦ sym e
]

-- ---- piece by piece

-- where the ends of two texts are the same, so are those behind them
further_same : (k m : ℕ) (xs ys : List ℕ) → k ≤ m → bytes_eq (drop k xs) (drop k ys) ≡ true → bytes_eq (drop m xs) (drop m ys) ≡ true
further_same k m xs ys before same =
    let place : k + (m - k) ≡ m = omega arith in
    let rests : drop k xs ≡ drop k ys = (bytes_eq-Decides (drop k xs) (drop k ys)).0 same in
    let later : drop m xs ≡ drop m ys = ap (λ (n : ℕ). drop n xs) (sym place) ∙ sym (drop-drop (m - k) k xs) ∙ ap (drop (m - k)) rests ∙ drop-drop (m - k) k ys ∙ ap (λ (n : ℕ). drop n ys) place in
    (bytes_eq-Decides (drop m xs) (drop m ys)).1 later

-- the last piece of two texts is the same where all behind its place is
pub last_piece : (xs ys : List ℕ) (back : Bool) (k m : ℕ) → length xs ≡ length ys → length ys ≤ m → (back && bytes_eq (drop m xs) (drop m ys)) ≡ bytes_eq (drop k xs) (drop k ys) → back ≡ bytes_eq (drop k xs) (drop k ys)
last_piece xs ys back k m same past reported =
    let end : bytes_eq (drop m xs) (drop m ys) ≡ true = rw (drop_all m xs (omega (arith, same, past)), drop_all m ys past) refl in
    sym (and-true back) ∙ ap (λ (t : Bool). back && t) (sym end) ∙ reported

-- where it is the same, the first tells of the whole
pub first_piece : (xs ys : List ℕ) (front : Bool) (k m : ℕ) → k ≤ m → bytes_eq (drop k xs) (drop k ys) ≡ true → (front && bytes_eq (drop m xs) (drop m ys)) ≡ bytes_eq xs ys → front ≡ bytes_eq xs ys
first_piece xs ys front k m before same reported = sym (and-true front) ∙ ap (λ (t : Bool). front && t) (sym (further_same k m xs ys before same)) ∙ reported

pub other_end : (xs ys : List ℕ) (k : ℕ) → bytes_eq (drop k xs) (drop k ys) ≡ false → false ≡ bytes_eq xs ys
other_end xs ys k other = elim (which (bytes_eq xs ys)) [
  | inl e ↦
      let rests : drop k xs ≡ drop k ys = ap (drop k) ((bytes_eq-Decides xs ys).0 e) in
      absurd (true≢false (sym ((bytes_eq-Decides (drop k xs) (drop k ys)).1 rests) ∙ other))
  | inr e ↦ sym e
]

pub all_bytes : (xs ys : List ℕ) (r : Bool) → length xs ≡ length ys → (r && bytes_eq (drop (0 + length ys) xs) (drop (0 + length ys) ys)) ≡ bytes_eq (drop 0 xs) (drop 0 ys) → r ≡ bytes_eq xs ys
all_bytes xs ys r same reported = last_piece xs ys r 0 (0 + length ys) same (omega arith) reported
