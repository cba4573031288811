-- Paths without a slash in front.
use Rattle.std.proofs.Common.{◌≡◌, ℕ, ◌+◌, ◌-◌, ◌<◌, ◌≤◌, suc, Bool, true, false, cond, ◌&&◌, ◌≢◌, eqb, ltb, leb, not, List, [], ◌∷◌, ◌++◌, length, drop}
use Rattle.std.proofs.Common.{get_or, refl, sym, ap, subst, ◌∙◌, inl, inr, arith}
use Rattle.std.specs.Prelude.{count_by, filter}
use Rattle.std.specs.List.{list_all, onto_first, slice_split}
use Rattle.std.proofs.lemmas.Bool.{and_parts, ltb-true, ne_eqb, not-true, or_from, or_parts, true≢false}
use Rattle.std.proofs.lemmas.Bool.Decides.{nat_tests}
use Rattle.std.proofs.lemmas.List.{drop_more}
use Rattle.std.proofs.lemmas.List.Splits.{slice_split-cons_no, slice_split-cons_yes}
use Rattle.std.proofs.lemmas.List.Sums.{count_by-le-length, length-filter}
use Rattle.capspec.specs.Paths.{are_few_and_short, has_double_slash, names_of, slashed}
use Rattle.capspec.proofs.Fronts.{which}
use Rattle.capspec.proofs.Measured.{all_kept, few_behind_slashes}
use Rattle.capspec.proofs.OneText.{is_as_it_stands}
use Rattle.capspec.proofs.Paths.{has_bytes, is_slash, names_of-slashes}
use Rattle.capspec.proofs.Slashed.{all_filter, all_in}
use Rattle.capffi.specs.Blocks.{bare_names, path_names}

-- ---- a path's text has its names

-- a byte of a name
abbrev is_other : ℕ → Bool
is_other b = not (is_slash b)

-- the parts behind the first byte
abbrev parts_of : List ℕ → List (List ℕ)
parts_of [] = []
parts_of (slash ∷ names) = slice_split is_slash names

onto_other : (b : ℕ) (parts : List (List ℕ)) → is_slash b ≡ false → all_in is_other parts ≡ true → all_in is_other (onto_first b parts) ≡ true
onto_other b [] e all = rw e refl
onto_other b (part ∷ parts) e all = rw e all

no_slash : (path : List ℕ) → all_in is_other (slice_split is_slash path) ≡ true
no_slash [] = refl
no_slash (b ∷ bs) =
    elim (which (is_slash b)) [
      | inl e ↦ rw (slice_split-cons_yes is_slash b bs e) (no_slash bs)
      | inr e ↦ rw (slice_split-cons_no is_slash b bs e) (onto_other b (slice_split is_slash bs) e (no_slash bs))
    ]

split_name : (name : List ℕ) (names : List (List ℕ)) → list_all is_other name ≡ true → slice_split is_slash (name ++ slashed names) ≡ name ∷ parts_of (slashed names)
split_name [] [] all = refl
split_name [] (next ∷ names) all = slice_split-cons_yes is_slash 47 (next ++ slashed names) refl
split_name (b ∷ name) names all =
    let parts = and_parts (is_other b) (list_all is_other name) all in
    rw (slice_split-cons_no is_slash b (name ++ slashed names) (not-true (is_slash b) parts.0), split_name name names parts.1) refl

parts_are : (names : List (List ℕ)) → all_in is_other names ≡ true → parts_of (slashed names) ≡ names
parts_are [] all = refl
parts_are (name ∷ names) all =
    let parts = and_parts (list_all is_other name) (all_in is_other names) all in
    split_name name names parts.0 ∙ ap (λ (ns : List (List ℕ)). name ∷ ns) (parts_are names parts.1)

-- where each has a byte, they are the names of the text
named : (names : List (List ℕ)) → list_all has_bytes names ≡ true → path_names (slashed names) ≡ parts_of (slashed names)
named [] all = refl
named ([] ∷ names) all = absurd (true≢false (sym all))
named ((b ∷ bytes) ∷ names) all = refl

all_filtered : (test : List ℕ → Bool) (parts : List (List ℕ)) → list_all test (filter test parts) ≡ true
all_filtered test [] = refl
all_filtered test (part ∷ parts) = elim (which (test part)) [ inl e ↦ rw (e, e) (all_filtered test parts) | inr e ↦ rw e (all_filtered test parts) ]

pub names_back : (path : List ℕ) → path_names (slashed (names_of path)) ≡ names_of path
names_back path =
    named (names_of path) (all_filtered has_bytes (slice_split is_slash path))
    ∙ parts_are (names_of path) (all_filter is_other (slice_split is_slash path) ∙ no_slash path)

-- ---- a slash in front, and slashes between names

pub names_behind : (path : List ℕ) → 0 < length path → get_or path 0 0 ≡ 47 → names_of (drop 1 path) ≡ names_of path
names_behind [] some first = absurd (omega (arith, some))
names_behind (b ∷ bytes) some first = subst (λ (c : ℕ). names_of bytes ≡ names_of (c ∷ bytes)) (sym first) (sym (names_of-slashes (47 ∷ []) bytes refl))

pub no_bytes : (bare : List ℕ) → length bare ≡ 0 → bare_names bare ≡ names_of bare
no_bytes [] none = refl
no_bytes (b ∷ bytes) none = absurd (omega (arith, none))

pub parted : (bare : List ℕ) → 0 < length bare → is_slash (get_or bare 0 0) ≡ false → is_slash (get_or bare (length bare - 1) 0) ≡ false → has_double_slash bare ≡ false → bare_names bare ≡ names_of bare
parted [] some first last lone = absurd (omega (arith, some))
parted (b ∷ bytes) some first last lone =
    let place : length (47 ∷ b ∷ bytes) - 1 ≡ suc (length (b ∷ bytes) - 1) = omega arith in
    let ends : is_slash (get_or (47 ∷ b ∷ bytes) (length (47 ∷ b ∷ bytes) - 1) 0) ≡ false = ap (λ (k : ℕ). is_slash (get_or (47 ∷ b ∷ bytes) k 0)) place ∙ last in
    let none : has_double_slash (47 ∷ b ∷ bytes) ≡ false = or_from (eqb b 47) (has_double_slash (b ∷ bytes)) first lone in
    ap path_names (is_as_it_stands (47 ∷ b ∷ bytes) 0 (omega arith) refl ends none) ∙ names_back (47 ∷ b ∷ bytes) ∙ names_of-slashes (47 ∷ []) (b ∷ bytes) refl

-- the same, where no slash stands behind another or in front
pub parted_behind : (bare : List ℕ) → 0 < length bare → has_double_slash (47 ∷ bare) ≡ false → get_or bare (length bare - 1) 0 ≢ 47 → bare_names bare ≡ names_of bare
parted_behind [] some lone last = absurd (omega (arith, some))
parted_behind (b ∷ bytes) some lone last =
    let apart = or_parts (is_slash b) (has_double_slash (b ∷ bytes)) lone in
    parted (b ∷ bytes) some apart.0 (ne_eqb _ _ last) apart.1

pub first_slash : (bare : List ℕ) → 0 < length bare → get_or bare 0 0 ≡ 47 → true ≡ has_double_slash (47 ∷ bare)
first_slash [] some is = absurd (omega (arith, some))
first_slash (b ∷ bytes) some is = rw is refl

pub no_first_slash : (bare : List ℕ) → 0 < length bare → get_or bare 0 0 ≢ 47 → has_double_slash bare ≡ has_double_slash (47 ∷ bare)
no_first_slash [] some other = absurd (omega (arith, some))
no_first_slash (b ∷ bytes) some other = rw (ne_eqb b 47 other) refl

-- ---- few parts

few_in_parts : (bare : List ℕ) → is_slash (get_or bare 0 0) ≡ false → length bare ≤ 255 → count_by is_slash bare < 32 → are_few_and_short (names_of bare) ≡ true
few_in_parts [] first le few = refl
few_in_parts (b ∷ bytes) first le few = few_behind_slashes (b ∷ bytes) [] (b ∷ bytes) (record { parts = refl; all_in = refl; longest = first }) le few

pub few_behind : (bare : List ℕ) → has_double_slash (47 ∷ bare) ≡ false → length bare ≤ 255 → count_by is_slash bare < 32 → are_few_and_short (names_of bare) ≡ true
few_behind [] lone le few = few_in_parts [] refl le few
few_behind (b ∷ bytes) lone le few = few_in_parts (b ∷ bytes) (or_parts (is_slash b) (has_double_slash (b ∷ bytes)) lone).0 le few

pub few_parts : (bare : List ℕ) → get_or bare 0 0 ≢ 47 → length bare ≤ 255 → count_by is_slash bare < 32 → are_few_and_short (names_of bare) ≡ true
few_parts bare first le few = few_in_parts bare (ne_eqb _ _ first) le few

-- ---- byte by byte

-- whether so many names more may come, and so many bytes more of this one
abbrev pub fits : ℕ → ℕ → List ℕ → Bool
fits names bytes [] = true
fits names bytes (b ∷ bs) = cond (is_slash b) (ltb 0 names && fits (names - 1) 255 bs) (ltb 0 bytes && fits names (bytes - 1) bs)

abbrev is_within : ℕ → List ℕ → Bool
is_within most part = leb (length part) most

-- the first part has no more bytes, the others no more than a name, and there are no more of them
abbrev AreFit : ℕ → ℕ → List (List ℕ) → Type 0
AreFit names bytes [] = ⊥
AreFit names bytes (part ∷ parts) = (length part ≤ bytes) × (length parts ≤ names) × (list_all (is_within 255) parts ≡ true)

fit_all : (names : ℕ) (parts : List (List ℕ)) → AreFit names 255 parts → (length parts ≤ names + 1) × (list_all (is_within 255) parts ≡ true)
fit_all names [] fit = absurd fit
fit_all names (part ∷ parts) fit =
    let short : length part ≤ 255 = fit.0 in
    let here : is_within 255 part ≡ true = grind (arith, nat_tests) in
    (omega (arith, fit.1), rw here fit.2)

fit_onto : (b names bytes : ℕ) (parts : List (List ℕ)) → 0 < bytes → AreFit names (bytes - 1) parts → AreFit names bytes (onto_first b parts)
fit_onto b names bytes [] some fit = absurd fit
fit_onto b names bytes (part ∷ parts) some fit = (omega (arith, some, fit.0), fit.1, fit.2)

fit_parts : (names bytes : ℕ) (path : List ℕ) → fits names bytes path ≡ true → AreFit names bytes (slice_split is_slash path)
fit_parts names bytes [] fit = (omega arith, omega arith, refl)
fit_parts names bytes (b ∷ bs) fit = elim (which (is_slash b)) [
  | inl e ↦
      let both : (ltb 0 names && fits (names - 1) 255 bs) ≡ true = rw e at fit in
      let parts = and_parts _ _ both in
      let some : 0 < names = ltb-true 0 names parts.0 in
      let rest = fit_all (names - 1) (slice_split is_slash bs) (fit_parts (names - 1) 255 bs parts.1) in
      rw (slice_split-cons_yes is_slash b bs e) (omega arith, omega (arith, some, rest.0), rest.1)
  | inr e ↦
      let both : (ltb 0 bytes && fits names (bytes - 1) bs) ≡ true = rw e at fit in
      let parts = and_parts _ _ both in
      rw (slice_split-cons_no is_slash b bs e) (fit_onto b names bytes (slice_split is_slash bs) (ltb-true 0 bytes parts.0) (fit_parts names (bytes - 1) bs parts.1))
]

pub fit_path : (path : List ℕ) → fits 31 255 path ≡ true → are_few_and_short (names_of path) ≡ true
fit_path path fit =
    let parts : List (List ℕ) = slice_split is_slash path in
    let all = fit_all 31 parts (fit_parts 31 255 path fit) in
    let few : length (names_of path) ≤ 32 = omega (arith, length-filter has_bytes parts, count_by-le-length has_bytes parts, all.0) in
    let are_few : leb (length (names_of path)) 32 ≡ true = grind (arith, nat_tests) in
    rw (are_few, all_kept (is_within 255) has_bytes parts all.1) refl

-- ---- one byte more

at : (path : List ℕ) (i : ℕ) → i < length path → drop i path ≡ get_or path i 0 ∷ drop (i + 1) path
at path i within = drop_more path i 0 within

pub fits_slash : (names bytes i : ℕ) (path : List ℕ) (byte : ℕ) → i < length path → byte ≡ get_or path i 0 → byte ≡ 47 → fits names bytes (drop i path) ≡ (ltb 0 names && fits (names - 1) 255 (drop (i + 1) path))
fits_slash names bytes i path byte within here is = rw (at path i within, sym here ∙ is) refl

pub fits_other : (names bytes i : ℕ) (path : List ℕ) (byte : ℕ) → i < length path → byte ≡ get_or path i 0 → byte ≢ 47 → fits names bytes (drop i path) ≡ (ltb 0 bytes && fits names (bytes - 1) (drop (i + 1) path))
fits_other names bytes i path byte within here other =
    let apart : is_slash (get_or path i 0) ≡ false = ap is_slash (sym here) ∙ ne_eqb _ _ other in
    rw (at path i within, apart) refl
