-- What the length of a path's text and its slashes tell about its names.
use Rattle.std.proofs.Common.{◌≡◌, ℕ, suc, ◌+◌, ◌*◌, ◌<◌, ◌≤◌, Bool, true, cond, leb, List, [], ◌∷◌, length, refl, ap, ◌∙◌, inl, inr, arith}
use Rattle.std.specs.Prelude.{count_by, filter}
use Rattle.std.specs.List.{list_all, onto_first, slice_split}
use Rattle.std.proofs.lemmas.Bool.{and_parts, lt-ltb}
use Rattle.std.proofs.lemmas.Bool.Decides.{nat_tests}
use Rattle.std.proofs.lemmas.List.Splits.{length-slice_split, slice_split-cons_no, slice_split-cons_yes}
use Rattle.std.proofs.lemmas.List.Sums.{count_by-le-length, length-filter}
use Rattle.byte_sets.specs.declared.sets.ByteSet.TheVariants.{Only}
use Rattle.byte_sets.specs.Sets.{SplitsWhile}
use Rattle.capspec.specs.Paths.{are_few_and_short, names_of}
use Rattle.capspec.proofs.Fronts.{which}
use Rattle.capspec.proofs.Paths.{has_bytes, is_slash, names_of-slashes}

abbrev is_within : ℕ → List ℕ → Bool
is_within most name = leb (length name) most

-- ---- no part is longer than the text

wider : (most more : ℕ) (parts : List (List ℕ)) → most ≤ more → list_all (is_within most) parts ≡ true → list_all (is_within more) parts ≡ true
wider most more [] le all = refl
wider most more (part ∷ parts) le all =
    let both = and_parts (is_within most part) (list_all (is_within most) parts) all in
    let here : is_within more part ≡ true = grind (arith, nat_tests) in
    rw here (wider most more parts le both.1)

within_onto : (most b : ℕ) (parts : List (List ℕ)) → list_all (is_within most) parts ≡ true → list_all (is_within (suc most)) (onto_first b parts) ≡ true
within_onto most b [] all =
    let here : is_within (suc most) (b ∷ []) ≡ true = grind (arith, nat_tests) in
    rw here refl
within_onto most b (part ∷ parts) all =
    let both = and_parts (is_within most part) (list_all (is_within most) parts) all in
    let here : is_within (suc most) (b ∷ part) ≡ true = grind (arith, nat_tests) in
    rw here (wider most (suc most) parts (omega arith) both.1)

nil_within : (most : ℕ) → is_within most [] ≡ true
nil_within most = grind (arith, nat_tests)

parts_within : (path : List ℕ) → list_all (is_within (length path)) (slice_split is_slash path) ≡ true
parts_within [] = refl
parts_within (b ∷ bs) = elim (which (is_slash b)) [
  | inl e ↦ ap (list_all (is_within (length (b ∷ bs)))) (slice_split-cons_yes is_slash b bs e) ∙ rw (nil_within (length (b ∷ bs))) (wider (length bs) (length (b ∷ bs)) (slice_split is_slash bs) (omega arith) (parts_within bs))
  | inr e ↦ ap (list_all (is_within (length (b ∷ bs)))) (slice_split-cons_no is_slash b bs e) ∙ within_onto (length bs) b (slice_split is_slash bs) (parts_within bs)
]

pub all_kept : (test kept : List ℕ → Bool) (parts : List (List ℕ)) → list_all test parts ≡ true → list_all test (filter kept parts) ≡ true
all_kept test kept [] all = refl
all_kept test kept (part ∷ parts) all =
    let both = and_parts (test part) (list_all test parts) all in
    elim (which (kept part)) [ inl e ↦ rw (e, both.0) (all_kept test kept parts both.1) | inr e ↦ rw e (all_kept test kept parts both.1) ]

names_within : (path : List ℕ) (most : ℕ) → length path ≤ most → list_all (is_within most) (names_of path) ≡ true
names_within path most le = wider (length path) most (names_of path) le (all_kept (is_within (length path)) has_bytes (slice_split is_slash path) (parts_within path))

few_within : (path : List ℕ) → length (names_of path) ≤ 32 → length path ≤ 255 → are_few_and_short (names_of path) ≡ true
few_within path few le =
    let is_few : leb (length (names_of path)) 32 ≡ true = grind (arith, nat_tests) in
    rw (is_few, names_within path 255 le) refl

-- ---- few slashes have few parts between them

few_slashes : (path : List ℕ) → length path ≤ 255 → count_by is_slash path < 32 → are_few_and_short (names_of path) ≡ true
few_slashes path le few =
    let parts : List (List ℕ) = slice_split is_slash path in
    few_within path (omega (arith, length-filter has_bytes parts, count_by-le-length has_bytes parts, length-slice_split is_slash path)) le

pub few_behind_slashes : (text front rest : List ℕ) → SplitsWhile (Only 47) text front rest → length rest ≤ 255 → count_by is_slash rest < 32 → are_few_and_short (names_of text) ≡ true
few_behind_slashes text front rest cut le few = ap are_few_and_short (ap names_of cut.parts ∙ names_of-slashes front rest cut.all_in) ∙ few_slashes rest le few

-- ---- a name has a byte, and a slash between it and the next

-- whether the first part is a name, as a number
abbrev first_name : List (List ℕ) → ℕ
first_name [] = 0
first_name (part ∷ parts) = cond (has_bytes part) 1 0

room_onto : (b n : ℕ) (parts : List (List ℕ)) → 2 * length (filter has_bytes parts) ≤ n + first_name parts → 2 * length (filter has_bytes (onto_first b parts)) ≤ suc n + first_name (onto_first b parts)
room_onto b n [] room = omega arith
room_onto b n ([] ∷ parts) room = omega arith
room_onto b n ((c ∷ cs) ∷ parts) room =
    let some : has_bytes (c ∷ cs) ≡ true = lt-ltb 0 (length (c ∷ cs)) (omega arith) in
    let more : has_bytes (b ∷ c ∷ cs) ≡ true = lt-ltb 0 (length (b ∷ c ∷ cs)) (omega arith) in
    let room' : 2 * length ((c ∷ cs) ∷ filter has_bytes parts) ≤ n + 1 = rw some at room in
    rw more (omega (arith, room'))

first_name_le : (parts : List (List ℕ)) → first_name parts ≤ 1
first_name_le [] = omega arith
first_name_le (part ∷ parts) = elim (which (has_bytes part)) [ inl e ↦ rw e (omega arith) | inr e ↦ rw e (omega arith) ]

room_for_names : (path : List ℕ) → 2 * length (names_of path) ≤ length path + first_name (slice_split is_slash path)
room_for_names [] = omega arith
room_for_names (b ∷ bs) = elim (which (is_slash b)) [
  | inl e ↦ rw (slice_split-cons_yes is_slash b bs e) (omega (arith, room_for_names bs, first_name_le (slice_split is_slash bs)))
  | inr e ↦ rw (slice_split-cons_no is_slash b bs e) (room_onto b (length bs) (slice_split is_slash bs) (room_for_names bs))
]

pub short_path : (path : List ℕ) → length path < 64 → are_few_and_short (names_of path) ≡ true
short_path path le = few_within path (omega (arith, room_for_names path, first_name_le (slice_split is_slash path))) (omega arith)
