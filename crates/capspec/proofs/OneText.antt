-- Paths as one text: which texts are.
use Rattle.std.proofs.Common.{◌≡◌, ℕ, ◌+◌, ◌-◌, ◌<◌, ◌≤◌, suc, Bool, true, false, ◌&&◌, ◌||◌, not, eqb, List, [], ◌∷◌, ◌++◌, length, drop, map, get_or, codes}
use Rattle.std.proofs.Common.{refl, sym, ap, subst, ◌∙◌, inl, inr, arith, All, Bor, IsTrue, drop_of_length-le}
use Rattle.std.specs.Prelude.{filter}
use Rattle.std.specs.List.{list_all, list_any, onto_first, slice_split}
use Rattle.std.proofs.Math.Seq.{drop-cons}
use Rattle.std.proofs.lemmas.Bool.{and_parts, eqb-true, lt-ltb, not-true, or_parts, true≢false}
use Rattle.std.proofs.Math.Bool.{and_comm}
use Rattle.std.proofs.lemmas.List.{append-nil, length-drop}
use Rattle.std.proofs.lemmas.List.Elements.{All-head, All-tail, filter-append}
use Rattle.std.proofs.lemmas.List.Splits.{length-slice_split, slice_split-cons_no, slice_split-cons_yes}
use Rattle.capspec.specs.Paths.{has_double_slash, is_name, names_of, slashed}
use Rattle.capspec.proofs.Backwards.{slashed-append}
use Rattle.capspec.specs.Written.{path_text, written_path}
use Rattle.capspec.proofs.Fronts.{which}
use Rattle.capspec.proofs.Paths.{has_bytes, is_slash, names_of-slashes}
use Rattle.capspec.proofs.Slashed.{names_of_slashed, none_of}

abbrev is_other : ℕ → Bool
is_other b = not (eqb b 47)

-- there is always a part
some_part : (bytes : List ℕ) → 0 < length (slice_split is_slash bytes)
some_part bytes = let count = length-slice_split is_slash bytes in omega arith

onto_first-append : (b : ℕ) (parts more : List (List ℕ)) → 0 < length parts → onto_first b (parts ++ more) ≡ onto_first b parts ++ more
onto_first-append b [] more some = absurd (omega arith)
onto_first-append b (part ∷ parts) more some = refl

split-append : (a r : List ℕ) → slice_split is_slash (a ++ 47 ∷ r) ≡ slice_split is_slash a ++ slice_split is_slash r
split-append [] r = slice_split-cons_yes is_slash 47 r refl
split-append (b ∷ bs) r =
    let parts : List (List ℕ) = slice_split is_slash r in
    elim (which (is_slash b)) [
      | inl e ↦
          slice_split-cons_yes is_slash b (bs ++ 47 ∷ r) e ∙ ap (λ (ps : List (List ℕ)). [] ∷ ps) (split-append bs r) ∙ ap (λ (ps : List (List ℕ)). ps ++ parts) (sym (slice_split-cons_yes is_slash b bs e))
      | inr e ↦
          slice_split-cons_no is_slash b (bs ++ 47 ∷ r) e ∙ ap (onto_first b) (split-append bs r) ∙ onto_first-append b (slice_split is_slash bs) parts (some_part bs)
          ∙ ap (λ (ps : List (List ℕ)). ps ++ parts) (sym (slice_split-cons_no is_slash b bs e))
    ]

pub names-append : (a r : List ℕ) → names_of (a ++ 47 ∷ r) ≡ names_of a ++ names_of (47 ∷ r)
names-append a r =
    ap (filter has_bytes) (split-append a r) ∙ filter-append has_bytes (slice_split is_slash a) (slice_split is_slash r)
    ∙ ap (λ (names : List (List ℕ)). names_of a ++ names) (sym (names_of-slashes (47 ∷ []) r refl))

-- a list of names is that of its text
pub name_has_bytes : (name : List ℕ) → IsTrue (is_name name) → (has_bytes name ≡ true) × (list_all is_other name ≡ true)
name_has_bytes name is =
    let both = and_parts (has_bytes name) (not (list_any is_slash name)) is in
    (both.0, none_of is_slash name (not-true (list_any is_slash name) both.1))

abbrev are_texts : List (Bor (List ℕ)) → List (List ℕ)
are_texts names = map (λ name. name.now) names

all_have_bytes : (names : List (Bor (List ℕ))) → All (λ name. IsTrue (is_name name.now)) names → list_all has_bytes (are_texts names) ≡ true
all_have_bytes [] all = refl
all_have_bytes (name ∷ names) all = rw ((name_has_bytes name.now (All-head (λ (n : Bor (List ℕ)). IsTrue (is_name n.now)) name names all)).0) (all_have_bytes names (All-tail (λ (n : Bor (List ℕ)). IsTrue (is_name n.now)) name names all))

all_apart : (names : List (Bor (List ℕ))) → All (λ name. IsTrue (is_name name.now)) names → list_all (list_all is_other) (are_texts names) ≡ true
all_apart [] all = refl
all_apart (name ∷ names) all = rw ((name_has_bytes name.now (All-head (λ (n : Bor (List ℕ)). IsTrue (is_name n.now)) name names all)).1) (all_apart names (All-tail (λ (n : Bor (List ℕ)). IsTrue (is_name n.now)) name names all))

pub names_back : (names : List (Bor (List ℕ))) → All (λ name. IsTrue (is_name name.now)) names → names_of (slashed (are_texts names)) ≡ are_texts names
names_back names all = names_of_slashed (are_texts names) (all_have_bytes names all) (all_apart names all)

-- what is to come of a path's text, one name less each turn
pub rest-cons : (names : List (Bor (List ℕ))) (k : ℕ) (d : Bor (List ℕ)) → k < length names → slashed (are_texts (drop k names)) ≡ (47 ∷ (get_or names k d).now) ++ slashed (are_texts (drop (k + 1) names))
rest-cons names k d inside =
    let next : suc k ≡ k + 1 = omega arith in
    rw (drop-cons names k d) (ap (λ (m : ℕ). (47 ∷ (get_or names k d).now) ++ slashed (are_texts (drop m names))) next)

-- nothing is to come
pub none_left : (text : List ℕ) (names : List (Bor (List ℕ))) (k : ℕ) → length names ≤ k → text ≡ text ++ slashed (are_texts (drop k names))
none_left text names k past = sym (append-nil text) ∙ ap (λ (ns : List (Bor (List ℕ))). text ++ slashed (are_texts ns)) (sym (drop_of_length-le names past))

pub all_written : (text : List ℕ) (names : List (Bor (List ℕ))) (k : ℕ) → length names ≤ k → text ++ slashed (are_texts (drop k names)) ≡ slashed (are_texts names) → text ≡ slashed (are_texts names)
all_written text names k past written = none_left text names k past ∙ written

-- Whether a text is its names with a slash before each, as the bytes tell one by one: behind a slash or not, what is to come goes well.
abbrev pub goes_well : Bool → List ℕ → Bool
goes_well behind_slash [] = not behind_slash
goes_well behind_slash (b ∷ bs) = not (is_slash b && behind_slash) && goes_well (is_slash b) bs

abbrev front_of : List (List ℕ) → List ℕ
front_of [] = []
front_of (part ∷ parts) = part

abbrev behind_of : List (List ℕ) → List (List ℕ)
behind_of [] = []
behind_of (part ∷ parts) = filter has_bytes parts

-- the bytes up to a slash, and the names behind them
abbrev front : List ℕ → List ℕ
front bytes = front_of (slice_split is_slash bytes)

abbrev behind : List ℕ → List (List ℕ)
behind bytes = behind_of (slice_split is_slash bytes)

first_kept : (b : ℕ) (parts : List (List ℕ)) → filter has_bytes (onto_first b parts) ≡ (b ∷ front_of parts) ∷ behind_of parts
first_kept b [] = refl
first_kept b (part ∷ parts) = rw (lt-ltb 0 (length (b ∷ part)) (omega arith)) refl

names_first : (b : ℕ) (rest : List ℕ) → is_slash b ≡ false → names_of (47 ∷ b ∷ rest) ≡ (b ∷ front rest) ∷ behind rest
names_first b rest other =
    names_of-slashes (47 ∷ []) (b ∷ rest) refl ∙ ap (filter has_bytes) (slice_split-cons_no is_slash b rest other) ∙ first_kept b (slice_split is_slash rest)

front_onto : (b : ℕ) (parts : List (List ℕ)) → front_of (onto_first b parts) ≡ b ∷ front_of parts
front_onto b [] = refl
front_onto b (part ∷ parts) = refl

behind_onto : (b : ℕ) (parts : List (List ℕ)) → behind_of (onto_first b parts) ≡ behind_of parts
behind_onto b [] = refl
behind_onto b (part ∷ parts) = refl

names_second : (b c : ℕ) (rest : List ℕ) → is_slash b ≡ false → is_slash c ≡ false → names_of (47 ∷ b ∷ c ∷ rest) ≡ (b ∷ c ∷ front rest) ∷ behind rest
names_second b c rest other another =
    let cut : slice_split is_slash (c ∷ rest) ≡ onto_first c (slice_split is_slash rest) = slice_split-cons_no is_slash c rest another in
    names_first b (c ∷ rest) other ∙ ap (λ (bytes : List ℕ). (b ∷ bytes) ∷ behind (c ∷ rest)) (ap front_of cut ∙ front_onto c (slice_split is_slash rest))
    ∙ ap (λ (names : List (List ℕ)). (b ∷ c ∷ front rest) ∷ names) (ap behind_of cut ∙ behind_onto c (slice_split is_slash rest))

-- a name with a byte more in front
longer : (b c : ℕ) (rest : List ℕ) → is_slash b ≡ false → is_slash c ≡ false → slashed (names_of (47 ∷ c ∷ rest)) ≡ 47 ∷ c ∷ rest → slashed (names_of (47 ∷ b ∷ c ∷ rest)) ≡ 47 ∷ b ∷ c ∷ rest
longer b c rest other another shorter =
    let same : front rest ++ slashed (behind rest) ≡ rest = ap (drop 2) (sym (ap slashed (names_first c rest another)) ∙ shorter) in
    ap slashed (names_second b c rest other another) ∙ ap (λ (bytes : List ℕ). 47 ∷ b ∷ c ∷ bytes) same

one : (b : ℕ) → is_slash b ≡ false → slashed (names_of (47 ∷ b ∷ [])) ≡ 47 ∷ b ∷ []
one b other = ap slashed (names_first b [] other)

-- a name of one byte before the others
before : (b d : ℕ) (rest : List ℕ) → is_slash b ≡ false → slashed (names_of (47 ∷ d ∷ rest)) ≡ 47 ∷ d ∷ rest → slashed (names_of (47 ∷ b ∷ 47 ∷ d ∷ rest)) ≡ 47 ∷ b ∷ 47 ∷ d ∷ rest
before b d rest other others =
    ap slashed (names-append (47 ∷ b ∷ []) (d ∷ rest)) ∙ slashed-append (names_of (47 ∷ b ∷ [])) (names_of (47 ∷ d ∷ rest))
    ∙ ap (λ (bytes : List ℕ). bytes ++ slashed (names_of (47 ∷ d ∷ rest))) (one b other) ∙ ap (λ (bytes : List ℕ). 47 ∷ b ∷ bytes) others

-- behind a byte that is no slash, the next goes well
well_next : (c : ℕ) (rest : List ℕ) → goes_well false (c ∷ rest) ≡ true → goes_well (is_slash c) rest ≡ true
well_next c rest well = (and_parts (not (is_slash c && false)) (goes_well (is_slash c) rest) well).1

-- behind a slash stands another byte
other_next : (d : ℕ) (rest : List ℕ) → goes_well true (d ∷ rest) ≡ true → (is_slash d ≡ false) × (goes_well false rest ≡ true)
other_next d rest well =
    let both = and_parts (not (is_slash d && true)) (goes_well (is_slash d) rest) well in
    elim (which (is_slash d)) [
      | inl slash ↦ absurd (true≢false (sym both.0 ∙ rw slash refl))
      | inr other ↦ (other, subst (λ (t : Bool). goes_well t rest ≡ true) other both.1)
    ]

well_named : (b : ℕ) (rest : List ℕ) → is_slash b ≡ false → goes_well false rest ≡ true → slashed (names_of (47 ∷ b ∷ rest)) ≡ 47 ∷ b ∷ rest
well_named b [] other well = one b other
well_named b (c ∷ []) other well =
    elim (which (is_slash c)) [
      | inl slash ↦ absurd (true≢false (sym (well_next c [] well) ∙ rw slash refl))
      | inr another ↦ longer b c [] other another (one c another)
    ]
well_named b (c ∷ d ∷ rest) other well =
    elim (which (is_slash c)) [
      | inl slash ↦
          let next = other_next d rest (subst (λ (t : Bool). goes_well t (d ∷ rest) ≡ true) slash (well_next c (d ∷ rest) well)) in
          let is : c ≡ 47 = eqb-true c 47 slash in
          subst (λ (e : ℕ). slashed (names_of (47 ∷ b ∷ e ∷ d ∷ rest)) ≡ 47 ∷ b ∷ e ∷ d ∷ rest) (sym is) (before b d rest other (well_named d rest next.0 next.1))
      | inr another ↦
          let next : goes_well false (d ∷ rest) ≡ true = subst (λ (t : Bool). goes_well t (d ∷ rest) ≡ true) another (well_next c (d ∷ rest) well) in
          longer b c (d ∷ rest) other another (well_named c (d ∷ rest) another next)
    ]

-- behind one slash, the rest is the first name, and the others with a slash before each
pub well_written : (rest : List ℕ) → goes_well true rest ≡ true → 47 ∷ rest ≡ slashed (names_of (47 ∷ rest))
well_written [] well = absurd (true≢false (sym well))
well_written (b ∷ rest) well = let next = other_next b rest well in sym (well_named b rest next.0 next.1)

-- no slash at the end, and no two side by side
lone_slashes : (byte : ℕ) (bytes : List ℕ) (d : ℕ) → is_slash (get_or (byte ∷ bytes) (length bytes) d) ≡ false → has_double_slash (byte ∷ bytes) ≡ false → goes_well (is_slash byte) bytes ≡ true
lone_slashes byte [] d ends lone = rw ends refl
lone_slashes byte (next ∷ bytes) d ends lone =
    let parts = or_parts (is_slash byte && is_slash next) (has_double_slash (next ∷ bytes)) lone in
    rw (and_comm (is_slash next) (is_slash byte) ∙ parts.0) (lone_slashes next bytes d ends parts.1)

pub is_as_it_stands : (text : List ℕ) (d : ℕ) → 0 < length text → get_or text 0 d ≡ 47 → is_slash (get_or text (length text - 1) d) ≡ false → has_double_slash text ≡ false → text ≡ slashed (names_of text)
is_as_it_stands [] d some first ends lone = absurd (omega arith)
is_as_it_stands (byte ∷ bytes) d some first ends lone =
    let last : length bytes ≡ length (byte ∷ bytes) - 1 = omega arith in
    let well : goes_well (is_slash byte) bytes ≡ true = lone_slashes byte bytes d (ap (λ (k : ℕ). is_slash (get_or (byte ∷ bytes) k d)) last ∙ ends) lone in
    subst (λ (b : ℕ). b ∷ bytes ≡ slashed (names_of (b ∷ bytes))) (sym first) (well_written bytes (subst (λ (b : ℕ). goes_well (is_slash b) bytes ≡ true) first well))

-- one pair more is looked at
pub pair_step : (text : List ℕ) (k : ℕ) (d : ℕ) → 0 < k → k < length text → has_double_slash (drop (k - 1) text) ≡ ((is_slash (get_or text (k - 1) d) && is_slash (get_or text k d)) || has_double_slash (drop k text))
pair_step text k d some inside =
    let here : suc (k - 1) ≡ k = omega arith in
    ap has_double_slash (drop-cons text (k - 1) d (omega arith))
    ∙ ap (λ (m : ℕ). has_double_slash (get_or text (k - 1) d ∷ drop m text)) here
    ∙ ap (λ (bytes : List ℕ). has_double_slash (get_or text (k - 1) d ∷ bytes)) (drop-cons text k d inside)
    ∙ ap (λ (bytes : List ℕ). (is_slash (get_or text (k - 1) d) && is_slash (get_or text k d)) || has_double_slash bytes) (sym (drop-cons text k d inside))

one_byte : (bytes : List ℕ) → length bytes ≤ 1 → has_double_slash bytes ≡ false
one_byte [] short = refl
one_byte (b ∷ []) short = refl
one_byte (b ∷ c ∷ bytes) short = absurd (omega arith)

pub no_pair : (text : List ℕ) (k : ℕ) → length text ≤ k → has_double_slash (drop (k - 1) text) ≡ false
no_pair text k past = one_byte (drop (k - 1) text) (let e = length-drop (k - 1) text in omega arith)

-- the item of a path that has names
pub item_of : (names : List (List ℕ)) (text : List ℕ) → text ≡ slashed names → eqb (length text) 0 ≡ false → path_text names ≡ codes " path=" ++ written_path text
item_of [] text is some = absurd (true≢false (sym (ap (λ (t : List ℕ). eqb (length t) 0) is) ∙ some))
item_of (name ∷ names) text is some = ap (λ (t : List ℕ). codes " path=" ++ written_path t) (sym is)
