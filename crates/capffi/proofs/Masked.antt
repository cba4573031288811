-- The slashes of many bytes at once, as the bits of a number.
use Rattle.std.proofs.Common.{◌≡◌, ℕ, zero, suc, ◌+◌, ◌-◌, ◌*◌, ◌/◌, ◌%◌, ◌^◌, ◌<◌, ◌≤◌, min, Bool, true, false, cond, ◌&&◌, ◌||◌, not, eqb, if◌then◌else◌}
use Rattle.std.proofs.Common.{List, [], ◌∷◌, length, map, take, drop, replicate, count_ones, true≢false, refl, sym, ap, ap₂, subst, ◌∙◌, inl, inr, arith, w8}
use Rattle.std.proofs.Common.{eqb-true, eq-eqb, pow-suc, pow_pos}
use Rattle.std.specs.Prelude.{count_by}
use Rattle.std.specs.Int.{from_bool}
use Rattle.std.proofs.lemmas.List.{drop-drop, length-drop}
use Rattle.std.proofs.lemmas.List.Sums.{count_by-le-length, sum_by-take-drop}
use Rattle.std.proofs.lemmas.Simd.{bitmask_splat, length-chunk, ones-mask_l}
use lib.Arith.{mod-mul}
use lib.Bits.{and_step, bit_and}
use lib.Lanes.{chunk, mask_l, top, zip2}
use Rattle.capspec.specs.Paths.{has_double_slash}
use Rattle.capspec.proofs.Fronts.{which}
use Rattle.capspec.proofs.Paths.{is_slash}
use Rattle.capffi.proofs.Slashes.{count_further}

-- ---- a number by its lowest bit

half : (b : Bool) (n : ℕ) → (cond b 1 0 + 2 * n) / 2 ≡ n
half true n = omega arith
half false n = omega arith

low : (b : Bool) (n : ℕ) → (cond b 1 0 + 2 * n) % 2 ≡ cond b 1 0
low true n = omega arith
low false n = omega arith

turned : (n c : ℕ) → n * 2 + c ≡ c + 2 * n
turned n c = omega arith

cut : (b : Bool) (n k : ℕ) → (cond b 1 0 + 2 * n) % 2 ^ suc k ≡ cond b 1 0 + 2 * (n % 2 ^ k)
cut b n k =
    ap (λ (p : ℕ). (cond b 1 0 + 2 * n) % p) (pow-suc 2 k) ∙ mod-mul (cond b 1 0 + 2 * n) {m = 2 ^ k} {c = 2} (pow_pos k) (omega arith)
    ∙ ap₂ (λ (x y : ℕ). x % 2 ^ k * 2 + y) (half b n) (low b n) ∙ turned (n % 2 ^ k) (cond b 1 0)

both : (a b : Bool) → min (cond b 1 0) (cond a 1 0) ≡ cond (a && b) 1 0
both true true = refl
both true false = refl
both false true = refl
both false false = refl

-- ---- a bit for each slash that stands behind another, of which the first may be one in front

abbrev pairs : ℕ → List ℕ → ℕ
pairs before [] = 0
pairs before (b ∷ bytes) = cond (is_slash before && is_slash b) 1 0 + 2 * pairs b bytes

abbrev slashes : List ℕ → ℕ
slashes bytes = mask_l (map is_slash bytes)

ands : (before : ℕ) (bytes : List ℕ) (k : ℕ) → length bytes ≤ k → bit_and (slashes bytes) ((cond (is_slash before) 1 0 + 2 * slashes bytes) % 2 ^ k) ≡ pairs before bytes
ands before [] k within = refl
ands before (b ∷ bytes) zero within = absurd (omega (arith, within))
ands before (b ∷ bytes) (suc k) within =
    let whole : ℕ = cond (is_slash b) 1 0 + 2 * slashes bytes in
    let rest : ℕ = whole % 2 ^ k in
    let behind : ℕ = cond (is_slash before) 1 0 + 2 * rest in
    ap (bit_and whole) (cut (is_slash before) whole k) ∙ and_step whole behind
    ∙ ap₂ (λ (x y : ℕ). bit_and x y * 2 + min (whole % 2) (behind % 2)) (half (is_slash b) (slashes bytes)) (half (is_slash before) rest)
    ∙ ap₂ (λ (x y : ℕ). bit_and (slashes bytes) rest * 2 + min x y) (low (is_slash b) (slashes bytes)) (low (is_slash before) rest)
    ∙ ap₂ (λ (x y : ℕ). x * 2 + y) (ands b bytes k (omega (arith, within))) (both (is_slash before) (is_slash b)) ∙ turned (pairs b bytes) (cond (is_slash before && is_slash b) 1 0)

none_more : (x y : Bool) (n : ℕ) → (x || y) ≡ false → (y ≡ false → n ≡ 0) → cond x 1 0 + 2 * n ≡ 0
none_more true y n e rest = absurd (true≢false e)
none_more false y n e rest = omega (arith, rest e)

none : (before : ℕ) (bytes : List ℕ) → has_double_slash (before ∷ bytes) ≡ false → pairs before bytes ≡ 0
none before [] e = refl
none before (b ∷ bytes) e = none_more (is_slash before && is_slash b) (has_double_slash (b ∷ bytes)) (pairs b bytes) e (none b bytes)

some_more : (x y : Bool) (n : ℕ) → (x || y) ≡ true → (y ≡ true → 0 < n) → 0 < cond x 1 0 + 2 * n
some_more true y n e rest = omega arith
some_more false y n e rest = omega (arith, rest e)

some : (before : ℕ) (bytes : List ℕ) → has_double_slash (before ∷ bytes) ≡ true → 0 < pairs before bytes
some before [] e = absurd (true≢false (sym e))
some before (b ∷ bytes) e = some_more (is_slash before && is_slash b) (has_double_slash (b ∷ bytes)) (pairs b bytes) e (some b bytes)

set_where : (n : ℕ) (b : Bool) → (b ≡ false → n ≡ 0) → (b ≡ true → 0 < n) → not (eqb n 0) ≡ b
set_where n false unset is_set = ap not (eq-eqb n 0 (unset refl))
set_where n true unset is_set = elim (which (eqb n 0)) [ inl e ↦ absurd (omega (arith, is_set refl, eqb-true n 0 e)) | inr e ↦ ap not e ]

found : (before : ℕ) (bytes : List ℕ) → not (eqb (pairs before bytes) 0) ≡ has_double_slash (before ∷ bytes)
found before bytes = set_where (pairs before bytes) (has_double_slash (before ∷ bytes)) (none before bytes) (some before bytes)

-- ---- a piece of a text, whose last byte is the first of what is left

or_more : (p a r w : Bool) → (a || r) ≡ w → ((p || a) || r) ≡ (p || w)
or_more true a r w e = refl
or_more false a r w e = e

fronts : (k : ℕ) (bytes : List ℕ) → k < length bytes → (has_double_slash (take (suc k) bytes) || has_double_slash (drop k bytes)) ≡ has_double_slash bytes
fronts k [] within = absurd (omega (arith, within))
fronts zero (b ∷ bytes) within = refl
fronts (suc k) (b ∷ []) within = absurd (omega (arith, within))
fronts (suc k) (b ∷ c ∷ bytes) within = or_more (is_slash b && is_slash c) (has_double_slash (take (suc k) (c ∷ bytes))) (has_double_slash (drop k (c ∷ bytes))) (has_double_slash (c ∷ bytes)) (fronts k (c ∷ bytes) (omega (arith, within)))

-- what a comparison with a slash gives of n bytes
abbrev mask_of : ℕ → List ℕ → ℕ → ℕ
mask_of n path start = mask_l (map (top 7) (zip2 (λ a b. cond (eqb a b) (2 ^ 8 - 1) 0) (chunk start n path) (replicate n 47))) % 2 ^ 64

abbrev mask : ℕ → List ℕ → ℕ → ℕ
mask m path start = mask_of (suc m) path start

mask_is : (m : ℕ) (path : List ℕ) (start : ℕ) → m ≤ 63 → start + suc m ≤ length path → mask m path start ≡ slashes (chunk start (suc m) path)
mask_is m path start few within = bitmask_splat w8 eqb (chunk start (suc m) path) (suc m) 47 (length-chunk start (suc m) path within) (omega (arith, few))

-- one place on
abbrev moved : ℕ → ℕ → ℕ
moved n front = ((n + n) % 2 ^ 64 + front) % 2 ^ 64

moved_is : (n front : ℕ) (b : Bool) → front ≡ cond b 1 0 → moved n front ≡ (cond b 1 0 + 2 * n) % 2 ^ 64
moved_is n front true e = omega (arith, e)
moved_is n front false e = omega (arith, e)

looked : (m : ℕ) (path : List ℕ) (start front before : ℕ) → m ≤ 63 → start + suc m ≤ length path → front ≡ cond (is_slash before) 1 0
    → (not (eqb (bit_and (mask m path start) (moved (mask m path start) front)) 0) || has_double_slash (drop (start + m) path)) ≡ has_double_slash (before ∷ drop start path)
looked m path start front before few within e =
    let bytes : List ℕ = chunk start (suc m) path in
    let short : length bytes ≤ 64 = omega (arith, length-chunk start (suc m) path within, few) in
    let bits : bit_and (slashes bytes) (moved (slashes bytes) front) ≡ pairs before bytes = ap (bit_and (slashes bytes)) (moved_is (slashes bytes) front (is_slash before) e) ∙ ands before bytes 64 short in
    let seen : not (eqb (bit_and (mask m path start) (moved (mask m path start) front)) 0) ≡ has_double_slash (before ∷ bytes) =
    ap (λ (n : ℕ). not (eqb (bit_and n (moved n front)) 0)) (mask_is m path start few within) ∙ ap (λ (n : ℕ). not (eqb n 0)) bits ∙ found before bytes in
    ap₂ (λ (x : Bool). λ (rest : List ℕ). x || has_double_slash rest) seen (sym (drop-drop m start path)) ∙ fronts (suc m) (before ∷ drop start path) (omega (arith, length-drop start path, within))

not_behind : (bytes : List ℕ) → has_double_slash (0 ∷ bytes) ≡ has_double_slash bytes
not_behind [] = refl
not_behind (b ∷ bytes) = refl

pub lone_in : (m : ℕ) (path : List ℕ) (start front : ℕ) (b : Bool) → m ≤ 63 → start + suc m ≤ length path → front ≡ from_bool b
    → (not (eqb (bit_and (mask m path start) (moved (mask m path start) front)) 0) || has_double_slash (drop (start + m) path)) ≡ has_double_slash (if b then 47 ∷ drop start path else drop start path)
lone_in m path start front true few within e = looked m path start front 47 few within e
lone_in m path start front false few within e = looked m path start front 0 few within e ∙ not_behind (drop start path)

-- the same of n bytes
pub lone_by : (n : ℕ) (path : List ℕ) (start front : ℕ) (b : Bool) → 0 < n → n ≤ 64 → start + n ≤ length path → front ≡ from_bool b
    → (not (eqb (bit_and (mask_of n path start) (moved (mask_of n path start) front)) 0) || has_double_slash (drop (start + (n - 1)) path)) ≡ has_double_slash (if b then 47 ∷ drop start path else drop start path)
lone_by n path start front b some few within e =
    let whole : suc (n - 1) ≡ n = omega (arith, some) in
    subst (λ (k : ℕ). (not (eqb (bit_and (mask_of k path start) (moved (mask_of k path start) front)) 0) || has_double_slash (drop (start + (n - 1)) path)) ≡ has_double_slash (if b then 47 ∷ drop start path else drop start path))
    whole (lone_in (n - 1) path start front b (omega (arith, few)) (omega (arith, some, within)) e)

-- ---- how many there are

counted_are : (path : List ℕ) (start : ℕ) → start + 64 ≤ length path → count_ones (mask 63 path start) ≡ count_by is_slash (chunk start 64 path)
counted_are path start within = ap count_ones (mask_is 63 path start (omega arith) within) ∙ ones-mask_l is_slash (chunk start 64 path)

pub counted_in : (path : List ℕ) (start : ℕ) → start + 64 ≤ length path → count_by is_slash (drop start path) ≤ count_ones (mask 63 path start) + count_by is_slash (drop (start + 63) path)
counted_in path start within =
    let rest : List ℕ = drop start path in
    let place : count_by is_slash (drop (start + 63) path) ≡ count_by is_slash (drop 63 rest) = ap (λ (bytes : List ℕ). count_by is_slash bytes) (sym (drop-drop 63 start path)) in
    omega (arith, counted_are path start within, sum_by-take-drop (λ b. cond (is_slash b) 1 0) rest 64, count_further 63 64 rest (omega arith), place)

pub few_in : (path : List ℕ) (start : ℕ) → start + 64 ≤ length path → count_ones (mask 63 path start) ≤ 64
few_in path start within = omega (arith, counted_are path start within, count_by-le-length is_slash (chunk start 64 path), length-chunk start 64 path within)
