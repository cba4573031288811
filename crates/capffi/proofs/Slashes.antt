-- Pieces of a path's text, in which two slashes may stand side by side.
use Rattle.std.proofs.Common.{◌≡◌, ℕ, ◌+◌, ◌-◌, ◌<◌, ◌≤◌, zero, suc, Bool, true, false, cond, ◌||◌, List, [], ◌∷◌, length, get_or, drop, refl, sym, ap, subst}
use Rattle.std.proofs.Common.{◌∙◌, true≢false, arith}
use Rattle.std.specs.Prelude.{count_by}
use Rattle.std.proofs.Math.Bool.{and-false, or-false}
use Rattle.std.proofs.lemmas.Bool.{or_parts}
use Rattle.std.proofs.lemmas.List.{drop-drop, length-drop}
use Rattle.std.proofs.lemmas.List.Sums.{count_by-le-length, sum_by-take-drop}
use Rattle.capspec.specs.Paths.{has_double_slash}
use Rattle.capspec.proofs.OneText.{no_pair}
use Rattle.capspec.proofs.Paths.{is_slash}

behind_first : (b : ℕ) (bytes : List ℕ) → has_double_slash (b ∷ bytes) ≡ false → has_double_slash bytes ≡ false
behind_first b [] none = refl
behind_first b (c ∷ bytes) none = (or_parts _ _ none).1

-- where none stand side by side, none do further on
behind : (k : ℕ) (text : List ℕ) → has_double_slash text ≡ false → has_double_slash (drop k text) ≡ false
behind zero text none = none
behind (suc k) [] none = refl
behind (suc k) (b ∷ text) none = behind k text (behind_first b text none)

further : (k m : ℕ) (text : List ℕ) → k ≤ m → has_double_slash (drop k text) ≡ false → has_double_slash (drop m text) ≡ false
further k m text before none =
    let place : k + (m - k) ≡ m = omega arith in
    subst (λ (n : ℕ). has_double_slash (drop n text) ≡ false) place (sym (ap has_double_slash (drop-drop (m - k) k text)) ∙ behind (m - k) (drop k text) none)

between_same : (whole from later : Bool) → (whole ≡ false → from ≡ false) → (from ≡ false → later ≡ false) → later ≡ whole → from ≡ whole
between_same false from later first second same = first refl
between_same true true later first second same = refl
between_same true false later first second same = absurd (true≢false (sym same ∙ second refl))

-- where as much stands behind a place as in the whole, as much does behind each place before it
pub before : (k m : ℕ) (text : List ℕ) → k ≤ m → has_double_slash (drop m text) ≡ has_double_slash text → has_double_slash (drop k text) ≡ has_double_slash text
before k m text first same = between_same _ _ _ (behind k text) (further k m text first) same

-- ---- a byte that is no slash stands beside two others

next_same : (text : List ℕ) (k : ℕ) → is_slash (get_or text k 0) ≡ false → has_double_slash (drop k text) ≡ has_double_slash (drop (suc k) text)
next_same [] zero other = refl
next_same [] (suc k) other = refl
next_same (b ∷ []) zero other = refl
next_same (b ∷ c ∷ bytes) zero other = rw other refl
next_same (b ∷ bytes) (suc k) other = next_same bytes k other

before_same : (text : List ℕ) (k : ℕ) → is_slash (get_or text (suc k) 0) ≡ false → has_double_slash (drop k text) ≡ has_double_slash (drop (suc k) text)
before_same [] zero other = refl
before_same [] (suc k) other = refl
before_same (b ∷ []) zero other = refl
before_same (b ∷ c ∷ bytes) zero other = rw (other, and-false (is_slash b)) refl
before_same (b ∷ bytes) (suc k) other = before_same bytes k other

pub around : (text : List ℕ) (k : ℕ) → 0 < k → is_slash (get_or text k 0) ≡ false → has_double_slash (drop (k - 1) text) ≡ has_double_slash (drop (k + 1) text)
around text k some other =
    let here : suc (k - 1) ≡ k = omega arith in
    let next : suc k ≡ k + 1 = omega arith in
    before_same text (k - 1) (subst (λ (m : ℕ). is_slash (get_or text m 0) ≡ false) (sym here) other)
    ∙ ap (λ (m : ℕ). has_double_slash (drop m text)) here
    ∙ next_same text k other
    ∙ ap (λ (m : ℕ). has_double_slash (drop m text)) next

-- ---- how many there are

-- whether a byte is a slash, as a number
abbrev one : ℕ → ℕ
one b = cond (is_slash b) 1 0

pub count_further : (k m : ℕ) (path : List ℕ) → k ≤ m → count_by is_slash (drop m path) ≤ count_by is_slash (drop k path)
count_further k m path first =
    let place : k + (m - k) ≡ m = omega arith in
    let same : drop m path ≡ drop (m - k) (drop k path) = ap (λ (n : ℕ). drop n path) (sym place) ∙ sym (drop-drop (m - k) k path) in
    omega (arith, ap (count_by is_slash) same, sum_by-take-drop one (drop k path) (m - k))

-- a part of a path is counted up to a place, and another from a place before that on, up to the last byte
pub counted_twice : (path : List ℕ) (passed_by last front back : ℕ) → last ≤ passed_by → length path ≤ last + 64 → count_by is_slash path ≤ front + count_by is_slash (drop passed_by path) → count_by is_slash (drop last path) ≤ back + count_by is_slash (drop (last + 63) path) → count_by is_slash path ≤ (front + back) + 1
counted_twice path passed_by last front back before ends one_part other =
    let end : count_by is_slash (drop (last + 63) path) ≤ 1 = omega (arith, count_by-le-length is_slash (drop (last + 63) path), length-drop (last + 63) path, ends) in
    omega (arith, count_further last passed_by path before, one_part, other, end)

-- ---- a piece at each end

ends_found : (front back whole later : Bool) → (front || later) ≡ whole → (back ≡ false → later ≡ false) → (whole ≡ false → back ≡ false) → (front || back) ≡ whole
ends_found true back whole later first more fewer = first
ends_found false true true later first more fewer = refl
ends_found false true false later first more fewer = fewer refl
ends_found false false whole later first more fewer = sym (more refl) ∙ first

-- no two stand behind the place of the last byte
last_byte : (k : ℕ) (text : List ℕ) → length text ≤ k + 1 → has_double_slash (drop k text) ≡ false
last_byte k text ends =
    let place : k ≡ (k + 1) - 1 = omega arith in
    ap (λ (n : ℕ). has_double_slash (drop n text)) place ∙ no_pair text (k + 1) ends

pub at_ends : (text : List ℕ) (front back : Bool) (k m end : ℕ) → k ≤ m → length text ≤ end + 1 → (front || has_double_slash (drop m text)) ≡ has_double_slash text → (back || has_double_slash (drop end text)) ≡ has_double_slash (drop k text) → (front || back) ≡ has_double_slash text
at_ends text front back k m end before ends first last =
    let none_behind : has_double_slash (drop end text) ≡ false = last_byte end text ends in
    let tells : back ≡ has_double_slash (drop k text) = sym (or-false back) ∙ ap (λ (t : Bool). back || t) (sym none_behind) ∙ last in
    ends_found front back (has_double_slash text) (has_double_slash (drop m text)) first (λ none. further k m text before (sym tells ∙ none)) (λ none. tells ∙ behind k text none)
