-- Words in a line: the digits of numbers, and the letters of sets of caps.
use Rattle.std.proofs.Common.{◌≡◌, ℕ, ◌+◌, ◌<◌, ◌^◌, ◌%◌, ◌==◌, ◌&&◌, Bool, true, false, nat_lt, cond, List, [], ◌∷◌, ◌++◌, map, filter}
use Rattle.std.proofs.Common.{refl, sym, ap, ◌∙◌, append_assoc, arith}
use Rattle.std.specs.Prelude.{codes, ◌||◌}
use Rattle.std.specs.Fmt.{decimal}
use Rattle.std.specs.List.{list_all}
use Rattle.std.proofs.lemmas.Bool.{and_from, and_parts, false≢true, lt-ltb, ne_eqb}
use Rattle.std.proofs.lemmas.Fmt.{decimal_by_steps, decimal_injective}
use Rattle.std.proofs.lemmas.List.{append_cancel_left}
use Rattle.std.proofs.lemmas.List.Folds.{list_all-append}
use Rattle.capbits.specs.declared.cap.Cap.{Cap}
use Rattle.capbits.specs.declared.cap.Cap.TheVariants as cap
use Rattle.capbits.specs.declared.cap.Part.{Part}
use Rattle.capbits.specs.declared.cap.Part.TheVariants as part
use Rattle.capbits.specs.Caps.{Caps, has}
use Rattle.capbits.specs.Sets.{caps_of_part, is_empty}
use Rattle.capbits.specs.Text.{capital_of, group_of, groups_in, headed, letter_of, letters_in, or_dash, text_of}
use Rattle.capbits.proofs.Emptiness.{is_empty-no_caps}
use Rattle.capbits.proofs.Following.{text_of-injective}
use Rattle.texts.proofs.Quoted.{clash, first_byte}
use Rattle.cluster_audit.specs.Lines.{revoked_text}

-- a dash is no letter, but stands for no caps
abbrev pub is_letter : ℕ → Bool
is_letter byte = (nat_lt 58 byte && nat_lt byte 128) || (byte == 45)

abbrev pub is_digit : ℕ → Bool
is_digit byte = nat_lt 47 byte && nat_lt byte 58

-- a byte that passes is none that does not
pub differs : (test : ℕ → Bool) (b n : ℕ) → test b ≡ true → test n ≡ false → (b == n) ≡ false
differs test b n within outside = ne_eqb b n (λ e. false≢true (sym outside ∙ ap test (sym e) ∙ within))

-- ---- where a word ends

no_more : {X : Type 0} (test : ℕ → Bool) (x : ℕ) (more s : List ℕ) → test x ≡ true → test (first_byte s) ≡ false → s ≡ x ∷ more → X
no_more test x more s within ends same = absurd (false≢true (sym ends ∙ ap (λ (w : List ℕ). test (first_byte w)) same ∙ within))

pub until : (test : ℕ → Bool) (xs ys s t : List ℕ) → list_all test xs ≡ true → list_all test ys ≡ true → test (first_byte s) ≡ false → test (first_byte t) ≡ false → xs ++ s ≡ ys ++ t → (xs ≡ ys) × (s ≡ t)
until test [] [] s t p q ends too same = (refl, same)
until test [] (y ∷ ys) s t p q ends too same = no_more test y (ys ++ t) s (and_parts (test y) (list_all test ys) q).0 ends same
until test (x ∷ xs) [] s t p q ends too same = no_more test x (xs ++ s) t (and_parts (test x) (list_all test xs) p).0 too (sym same)
until test (x ∷ xs) (y ∷ ys) s t p q ends too same =
    let e : x ∷ (xs ++ s) ≡ y ∷ (ys ++ t) = same in
    let here : x ≡ y = ap first_byte e in
    let behind : xs ++ s ≡ ys ++ t = cc in
    let more = until test xs ys s t (and_parts (test x) (list_all test xs) p).1 (and_parts (test y) (list_all test ys) q).1 ends too behind in
    let rest : xs ≡ ys = more.0 in
    (cc, more.1)

-- ---- numbers

digit : (n : ℕ) → n < 10 → is_digit (48 + n) ≡ true
digit n below = and_from (nat_lt 47 (48 + n)) (nat_lt (48 + n) 58) (lt-ltb 47 (48 + n) (omega arith)) (lt-ltb (48 + n) 58 (omega arith))

pub are_digits : (n : ℕ) → n < 2 ^ 64 → list_all is_digit (decimal n) ≡ true
are_digits =
    decimal_by_steps (λ n ds. list_all is_digit ds ≡ true)
    (λ n below. and_from (is_digit (48 + n)) true (digit n below) refl)
    (λ n ds large all. list_all-append is_digit ds ((48 + n % 10) ∷ []) ∙ and_from (list_all is_digit ds) (list_all is_digit ((48 + n % 10) ∷ [])) all (and_from (is_digit (48 + n % 10)) true (digit (n % 10) (omega arith)) refl))

pub number : (m n : ℕ) (s t : List ℕ) → m < 2 ^ 64 → n < 2 ^ 64 → is_digit (first_byte s) ≡ false → is_digit (first_byte t) ≡ false → decimal m ++ s ≡ decimal n ++ t → (m ≡ n) × (s ≡ t)
number m n s t small also ends too same =
    let both = until is_digit (decimal m) (decimal n) s t (are_digits m small) (are_digits n also) ends too same in
    (decimal_injective m n small also both.0, both.1)

pub digit_first : (n : ℕ) → n < 2 ^ 64 → (s : List ℕ) → is_digit (first_byte (decimal n ++ s)) ≡ true
digit_first =
    decimal_by_steps (λ n ds. (s : List ℕ) → is_digit (first_byte (ds ++ s)) ≡ true)
    (λ n below s. digit n below)
    (λ n ds large first s. ap (λ (w : List ℕ). is_digit (first_byte w)) (append_assoc ds ((48 + n % 10) ∷ []) s) ∙ first ((48 + n % 10) ∷ s))

-- what begins with no digit begins with no number
pub no_number : {X : Type 0} (n : ℕ) (s t : List ℕ) → n < 2 ^ 64 → is_digit (first_byte t) ≡ false → decimal n ++ s ≡ t → X
no_number n s t small ends same = absurd (false≢true (sym ends ∙ ap (λ (w : List ℕ). is_digit (first_byte w)) (sym same) ∙ digit_first n small s))

-- ---- sets of caps

letter : (c : Cap) → is_letter (letter_of c) ≡ true
letter cap.P = refl
letter c = refl

capital : (p : Part) → is_letter (capital_of p) ≡ true
capital part.A = refl
capital p = refl

all_of_both : (xs ys : List ℕ) → list_all is_letter xs ≡ true → list_all is_letter ys ≡ true → list_all is_letter (xs ++ ys) ≡ true
all_of_both xs ys p q = list_all-append is_letter xs ys ∙ and_from (list_all is_letter xs) (list_all is_letter ys) p q

all_in : (s : Caps) (caps : List Cap) → list_all is_letter (letters_in s caps) ≡ true
unfolding letters_in
all_in s [] = refl
all_in s (c ∷ caps) =
    elim (has s c) as (λ b. list_all is_letter (map letter_of (cond b (c ∷ filter (has s) caps) (filter (has s) caps))) ≡ true) [
      | true ↦ and_from (is_letter (letter_of c)) (list_all is_letter (letters_in s caps)) (letter c) (all_in s caps)
      | false ↦ all_in s caps
    ]

all_headed : (k : ℕ) (xs : List ℕ) → is_letter k ≡ true → list_all is_letter xs ≡ true → list_all is_letter (headed k xs) ≡ true
all_headed k [] one all = refl
all_headed k (x ∷ xs) one all = and_from (is_letter k) (list_all is_letter (x ∷ xs)) one all

all_groups : (s : Caps) (parts : List Part) → list_all is_letter (groups_in s parts) ≡ true
unfolding groups_in group_of
all_groups s [] = refl
all_groups s (p ∷ parts) =
    let letters = letters_in s (caps_of_part p) in
    all_of_both (headed (capital_of p) letters) (groups_in s parts) (all_headed (capital_of p) letters (capital p) (all_in s (caps_of_part p))) (all_groups s parts)

all_dashed : (xs : List ℕ) → list_all is_letter xs ≡ true → list_all is_letter (or_dash xs) ≡ true
all_dashed [] all = refl
all_dashed (x ∷ xs) all = all

pub are_letters : (s : Caps) → list_all is_letter (text_of s) ≡ true
unfolding text_of
are_letters s =
    let pin = letters_in s (cap.P ∷ []) in
    let groups = groups_in s (part.A ∷ part.L ∷ part.X ∷ part.F ∷ []) in
    all_dashed (pin ++ groups) (all_of_both pin groups (all_in s (cap.P ∷ [])) (all_groups s (part.A ∷ part.L ∷ part.X ∷ part.F ∷ [])))

pub one_caps : (c d : Caps) (s t : List ℕ) → is_letter (first_byte s) ≡ false → is_letter (first_byte t) ≡ false → text_of c ++ s ≡ text_of d ++ t → (c ≡ d) × (s ≡ t)
one_caps c d s t ends too same =
    let both = until is_letter (text_of c) (text_of d) s t (are_letters c) (are_letters d) ends too same in
    (text_of-injective c d both.0, both.1)

-- ---- what is being revoked

abbrev revoking : Caps → List ℕ
revoking r = codes " (being revoked: " ++ (text_of r ++ codes ")")

pub before_why : (r : Caps) (s : List ℕ) → is_letter (first_byte (revoked_text r ++ 58 ∷ s)) ≡ false
before_why r s = elim (is_empty r) as (λ b. is_letter (first_byte (cond b [] (revoking r) ++ 58 ∷ s)) ≡ false) [ true ↦ refl | false ↦ refl ]

one_revoking : (r q : Caps) (s t : List ℕ) → revoking r ++ 58 ∷ s ≡ revoking q ++ 58 ∷ t → (r ≡ q) × (s ≡ t)
one_revoking r q s t same =
    let behind : (text_of r ++ codes ")") ++ 58 ∷ s ≡ (text_of q ++ codes ")") ++ 58 ∷ t = append_cancel_left (codes " (being revoked: ") _ _ same in
    let both = one_caps r q (codes "):" ++ s) (codes "):" ++ t) refl refl (sym (append_assoc (text_of r) (codes ")") (58 ∷ s)) ∙ behind ∙ append_assoc (text_of q) (codes ")") (58 ∷ t)) in
    (both.0, append_cancel_left (codes "):") s t both.1)

pub one_revoked : (r q : Caps) (s t : List ℕ) → revoked_text r ++ 58 ∷ s ≡ revoked_text q ++ 58 ∷ t → (r ≡ q) × (s ≡ t)
one_revoked r q s t =
    elim (is_empty r) as (λ b. is_empty r ≡ b → cond b [] (revoking r) ++ 58 ∷ s ≡ revoked_text q ++ 58 ∷ t → (r ≡ q) × (s ≡ t)) [
      | true ↦ λ e. elim (is_empty q) as (λ b. is_empty q ≡ b → 58 ∷ s ≡ cond b [] (revoking q) ++ 58 ∷ t → (r ≡ q) × (s ≡ t)) [
        | true ↦ λ f same. ((is_empty-no_caps r).0 e ∙ sym ((is_empty-no_caps q).0 f), append_cancel_left (codes ":") s t same)
        | false ↦ λ f same. clash 32 58 (omega arith) (sym (ap first_byte same))
      ] refl
      | false ↦ λ e. elim (is_empty q) as (λ b. is_empty q ≡ b → revoking r ++ 58 ∷ s ≡ cond b [] (revoking q) ++ 58 ∷ t → (r ≡ q) × (s ≡ t)) [
        | true ↦ λ f same. clash 32 58 (omega arith) (ap first_byte same)
        | false ↦ λ f same. one_revoking r q s t same
      ] refl
    ] refl
