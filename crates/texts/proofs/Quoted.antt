-- What is shown in quotes can be read back, and so can what stands bare before a space.
use Rattle.std.proofs.Common.{◌≡◌, ◌⊎◌, inl, inr, ℕ, ◌+◌, ◌<◌, ◌/◌, ◌%◌, Bool, true, false, cond, List, [], ◌∷◌, ◌++◌, refl, sym, ap, ◌∙◌, append_assoc}
use Rattle.std.proofs.Common.{nat_lt, arith}
use Rattle.std.specs.Prelude.{codes}
use Rattle.std.specs.Fmt.{digit_glyph}
use Rattle.std.specs.List.{flat_map, list_all}
use Rattle.std.proofs.lemmas.Bool.{and_from, and_parts, false≢true, ltb-false, ltb-true}
use Rattle.std.proofs.lemmas.List.{append_cancel_left, append_cancel_right}
use Rattle.std.proofs.lemmas.List.Folds.{list_all-append}
use Rattle.texts.specs.PartTexts.{byte_text}
use Rattle.texts.specs.Quoting.{escaped, is_control, is_mark, is_plain, quoted}

abbrev pub first_byte : List ℕ → ℕ
first_byte [] = 0
first_byte (b ∷ bytes) = b

pub clash : {A : Type 0} (a b : ℕ) → a < b → a ≡ b → A
clash a b less same = absurd (omega arith)

-- ---- one byte

one_glyph : (a b : ℕ) → digit_glyph false a ≡ digit_glyph false b → a ≡ b
one_glyph a b =
    elim (nat_lt a 10) as (λ s. nat_lt a 10 ≡ s → cond s (48 + a) (87 + a) ≡ digit_glyph false b → a ≡ b) [
      | true ↦ λ small. elim (nat_lt b 10) as (λ t. nat_lt b 10 ≡ t → 48 + a ≡ cond t (48 + b) (87 + b) → a ≡ b) [
        | true ↦ λ other same. omega arith
        | false ↦ λ other same. omega (arith, ltb-true a 10 small, ltb-false b 10 other)
      ] refl
      | false ↦ λ large. elim (nat_lt b 10) as (λ t. nat_lt b 10 ≡ t → 87 + a ≡ cond t (48 + b) (87 + b) → a ≡ b) [
        | true ↦ λ other same. omega (arith, ltb-false a 10 large, ltb-true b 10 other)
        | false ↦ λ other same. omega arith
      ] refl
    ] refl

one_byte : (a b : ℕ) → digit_glyph false (a / 16) ≡ digit_glyph false (b / 16) → digit_glyph false (a % 16) ≡ digit_glyph false (b % 16) → a ≡ b
one_byte a b high low = let h = one_glyph (a / 16) (b / 16) high in let l = one_glyph (a % 16) (b % 16) low in omega (arith, h, l)

-- the text of a byte: by digits, behind a backslash, or by itself
abbrev IsForm : ℕ → List ℕ → Type 0
IsForm x text =
    (text ≡ 92 ∷ 120 ∷ digit_glyph false (x / 16) ∷ digit_glyph false (x % 16) ∷ [])
    ⊎ (((is_mark x ≡ true) × (text ≡ 92 ∷ x ∷ [])) ⊎ ((is_mark x ≡ false) × (text ≡ x ∷ [])))

form_of : (x : ℕ) → IsForm x (escaped x)
form_of x =
    elim (is_control x) as (λ c. IsForm x (cond c (codes "\\x" ++ byte_text x) (cond (is_mark x) (92 ∷ x ∷ []) (x ∷ [])))) [
      | true ↦ inl refl
      | false ↦ elim (is_mark x) as (λ m. is_mark x ≡ m → IsForm x (cond m (92 ∷ x ∷ []) (x ∷ []))) [ true ↦ λ e. inr (inl (e, refl)) | false ↦ λ e. inr (inr (e, refl)) ] refl
    ]

no_mark : {A : Type 0} (x : ℕ) → x ≡ 92 → is_mark x ≡ false → A
no_mark x is none = absurd (false≢true (sym none ∙ ap is_mark is))

no_letter : {A : Type 0} (x : ℕ) → x ≡ 120 → is_mark x ≡ true → A
no_letter x is some = absurd (false≢true (sym (ap is_mark is) ∙ some))

-- the first byte of two texts, and what stands behind
first : (x y : ℕ) (u v s t : List ℕ) → IsForm x u → IsForm y v → u ++ s ≡ v ++ t → (x ≡ y) × (s ≡ t)
first x y u v s t (inl a) (inl b) same =
    let e : 92 ∷ 120 ∷ digit_glyph false (x / 16) ∷ digit_glyph false (x % 16) ∷ s ≡ 92 ∷ 120 ∷ digit_glyph false (y / 16) ∷ digit_glyph false (y % 16) ∷ t = ap (λ w. w ++ s) (sym a) ∙ same ∙ ap (λ w. w ++ t) b in
    let high : digit_glyph false (x / 16) ≡ digit_glyph false (y / 16) = cc in
    let low : digit_glyph false (x % 16) ≡ digit_glyph false (y % 16) = cc in
    let rest : s ≡ t = cc in
    (one_byte x y high low, rest)
first x y u v s t (inl a) (inr (inl b)) same =
    let e : 92 ∷ 120 ∷ digit_glyph false (x / 16) ∷ digit_glyph false (x % 16) ∷ s ≡ 92 ∷ y ∷ t = ap (λ w. w ++ s) (sym a) ∙ same ∙ ap (λ w. w ++ t) b.1 in
    let is : y ≡ 120 = cc in no_letter y is b.0
first x y u v s t (inl a) (inr (inr b)) same =
    let e : 92 ∷ 120 ∷ digit_glyph false (x / 16) ∷ digit_glyph false (x % 16) ∷ s ≡ y ∷ t = ap (λ w. w ++ s) (sym a) ∙ same ∙ ap (λ w. w ++ t) b.1 in
    let is : y ≡ 92 = cc in no_mark y is b.0
first x y u v s t (inr (inl a)) (inl b) same =
    let e : 92 ∷ x ∷ s ≡ 92 ∷ 120 ∷ digit_glyph false (y / 16) ∷ digit_glyph false (y % 16) ∷ t = ap (λ w. w ++ s) (sym a.1) ∙ same ∙ ap (λ w. w ++ t) b in
    let is : x ≡ 120 = cc in no_letter x is a.0
first x y u v s t (inr (inl a)) (inr (inl b)) same =
    let e : 92 ∷ x ∷ s ≡ 92 ∷ y ∷ t = ap (λ w. w ++ s) (sym a.1) ∙ same ∙ ap (λ w. w ++ t) b.1 in
    let is : x ≡ y = cc in let rest : s ≡ t = cc in (is, rest)
first x y u v s t (inr (inl a)) (inr (inr b)) same =
    let e : 92 ∷ x ∷ s ≡ y ∷ t = ap (λ w. w ++ s) (sym a.1) ∙ same ∙ ap (λ w. w ++ t) b.1 in
    let is : y ≡ 92 = cc in no_mark y is b.0
first x y u v s t (inr (inr a)) (inl b) same =
    let e : x ∷ s ≡ 92 ∷ 120 ∷ digit_glyph false (y / 16) ∷ digit_glyph false (y % 16) ∷ t = ap (λ w. w ++ s) (sym a.1) ∙ same ∙ ap (λ w. w ++ t) b in
    let is : x ≡ 92 = cc in no_mark x is a.0
first x y u v s t (inr (inr a)) (inr (inl b)) same =
    let e : x ∷ s ≡ 92 ∷ y ∷ t = ap (λ w. w ++ s) (sym a.1) ∙ same ∙ ap (λ w. w ++ t) b.1 in
    let is : x ≡ 92 = cc in no_mark x is a.0
first x y u v s t (inr (inr a)) (inr (inr b)) same =
    let e : x ∷ s ≡ y ∷ t = ap (λ w. w ++ s) (sym a.1) ∙ same ∙ ap (λ w. w ++ t) b.1 in
    let is : x ≡ y = cc in let rest : s ≡ t = cc in (is, rest)

-- ---- texts in quotes, with what stands behind the last one

-- no byte begins as the last quote does
no_quote : {A : Type 0} (x : ℕ) (u s t : List ℕ) → IsForm x u → 34 ∷ t ≡ u ++ s → A
no_quote x u s t (inl a) same =
    let e : 34 ∷ t ≡ 92 ∷ 120 ∷ digit_glyph false (x / 16) ∷ digit_glyph false (x % 16) ∷ s = same ∙ ap (λ w. w ++ s) a in
    clash 34 92 (omega arith) (ap first_byte e)
no_quote x u s t (inr (inl a)) same =
    let e : 34 ∷ t ≡ 92 ∷ x ∷ s = same ∙ ap (λ w. w ++ s) a.1 in
    clash 34 92 (omega arith) (ap first_byte e)
no_quote x u s t (inr (inr a)) same =
    let e : 34 ∷ t ≡ x ∷ s = same ∙ ap (λ w. w ++ s) a.1 in
    let is : x ≡ 34 = cc in
    absurd (false≢true (sym a.0 ∙ ap is_mark is))

inside : (xs ys s t : List ℕ) → flat_map escaped xs ++ 34 ∷ s ≡ flat_map escaped ys ++ 34 ∷ t → (xs ≡ ys) × (s ≡ t)
inside [] [] s t same = let e : 34 ∷ s ≡ 34 ∷ t = same in let rest : s ≡ t = cc in (refl, rest)
inside [] (y ∷ ys) s t same = no_quote y (escaped y) (flat_map escaped ys ++ 34 ∷ t) s (form_of y) (same ∙ append_assoc (escaped y) (flat_map escaped ys) (34 ∷ t))
inside (x ∷ xs) [] s t same = no_quote x (escaped x) (flat_map escaped xs ++ 34 ∷ s) t (form_of x) (sym same ∙ append_assoc (escaped x) (flat_map escaped xs) (34 ∷ s))
inside (x ∷ xs) (y ∷ ys) s t same =
    let one = first x y (escaped x) (escaped y) (flat_map escaped xs ++ 34 ∷ s) (flat_map escaped ys ++ 34 ∷ t) (form_of x) (form_of y)
    (sym (append_assoc (escaped x) (flat_map escaped xs) (34 ∷ s)) ∙ same ∙ append_assoc (escaped y) (flat_map escaped ys) (34 ∷ t)) in
    let more = inside xs ys s t one.1 in
    let here : x ≡ y = one.0 in
    let rest : xs ≡ ys = more.0 in
    (cc, more.1)

-- ---- texts that stand bare

-- a byte ends them that fails a test which each of theirs passes
pub parted_at : (test : ℕ → Bool) (end : ℕ) (xs ys s t : List ℕ) → test end ≡ false → list_all test xs ≡ true → list_all test ys ≡ true → xs ++ end ∷ s ≡ ys ++ end ∷ t → (xs ≡ ys) × (s ≡ t)
parted_at test end [] [] s t fails p q same = let e : end ∷ s ≡ end ∷ t = same in let rest : s ≡ t = cc in (refl, rest)
parted_at test end [] (y ∷ ys) s t fails p q same =
    let is : y ≡ end = sym (ap first_byte same) in absurd (false≢true (sym (ap test is ∙ fails) ∙ (and_parts (test y) (list_all test ys) q).0))
parted_at test end (x ∷ xs) [] s t fails p q same =
    let is : x ≡ end = ap first_byte same in absurd (false≢true (sym (ap test is ∙ fails) ∙ (and_parts (test x) (list_all test xs) p).0))
parted_at test end (x ∷ xs) (y ∷ ys) s t fails p q same =
    let e : x ∷ (xs ++ end ∷ s) ≡ y ∷ (ys ++ end ∷ t) = same in
    let here : x ≡ y = ap first_byte e in
    let behind : xs ++ end ∷ s ≡ ys ++ end ∷ t = cc in
    let more = parted_at test end xs ys s t fails (and_parts (test x) (list_all test xs) p).1 (and_parts (test y) (list_all test ys) q).1 behind in
    let rest : xs ≡ ys = more.0 in
    (cc, more.1)

pub bare_to : (end : ℕ) (xs ys s t : List ℕ) → is_plain end ≡ false → list_all is_plain xs ≡ true → list_all is_plain ys ≡ true → xs ++ end ∷ s ≡ ys ++ end ∷ t → (xs ≡ ys) × (s ≡ t)
bare_to end xs ys s t stops p q same = parted_at is_plain end xs ys s t stops p q same

-- a space ends them
pub bare : (xs ys s t : List ℕ) → list_all is_plain xs ≡ true → list_all is_plain ys ≡ true → xs ++ 32 ∷ s ≡ ys ++ 32 ∷ t → (xs ≡ ys) × (s ≡ t)
bare xs ys s t p q same = bare_to 32 xs ys s t refl p q same

-- no quote begins them
no_opening : {A : Type 0} (end : ℕ) (xs s t : List ℕ) → end < 34 → list_all is_plain xs ≡ true → xs ++ end ∷ s ≡ 34 ∷ t → A
no_opening end [] s t low p same = clash end 34 low (ap first_byte same)
no_opening end (x ∷ xs) s t low p same =
    let is : x ≡ 34 = ap first_byte same in absurd (false≢true (sym (ap is_plain is) ∙ (and_parts (is_plain x) (list_all is_plain xs) p).0))

-- ---- both

-- in quotes, and what stands behind
abbrev shown : List ℕ → List ℕ
shown xs = codes "\"" ++ (flat_map escaped xs ++ codes "\"")

opened : (xs s : List ℕ) → shown xs ++ s ≡ 34 ∷ (flat_map escaped xs ++ 34 ∷ s)
opened xs s = ap (λ (t : List ℕ). 34 ∷ t) (append_assoc (flat_map escaped xs) (codes "\"") s)

pub plain_both : (xs e : List ℕ) → list_all is_plain xs ≡ true → list_all is_plain e ≡ true → list_all is_plain (xs ++ e) ≡ true
plain_both xs e p q = list_all-append is_plain xs e ∙ and_from (list_all is_plain xs) (list_all is_plain e) p q

-- plain bytes stand behind it, and end at such a byte
before_stop : (end : ℕ) (e xs ys s t : List ℕ) → is_plain end ≡ false → end < 34 → list_all is_plain e ≡ true → quoted xs ++ (e ++ end ∷ s) ≡ quoted ys ++ (e ++ end ∷ t) → (xs ≡ ys) × (s ≡ t)
before_stop end e xs ys s t stops low plain =
    elim (list_all is_plain xs) as (λ b. list_all is_plain xs ≡ b → cond b xs (shown xs) ++ (e ++ end ∷ s) ≡ quoted ys ++ (e ++ end ∷ t) → (xs ≡ ys) × (s ≡ t)) [
      | true ↦ λ p. elim (list_all is_plain ys) as (λ b. list_all is_plain ys ≡ b → xs ++ (e ++ end ∷ s) ≡ cond b ys (shown ys) ++ (e ++ end ∷ t) → (xs ≡ ys) × (s ≡ t)) [
        | true ↦ λ q same.
            let both = bare_to end (xs ++ e) (ys ++ e) s t stops (plain_both xs e p plain) (plain_both ys e q plain) (append_assoc xs e (end ∷ s) ∙ same ∙ sym (append_assoc ys e (end ∷ t))) in
            (append_cancel_right xs ys e both.0, both.1)
        | false ↦ λ q same. no_opening end (xs ++ e) s (flat_map escaped ys ++ 34 ∷ (e ++ end ∷ t)) low (plain_both xs e p plain) (append_assoc xs e (end ∷ s) ∙ same ∙ opened ys (e ++ end ∷ t))
      ] refl
      | false ↦ λ p. elim (list_all is_plain ys) as (λ b. list_all is_plain ys ≡ b → shown xs ++ (e ++ end ∷ s) ≡ cond b ys (shown ys) ++ (e ++ end ∷ t) → (xs ≡ ys) × (s ≡ t)) [
        | true ↦ λ q same. no_opening end (ys ++ e) t (flat_map escaped xs ++ 34 ∷ (e ++ end ∷ s)) low (plain_both ys e q plain) (append_assoc ys e (end ∷ t) ∙ sym same ∙ opened xs (e ++ end ∷ s))
        | false ↦ λ q same.
            let all : 34 ∷ (flat_map escaped xs ++ 34 ∷ (e ++ end ∷ s)) ≡ 34 ∷ (flat_map escaped ys ++ 34 ∷ (e ++ end ∷ t)) = sym (opened xs (e ++ end ∷ s)) ∙ same ∙ opened ys (e ++ end ∷ t) in
            let behind : flat_map escaped xs ++ 34 ∷ (e ++ end ∷ s) ≡ flat_map escaped ys ++ 34 ∷ (e ++ end ∷ t) = cc in
            let both = inside xs ys (e ++ end ∷ s) (e ++ end ∷ t) behind in
            let tails : end ∷ s ≡ end ∷ t = append_cancel_left e (end ∷ s) (end ∷ t) both.1 in
            let rest : s ≡ t = cc in
            (both.0, rest)
      ] refl
    ] refl

-- a space ends these
pub before_word : (e xs ys s t : List ℕ) → list_all is_plain e ≡ true → quoted xs ++ (e ++ 32 ∷ s) ≡ quoted ys ++ (e ++ 32 ∷ t) → (xs ≡ ys) × (s ≡ t)
before_word e xs ys s t plain same = before_stop 32 e xs ys s t refl (omega arith) plain same

pub before_a_line_feed : (xs ys s t : List ℕ) → quoted xs ++ 10 ∷ s ≡ quoted ys ++ 10 ∷ t → (xs ≡ ys) × (s ≡ t)
before_a_line_feed xs ys s t same = before_stop 10 [] xs ys s t refl (omega arith) refl same

pub before_a_space : (xs ys s t : List ℕ) → quoted xs ++ 32 ∷ s ≡ quoted ys ++ 32 ∷ t → (xs ≡ ys) × (s ≡ t)
before_a_space xs ys s t same = before_word [] xs ys s t refl same

pub alone : (xs ys : List ℕ) → quoted xs ≡ quoted ys → xs ≡ ys
alone xs ys same = (before_a_space xs ys [] [] (ap (λ (w : List ℕ). w ++ 32 ∷ []) same)).0
