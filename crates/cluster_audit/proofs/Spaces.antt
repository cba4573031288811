-- What stands behind the first space that is in no quotes.
use Rattle.std.proofs.Common.{◌≡◌, ℕ, ◌+◌, ◌<◌, ◌≤◌, ◌^◌, ◌/◌, ◌%◌, ◌==◌, ◌&&◌, Bool, true, false, not, nat_lt, cond, List, [], ◌∷◌, ◌++◌, refl, ap, ◌∙◌}
use Rattle.std.proofs.Common.{append_assoc, arith}
use Rattle.std.specs.Prelude.{codes}
use Rattle.std.specs.Fmt.{decimal, digit_glyph}
use Rattle.std.specs.List.{flat_map, list_all}
use Rattle.std.proofs.lemmas.Bool.{and_from, and_parts, lt-ltb, ltb-false, ltb-true, ne_eqb, not_from_false, or_parts}
use Rattle.capbits.specs.Caps.{Caps}
use Rattle.capbits.specs.Text.{text_of}
use Rattle.texts.specs.PartTexts.{byte_text}
use Rattle.texts.specs.Quoting.{escaped, is_control, is_mark, is_plain, quoted}
use Rattle.cluster_audit.proofs.Words.{are_digits, are_letters, differs, is_digit, is_letter}

-- outside of quotes, inside, and inside behind a backslash
pub data Side : Type 0 where
  outside : Side
  inside : Side
  marked : Side

abbrev pub beyond : Side → List ℕ → List ℕ
beyond side [] = []
beyond outside (b ∷ more) = cond (b == 32) more (beyond (cond (b == 34) inside outside) more)
beyond inside (b ∷ more) = beyond (cond (b == 34) outside (cond (b == 92) marked inside)) more
beyond marked (b ∷ more) = beyond inside more

abbrev pub behind : List ℕ → List ℕ
behind text = beyond outside text

-- ---- words without a space and a quote

past : (test : ℕ → Bool) (xs s : List ℕ) → test 32 ≡ false → test 34 ≡ false → list_all test xs ≡ true → behind (xs ++ s) ≡ behind s
past test [] s space quote all = refl
past test (x ∷ xs) s space quote all =
    let parts = and_parts (test x) (list_all test xs) all in
    let no_space : (x == 32) ≡ false = differs test x 32 parts.0 space in
    let no_quote : (x == 34) ≡ false = differs test x 34 parts.0 quote in
    let one : behind (x ∷ (xs ++ s)) ≡ behind (xs ++ s) = λ i. cond (no_space i) (xs ++ s) (beyond (cond (no_quote i) inside outside) (xs ++ s)) in
    one ∙ past test xs s space quote parts.1

pub past_number : (n : ℕ) (s : List ℕ) → n < 2 ^ 64 → behind (decimal n ++ s) ≡ behind s
past_number n s small = past is_digit (decimal n) s refl refl (are_digits n small)

pub past_caps : (c : Caps) (s : List ℕ) → behind (text_of c ++ s) ≡ behind s
past_caps c s = past is_letter (text_of c) s refl refl (are_letters c)

pub past_plain : (xs s : List ℕ) → list_all is_plain xs ≡ true → behind (xs ++ s) ≡ behind s
past_plain xs s all = past is_plain xs s refl refl all

-- ---- texts in quotes

-- hexadecimal digits are no quote and no backslash
abbrev is_glyph : ℕ → Bool
is_glyph b = nat_lt 47 b && not (b == 92)

glyph : (d : ℕ) → is_glyph (digit_glyph false d) ≡ true
glyph d =
    elim (nat_lt d 10) as (λ b. nat_lt d 10 ≡ b → is_glyph (cond b (48 + d) (87 + d)) ≡ true) [
      | true ↦ λ small.
          let below : d < 10 = ltb-true d 10 small in
          and_from (nat_lt 47 (48 + d)) (not ((48 + d) == 92)) (lt-ltb 47 (48 + d) (omega arith)) (not_from_false ((48 + d) == 92) (ne_eqb (48 + d) 92 (λ e. omega arith)))
      | false ↦ λ large.
          let above : 10 ≤ d = ltb-false d 10 large in
          and_from (nat_lt 47 (87 + d)) (not ((87 + d) == 92)) (lt-ltb 47 (87 + d) (omega arith)) (not_from_false ((87 + d) == 92) (ne_eqb (87 + d) 92 (λ e. omega arith)))
    ] refl

past_glyph : (d : ℕ) (s : List ℕ) → beyond inside (digit_glyph false d ∷ s) ≡ beyond inside s
past_glyph d s =
    let no_quote : (digit_glyph false d == 34) ≡ false = differs is_glyph (digit_glyph false d) 34 (glyph d) refl in
    let no_mark : (digit_glyph false d == 92) ≡ false = differs is_glyph (digit_glyph false d) 92 (glyph d) refl in
    λ i. beyond (cond (no_quote i) outside (cond (no_mark i) marked inside)) s

past_other : (x : ℕ) (s : List ℕ) → is_mark x ≡ false → beyond inside (x ∷ s) ≡ beyond inside s
past_other x s other =
    let parts = or_parts (x == 34) (x == 92) other in
    let no_quote : (x == 34) ≡ false = parts.0 in
    let no_mark : (x == 92) ≡ false = parts.1 in
    λ i. beyond (cond (no_quote i) outside (cond (no_mark i) marked inside)) s

past_byte : (x : ℕ) (s : List ℕ) → beyond inside (escaped x ++ s) ≡ beyond inside s
past_byte x s =
    elim (is_control x) as (λ c. beyond inside (cond c (codes "\\x" ++ byte_text x) (cond (is_mark x) (92 ∷ x ∷ []) (x ∷ [])) ++ s) ≡ beyond inside s) [
      | true ↦ past_glyph (x / 16) (digit_glyph false (x % 16) ∷ s) ∙ past_glyph (x % 16) s
      | false ↦ elim (is_mark x) as (λ m. is_mark x ≡ m → beyond inside (cond m (92 ∷ x ∷ []) (x ∷ []) ++ s) ≡ beyond inside s) [ true ↦ λ e. refl | false ↦ λ e. past_other x s e ] refl
    ]

past_escaped : (xs s : List ℕ) → beyond inside (flat_map escaped xs ++ s) ≡ beyond inside s
past_escaped [] s = refl
past_escaped (x ∷ xs) s = ap (beyond inside) (append_assoc (escaped x) (flat_map escaped xs) s) ∙ past_byte x (flat_map escaped xs ++ s) ∙ past_escaped xs s

pub past_quoted : (xs s : List ℕ) → behind (quoted xs ++ s) ≡ behind s
past_quoted xs s =
    elim (list_all is_plain xs) as (λ b. list_all is_plain xs ≡ b → behind (cond b xs (codes "\"" ++ (flat_map escaped xs ++ codes "\"")) ++ s) ≡ behind s) [
      | true ↦ λ plain. past_plain xs s plain
      | false ↦ λ other. ap (beyond inside) (append_assoc (flat_map escaped xs) (codes "\"") s) ∙ past_escaped xs (34 ∷ s)
    ] refl
