-- The kit's hexadecimal digits, as the texts have them.
use Rattle.std.proofs.Common.{◌≡◌, ℕ, zero, suc, ◌<◌, ◌/◌, ◌%◌, ◌==◌, ◌&&◌, Bool, true, false, inl, inr, List, [], ◌∷◌, slice_index, refl, arith}
use Rattle.std.specs.Fmt.{digit_glyph}
use Rattle.std.specs.List.{flat_map}
use Rattle.std.proofs.lemmas.Bool.{and_parts, cases_lt, eqb-true}
use Rattle.hex.specs.Hex.{IsBytes, encode_lower, encode_with, lower_digits}
use Rattle.texts.specs.PartTexts.{byte_text}

-- whether both have the same digit for a value, and for each below n
abbrev is_same : ℕ → Bool
is_same value = slice_index lower_digits value == digit_glyph false value

abbrev are_same : ℕ → Bool
are_same zero = true
are_same (suc n) = is_same n && are_same n

same-below : (n value : ℕ) → are_same n ≡ true → value < n → slice_index lower_digits value ≡ digit_glyph false value
same-below zero value same below = absurd (omega arith)
same-below (suc n) value same below =
    let parts = and_parts (is_same n) (are_same n) same in
    elim (cases_lt value n) [
      | inl less ↦ same-below n value parts.1 less
      | inr last ↦
          let here : value ≡ n = omega arith in
          rw here (eqb-true (slice_index lower_digits n) (digit_glyph false n) parts.0)
    ]

same_digit : (value : ℕ) → value < 16 → slice_index lower_digits value ≡ digit_glyph false value
same_digit value below = same-below 16 value refl below

-- two digits a byte
pub encoded : (bytes : List ℕ) → IsBytes bytes → encode_lower bytes ≡ flat_map byte_text bytes
unfolding encode_with
encoded [] small = refl
encoded (byte ∷ bytes) small =
    let here : byte < 256 = small 0 in
    let high = same_digit (byte / 16) (omega (arith, here)) in
    let low = same_digit (byte % 16) (omega arith) in
    let rest = encoded bytes (λ i. small (suc i)) in
    rw (high, low, rest) refl
