-- A number of 32 bits at the front of a text, as a loop reads it.
use Rattle.std.proofs.Common.{◌≡◌, ℕ, zero, suc, ◌+◌, ◌*◌, ◌<◌, ◌≤◌, ◌^◌, true, false, List, [], ◌∷◌, length, get_or, take, drop, refl, sym, ap, subst, ◌∙◌}
use Rattle.std.proofs.Common.{arith, drop_of_length-le}
use Rattle.std.proofs.lemmas.Bool.{and_parts}
use Rattle.std.proofs.lemmas.Int.Digits.{digits_more, digits_value_more}
use Rattle.std.proofs.lemmas.List.{take-append-drop}
use Rattle.std.proofs.lemmas.Str.Parse.{digits_value-take-le}
use Rattle.std.specs.Char.{digit_value}
use Rattle.std.specs.List.{list_all}
use Rattle.std.specs.Str.Parse.{AllDigits, digits_value}
use Rattle.byte_sets.specs.Sets.{begins}
use Rattle.capspec.specs.Items.{IsNumber}
use Rattle.capspec.specs.Words.{front_while, is_digit, rest_while}
use Rattle.capspec.proofs.Fronts.{front_is, rest_is}
use Rattle.byte_sets.proofs.Splits.{begins-drop}
use Rattle.capspec.proofs.Taken.{no_digit}
use Rattle.capspec.proofs.Valued.{all_digits}

-- the bytes before the end are digits, and write the number
pub record Writes (text : List ℕ) (end number : ℕ) : Type 0 where
  pub digits : AllDigits 10 (take end text)
  pub value : number ≡ digits_value 10 (take end text)

pub writes_more : (text : List ℕ) (end number digit : ℕ) → Writes text end number → end < length text → digit ≡ digit_value (get_or text end 0) → digit < 10 → Writes text (end + 1) (10 * number + digit)
writes_more text end number digit so_far within digit-is small = record {
  digits = digits_more 10 text end within so_far.digits (omega (arith, digit-is, small));
  value = omega (arith, so_far.value, digit-is, digits_value_more 10 text end within);
}

-- the digits end there
pub ends_at_byte : (text : List ℕ) (end : ℕ) → end < length text → 10 ≤ digit_value (get_or text end 0) → begins is_digit (drop end text) ≡ false
ends_at_byte text end within large = begins-drop is_digit text end within ∙ no_digit (get_or text end 0) large

pub ends_at_end : (text : List ℕ) (end : ℕ) → length text ≤ end → begins is_digit (drop end text) ≡ false
ends_at_end text end all = ap (begins is_digit) (drop_of_length-le text all)

pub front_at : (text : List ℕ) (end number : ℕ) → Writes text end number → begins is_digit (drop end text) ≡ false → front_while is_digit text ≡ take end text
front_at text end number so_far stops = ap (front_while is_digit) (sym (take-append-drop end text)) ∙ front_is is_digit (take end text) (drop end text) (all_digits (take end text) so_far.digits) stops

pub rest_at : (text : List ℕ) (end number : ℕ) → Writes text end number → begins is_digit (drop end text) ≡ false → rest_while is_digit text ≡ drop end text
rest_at text end number so_far stops = ap (rest_while is_digit) (sym (take-append-drop end text)) ∙ rest_is is_digit (take end text) (drop end text) (all_digits (take end text) so_far.digits) stops

some_taken : (text : List ℕ) (end : ℕ) → 0 < end → end ≤ length text → 0 < length (take end text)
some_taken text zero some within = absurd (omega arith)
some_taken [] (suc end) some within = absurd (omega arith)
some_taken (b ∷ bs) (suc end) some within = omega arith

pub number_read : (text : List ℕ) (end number : ℕ) → Writes text end number → begins is_digit (drop end text) ≡ false → 0 < end → end ≤ length text → number < 2 ^ 32 → IsNumber (front_while is_digit text) number
number_read text end number so_far stops some within small =
    subst (λ (digits : List ℕ). IsNumber digits number) (sym (front_at text end number so_far stops))
    (record { numeral = (some_taken text end some within, so_far.digits); value = sym so_far.value; small = small })

-- a front of digits is one of all the digits in front
front_take : (text : List ℕ) (k : ℕ) → list_all is_digit (take k text) ≡ true → take k (front_while is_digit text) ≡ take k text
front_take text zero all = refl
front_take [] (suc k) all = refl
front_take (b ∷ bs) (suc k) all =
    let both = and_parts (is_digit b) (list_all is_digit (take k bs)) all in
    rw both.0 (ap (λ (t : List ℕ). b ∷ t) (front_take bs k both.1))

-- a number that is too large at some digit stays so
pub too_large : (text : List ℕ) (end more n : ℕ) → Writes text end more → 2 ^ 32 ≤ more → IsNumber (front_while is_digit text) n → ⊥
too_large text end more n so_far large is =
    let least : digits_value 10 (take end (front_while is_digit text)) ≤ digits_value 10 (front_while is_digit text) = digits_value-take-le 10 (front_while is_digit text) end (omega arith) in
    let same : digits_value 10 (take end (front_while is_digit text)) ≡ digits_value 10 (take end text) = ap (digits_value 10) (front_take text end (all_digits (take end text) so_far.digits)) in
    omega (arith, least, same, so_far.value, large, is.value, is.small)
