-- Numbers that digits write.
use Rattle.std.proofs.Common.{◌≡◌, ℕ, ◌-◌, ◌<◌, ◌≤◌, ◌^◌, min, Bool, true, false, eqb, ltb, leb, List, [], ◌∷◌, length, Option, Some, None, unwrap_or, refl}
use Rattle.std.proofs.Common.{sym, ap, subst, ◌∙◌, inl, inr, arith}
use Rattle.std.specs.List.{list_all}
use Rattle.std.specs.Option.{SomeIff}
use Rattle.std.specs.Char.{digit_value}
use Rattle.std.specs.Str.Parse.{AllDigits, IsNumeral, digits_value}
use Rattle.std.proofs.lemmas.Bool.{and_parts, leb-false, ltb-false, true≢false}
use Rattle.std.proofs.lemmas.Bool.Decides.{nat_tests}
use Rattle.capspec.specs.Words.{front_while, is_digit, rest_while}
use Rattle.capspec.proofs.Fronts.{front_all, which}
use Rattle.capspec.proofs.Taken.{no_digit}
use Rattle.release_grants.specs.Texts.{number_at}

digit_is_small : (b : ℕ) → is_digit b ≡ true → digit_value b < 10
digit_is_small b is = elim (which (ltb (digit_value b) 10)) [
  | inl small ↦ grind (arith, nat_tests)
  | inr large ↦ absurd (true≢false (sym is ∙ no_digit b (ltb-false (digit_value b) 10 large)))
]

are_digits : (bs : List ℕ) → list_all is_digit bs ≡ true → AllDigits 10 bs
are_digits [] all = tt
are_digits (b ∷ bs) all =
    let both = and_parts (is_digit b) (list_all is_digit bs) all in
    (digit_is_small b both.0, are_digits bs both.1)

-- what no digit stands behind is digits alone
pub all_is : (test : ℕ → Bool) (text : List ℕ) → eqb (length (rest_while test text)) 0 ≡ list_all test text
all_is test [] = refl
all_is test (b ∷ bs) = elim (which (test b)) [
  | inl e ↦ rw e (all_is test bs)
  | inr e ↦ let some : eqb (length (b ∷ bs)) 0 ≡ false = grind (arith, nat_tests) in rw e some
]

-- digits that write no number of 32 bits
pub number_none : (text digits : List ℕ) (r : Option ℕ) → digits ≡ front_while is_digit text → SomeIff r (IsNumeral 10 digits × (digits_value 10 digits < 2 ^ 32)) (digits_value 10 digits) → r ≡ None → number_at text ≡ None
number_none text digits r same is none =
    let no : ¬ (IsNumeral 10 digits × (digits_value 10 digits < 2 ^ 32)) = subst (λ x. SomeIff x (IsNumeral 10 digits × (digits_value 10 digits < 2 ^ 32)) (digits_value 10 digits)) none is in
    let front = front_while is_digit text in
    let never : ¬ (IsNumeral 10 front × (digits_value 10 front < 2 ^ 32)) = subst (λ (d : List ℕ). ¬ (IsNumeral 10 d × (digits_value 10 d < 2 ^ 32))) same no in
    elim (which (eqb (length front) 0)) [
      | inl e ↦ rw e refl
      | inr e ↦ elim (which (leb (2 ^ 32) (digits_value 10 front))) [
        | inl large ↦ rw (e, large) refl
        | inr small ↦ absurd (never ((grind (arith, nat_tests), are_digits front (front_all is_digit text)), leb-false (2 ^ 32) (digits_value 10 front) small))
      ]
    ]

-- digits that write none of 64 bits write more than the greatest of 63
pub capped_is : (digits : List ℕ) (r : Option ℕ) → 0 < length digits → list_all is_digit digits ≡ true → SomeIff r (IsNumeral 10 digits × (digits_value 10 digits < 2 ^ 64)) (digits_value 10 digits)
    → min (unwrap_or r (2 ^ 64 - 1)) (2 ^ 63 - 1) ≡ min (digits_value 10 digits) (2 ^ 63 - 1)
capped_is digits (Some n) some all is = ap (λ v. min v (2 ^ 63 - 1)) is.1
capped_is digits None some all never = elim (which (ltb (digits_value 10 digits) (2 ^ 64))) [
  | inl small ↦ absurd (never ((some, are_digits digits all), grind (arith, nat_tests)))
  | inr large ↦ let most : 2 ^ 64 ≤ digits_value 10 digits = ltb-false (digits_value 10 digits) (2 ^ 64) large in omega arith
]
