-- What readers of single numbers answer.
use Rattle.std.proofs.Common.{◌≡◌, ℕ, ◌<◌, ◌≤◌, arith, Bool, true, false, List, [], ◌∷◌, length, refl, ap}
use Rattle.std.specs.Prelude.{◌&&◌, nat_lt, nat_le, Option, Some, None, Ok, Err, if◌then◌else◌}
use Rattle.std.specs.Bool.{Decides}
use Rattle.std.specs.Char.{digit_value}
use Rattle.std.specs.List.{list_all}
use Rattle.std.specs.Option.{SomeIff, ok_or}
use Rattle.std.specs.Str.Parse.{AllDigits, IsNumeral, digits_value}
use Rattle.std.proofs.lemmas.Bool.Decides.{Decides-and, Decides-ltb, nat_tests}
use Rattle.texts.specs.declared.fault.LineFault.{LineFault}
use Rattle.texts.specs.declared.fault.LineFault.TheVariants as faults
use Rattle.capexplain.specs.Values.{is_numeral, mode_in, number_below}

are_digits : (radix : ℕ) (text : List ℕ) → Decides (list_all (λ b. nat_lt (digit_value b) radix) text) (AllDigits radix text)
are_digits radix [] = (λ _. tt, λ _. refl)
are_digits radix (b ∷ bs) = Decides-and (nat_lt (digit_value b) radix) (list_all (λ c. nat_lt (digit_value c) radix) bs) (Decides-ltb (digit_value b) radix) (are_digits radix bs)

numeral_decides : (radix : ℕ) (text : List ℕ) → Decides (is_numeral radix text) (IsNumeral radix text)
numeral_decides radix text = Decides-and (nat_lt 0 (length text)) (list_all (λ b. nat_lt (digit_value b) radix) text) (Decides-ltb 0 (length text)) (are_digits radix text)

at_most : (n most : ℕ) → Decides (nat_le n most) (n ≤ most)
at_most n most = (λ passed. grind (arith, nat_tests), λ few. grind (arith, nat_tests))

-- what is there where a test passes
by_test : {A P : Type 0} (found : Option A) (test : Bool) (value : A) (fault : LineFault) → Decides test P → SomeIff found P value → ok_or found fault ≡ (if test then Ok value else Err fault)
by_test None false value fault decides none = refl
by_test None true value fault decides none = absurd (none (decides.0 refl))
by_test (Some x) false value fault decides some = let bad : false ≡ true = decides.1 some.0 in absurd (cc)
by_test (Some x) true value fault decides some = ap Ok some.1

pub number_read : (limit : ℕ) (word : List ℕ) (found : Option ℕ) → SomeIff found (IsNumeral 10 word × (digits_value 10 word < limit)) (digits_value 10 word) → ok_or found faults.Number ≡ number_below limit word
unfolding number_below
number_read limit word found is = by_test found (is_numeral 10 word && nat_lt (digits_value 10 word) limit) (digits_value 10 word) faults.Number (Decides-and (is_numeral 10 word) (nat_lt (digits_value 10 word) limit) (numeral_decides 10 word) (Decides-ltb (digits_value 10 word) limit)) is

pub mode_read : (word : List ℕ) (found : Option ℕ) → SomeIff found (IsNumeral 8 word × (length word ≤ 4)) (digits_value 8 word) → ok_or found faults.Mode ≡ mode_in word
unfolding mode_in
mode_read word found is = by_test found (is_numeral 8 word && nat_le (length word) 4) (digits_value 8 word) faults.Mode (Decides-and (is_numeral 8 word) (nat_le (length word) 4) (numeral_decides 8 word) (at_most (length word) 4)) is
