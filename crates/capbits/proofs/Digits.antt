-- Digits of a text, byte by byte.
use Rattle.std.proofs.Common.{◌≡◌, ℕ, ◌+◌, ◌*◌, ◌<◌, ◌≤◌, ◌^◌, List, [], ◌∷◌, zero, suc, length, get_or, take, arith}
use Rattle.std.proofs.Math.Nat.{pow-le-pow_right}
use Rattle.std.proofs.lemmas.Int.Digits.{digits_more, digits_value-lt, digits_value_more}
use Rattle.std.proofs.lemmas.Str.Parse.{digits_value-take-le}
use Rattle.std.specs.Char.{digit_value}
use Rattle.std.specs.Str.Parse.{AllDigits, digits_value}

-- each byte of a text of digits is a digit
pub digit_in : (radix : ℕ) (bs : List ℕ) (i : ℕ) → AllDigits radix bs → i < length bs → digit_value (get_or bs i 0) < radix
digit_in radix [] i all lt = absurd (omega arith)
digit_in radix (b ∷ bs) zero all lt = all.0
digit_in radix (b ∷ bs) (suc i) all lt = digit_in radix bs i all.1 (omega arith)

-- the number of a text is at least that of its digits up to and with the next one
pub next_number : (radix : ℕ) (bs : List ℕ) (i : ℕ) → i < length bs → 1 ≤ radix → digits_value radix (take i bs) * radix + digit_value (get_or bs i 0) ≤ digits_value radix bs
next_number radix bs i lt one = omega (arith, digits_value_more radix bs i lt, digits_value-take-le radix bs (i + 1) one)

-- four octal digits write at most twelve bits
pub mode_fits : (bs : List ℕ) → AllDigits 8 bs → length bs ≤ 4 → digits_value 8 bs ≤ 4095
mode_fits bs all short = let bound : 8 ^ length bs ≤ 8 ^ 4 = pow-le-pow_right (omega arith) short in omega (arith, digits_value-lt 8 bs all, bound)

-- the number that the digits of a text write, of at most 64 bits
pub record Writes (radix : ℕ) (text : List ℕ) (number : ℕ) : Type 0 where
  pub digits : AllDigits radix text
  pub value : number ≡ digits_value radix text
  pub fits : number < 2 ^ 64

-- what the loop over the digits of a number keeps
pub ruleset numbers = (digit_in, next_number, digits_more, digits_value_more)
