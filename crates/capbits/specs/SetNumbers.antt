-- A set and its number, each from the other.
use Rattle.std.specs.Prelude.{◌≡◌, ◌≢◌, ℕ, ◌+◌, ◌*◌, ◌<◌, ◌≤◌, ◌^◌, ◌==◌, ◌↔◌, IsTrue, Bool, true, false, cond, zero, suc, refl}
use Rattle.std.specs.Int.{bit_at}
use Rattle.std.specs.Int.RustNames.{bit_and}
use Rattle.std.proofs.Common.{arith, lit<, subst, ap, sym, ◌∙◌}
use Rattle.std.proofs.lemmas.Bool.Decides.{nat_tests}
use Rattle.std.proofs.lemmas.Nat.{and-not, and_comm, and_le_r}
use Rattle.std.proofs.lemmas.Nat.Bits.{and_pow, bit_at-lt, bit_at_and}
use Rattle.bitflags.specs.Sets.{known_bits, known_from}
use Rattle.capbits.specs.Table.{cap_table}
use Rattle.capbits.specs.declared.cap.Cap.{Cap}
use Rattle.capbits.specs.declared.cap.Cap.TheVariants.{As, Ax, Fa, Fb, Fc, Fl, Fr, Fs, Fw, Fx, Ls, Lx, P, Xs, Xx}
use Rattle.capbits.specs.Caps.{Caps, IsCaps, bits_of, caps_of, caps_where, has, place_of}
use Rattle.capbits.specs.Sets.{has-where, same_caps, true_eq}

-- a bit's value, where it is set
bit_value : (b v : ℕ) → b < 2 → cond (b == 1) v 0 ≡ v * b
bit_value zero v h = grind (arith)
bit_value (suc zero) v h = grind (arith)
bit_value (suc (suc b)) v h = absurd (omega arith)

-- a number without bit 1 is the sum of the values of its other bits
sixteen : (n : ℕ) → n < 2 ^ 16 → bit_at n 1 ≡ 0
    → bit_at n 0 + (4 * bit_at n 2 + (8 * bit_at n 3 + (16 * bit_at n 4 + (32 * bit_at n 5 + (64 * bit_at n 6 + (128 * bit_at n 7 + (256 * bit_at n 8
    + (512 * bit_at n 9 + (1024 * bit_at n 10 + (2048 * bit_at n 11 + (4096 * bit_at n 12 + (8192 * bit_at n 13 + (16384 * bit_at n 14 + 32768 * bit_at n 15))))))))))))) ≡ n
sixteen n h1 h2 = omega arith

-- the set of a number gives that number back
pub bits_of-caps_of : (n : ℕ) → IsCaps n → bits_of (caps_of n) ≡ n
unfolding bits_of caps_of caps_where has
bits_of-caps_of n h =
    let e : (p v : ℕ) → cond (bit_at n p == 1) v 0 ≡ v * bit_at n p = λ p v. bit_value (bit_at n p) v (bit_at-lt n p) in
    omega (arith, e 0 1, e 2 4, e 3 8, e 4 16, e 5 32, e 6 64, e 7 128, e 8 256, e 9 512, e 10 1024, e 11 2048, e 12 4096, e 13 8192, e 14 16384, e 15 32768, sixteen n h.sixteen_bits h.no_bit_1)

-- a bit's value is that many times one
one_value : (b : Bool) (v : ℕ) → cond b v 0 ≡ v * cond b 1 0
one_value true v = omega arith
one_value false v = omega arith

-- one bit is at most one
one_small : (b : Bool) → cond b 1 0 < 2
one_small true = omega arith
one_small false = omega arith

-- a set's number has none but the bits of caps
pub IsCaps-bits_of : (s : Caps) → IsCaps (bits_of s)
unfolding bits_of has
IsCaps-bits_of s = record {
  sixteen_bits = omega (arith, one_value, one_small);
  no_bit_1 = omega (arith, one_value, one_small);
}

-- the bits of the table are those of caps
pub known-IsCaps : (n : ℕ) → bit_and n (known_bits cap_table) ≡ n → IsCaps n
unfolding known_from
known-IsCaps n e = record { sixteen_bits = omega (arith, and_le_r n 65533, e); no_bit_1 = omega (arith, bit_at_and n 65533 1, ap (λ m. bit_at m 1) e) }

-- and the bits of caps are those of the table
IsCaps-known : (n : ℕ) → IsCaps n → bit_and n (known_bits cap_table) ≡ n
unfolding known_from
IsCaps-known n h = omega (arith, and-not 16 2 n (lit< tt) h.sixteen_bits, and_comm n 65533, and_comm 2 n, and_pow n 1, h.no_bit_1)

-- a number with a bit of no cap is no set's
pub no_number : (n : ℕ) → bit_and n (known_bits cap_table) ≢ n → (s : Caps) → bits_of s ≢ n
no_number n h s e = h (let P : ℕ → Type 0 = λ n. bit_and n (known_bits cap_table) ≡ n in subst P e (IsCaps-known (bits_of s) (IsCaps-bits_of s)))

-- nor is a number of more than sixteen bits
pub too_large : (n : ℕ) → 2 ^ 16 ≤ n → (s : Caps) → bits_of s ≢ n
too_large n h s e = omega (arith, (IsCaps-bits_of s).sixteen_bits)

-- the bit of a cap in the number of a set
one_bit : (b : Bool) → (cond b 1 0 == 1) ≡ b
one_bit true = refl
one_bit false = refl

bit-bits_of : (s : Caps) (c : Cap) → bit_at (bits_of s) (place_of c) ≡ cond (has s c) 1 0
unfolding bits_of has
bit-bits_of s P = omega (arith, one_value, one_small)
bit-bits_of s As = omega (arith, one_value, one_small)
bit-bits_of s Ax = omega (arith, one_value, one_small)
bit-bits_of s Ls = omega (arith, one_value, one_small)
bit-bits_of s Lx = omega (arith, one_value, one_small)
bit-bits_of s Xs = omega (arith, one_value, one_small)
bit-bits_of s Xx = omega (arith, one_value, one_small)
bit-bits_of s Fs = omega (arith, one_value, one_small)
bit-bits_of s Fx = omega (arith, one_value, one_small)
bit-bits_of s Fc = omega (arith, one_value, one_small)
bit-bits_of s Fr = omega (arith, one_value, one_small)
bit-bits_of s Fw = omega (arith, one_value, one_small)
bit-bits_of s Fb = omega (arith, one_value, one_small)
bit-bits_of s Fa = omega (arith, one_value, one_small)
bit-bits_of s Fl = omega (arith, one_value, one_small)

-- the number of a set gives that set back
pub caps_of-bits_of : (s : Caps) → caps_of (bits_of s) ≡ s
unfolding caps_of
caps_of-bits_of s = same_caps _ s (λ c. has-where _ c ∙ ap (λ n. n == 1) (bit-bits_of s c) ∙ one_bit (has s c))

-- so sets with the same number are equal
pub bits_of-injective : (a b : Caps) → bits_of a ≡ bits_of b → a ≡ b
bits_of-injective a b e = sym (caps_of-bits_of a) ∙ ap caps_of e ∙ caps_of-bits_of b

pub eq_true : (a b : ℕ) → a ≡ b → IsTrue (a == b)
eq_true a b e = grind (arith, nat_tests)

-- `==` of two `CapSet`s, which compares their numbers, tells whether the sets are equal
pub same_bits : (a b : Caps) → IsTrue (bits_of a == bits_of b) ↔ (a ≡ b)
same_bits a b = ((λ t. bits_of-injective a b (true_eq _ _ t)), (λ e. eq_true _ _ (ap bits_of e)))

-- for code that compares sets by `==`
pub ruleset equal_sets = (same_bits)

-- what the functions of a set need of its number
pub ruleset set_numbers = (bits_of-caps_of, known-IsCaps, no_number, too_large, same_bits)
