-- The bits of a union, of an intersection and of a difference, and what tests of bits say of sets.
use Rattle.std.proofs.Common.{◌≡◌, ℕ, ◌-◌, ◌<◌, ◌^◌, Bool, true, false, List, [], ◌∷◌, ◌++◌, refl, lit<, arith, subst, ◌∙◌, ap, sym}
use Rattle.std.specs.Prelude.{◌==◌, ◌↔◌, ◌&&◌, ◌||◌, not, min, max, IsTrue}
use Rattle.std.specs.Int.{bit_at, w16}
use Rattle.std.specs.Int.RustNames.{bit_and, bit_or}
use Rattle.std.proofs.lemmas.List.Folds.{list_any-append}
use Rattle.std.proofs.lemmas.Bool.Decides.{nat_tests, same_from_decides}
use Rattle.std.proofs.lemmas.Nat.{and_le_l, or_of_16}
use Rattle.std.proofs.lemmas.Nat.Bits.{bit_at-lt, bit_at_and, bit_at_not, bit_at_or}
use Rattle.capbits.specs.declared.cap.Cap.{Cap}
use Rattle.capbits.specs.declared.cap.Cap.TheVariants.{As, Ax, Fa, Fb, Fc, Fl, Fr, Fs, Fw, Fx, Ls, Lx, P, Xs, Xx}
use Rattle.capbits.specs.declared.cap.Part.{Part}
use Rattle.capbits.specs.Caps.{Caps, IsCaps, bits_of, caps_of, caps_where, has, place_of, value_of}
use Rattle.capbits.specs.Sets.{IsSubset, all_in, caps_in, caps_of_part, has-caps_in, has-meet, has-of_part, meet, members, minus, no_caps, of_part, same_caps}
use Rattle.capbits.specs.Sets.{true_eq, union}
use Rattle.capbits.specs.SetNumbers.{IsCaps-bits_of, bits_of-caps_of, caps_of-bits_of, eq_true}

max_test : (x y : ℕ) → x < 2 → y < 2 → (max x y == 1) ≡ ((x == 1) || (y == 1))
max_test x y hx hy = grind (arith, nat_tests)

min_test : (x y : ℕ) → x < 2 → y < 2 → (min x y == 1) ≡ ((x == 1) && (y == 1))
min_test x y hx hy = grind (arith, nat_tests)

less_test : (x y : ℕ) → x < 2 → y < 2 → (min x (1 - y) == 1) ≡ ((x == 1) && not (y == 1))
less_test x y hx hy = grind (arith, nat_tests)

set_or : (a b i : ℕ) → (bit_at (bit_or a b) i == 1) ≡ ((bit_at a i == 1) || (bit_at b i == 1))
set_or a b i = ap (λ n. n == 1) (bit_at_or a b i) ∙ max_test (bit_at a i) (bit_at b i) (bit_at-lt a i) (bit_at-lt b i)

set_and : (a b i : ℕ) → (bit_at (bit_and a b) i == 1) ≡ ((bit_at a i == 1) && (bit_at b i == 1))
set_and a b i = ap (λ n. n == 1) (bit_at_and a b i) ∙ min_test (bit_at a i) (bit_at b i) (bit_at-lt a i) (bit_at-lt b i)

bit_less : (a b i : ℕ) → b < 2 ^ 16 → i < 16 → bit_at (bit_and a (2 ^ 16 - 1 - b)) i ≡ min (bit_at a i) (1 - bit_at b i)
bit_less a b i hb hi = bit_at_and a (2 ^ 16 - 1 - b) i ∙ ap (min (bit_at a i)) (bit_at_not w16 b i hb hi)

set_less : (a b i : ℕ) → b < 2 ^ 16 → i < 16 → (bit_at (bit_and a (2 ^ 16 - 1 - b)) i == 1) ≡ ((bit_at a i == 1) && not (bit_at b i == 1))
set_less a b i hb hi = ap (λ n. n == 1) (bit_less a b i hb hi) ∙ less_test (bit_at a i) (bit_at b i) (bit_at-lt a i) (bit_at-lt b i)

place_fits : (c : Cap) → place_of c < 16
place_fits P = lit< tt
place_fits As = lit< tt
place_fits Ax = lit< tt
place_fits Ls = lit< tt
place_fits Lx = lit< tt
place_fits Xs = lit< tt
place_fits Xx = lit< tt
place_fits Fs = lit< tt
place_fits Fx = lit< tt
place_fits Fc = lit< tt
place_fits Fr = lit< tt
place_fits Fw = lit< tt
place_fits Fb = lit< tt
place_fits Fa = lit< tt
place_fits Fl = lit< tt

pub caps_of-or : (a b : ℕ) → caps_of (bit_or a b) ≡ union (caps_of a) (caps_of b)
unfolding caps_of caps_where union has
caps_of-or a b i = caps_where (λ c. set_or a b (place_of c) i)

pub caps_of-and : (a b : ℕ) → caps_of (bit_and a b) ≡ meet (caps_of a) (caps_of b)
unfolding caps_of caps_where meet has
caps_of-and a b i = caps_where (λ c. set_and a b (place_of c) i)

pub caps_of-less : (a b : ℕ) → b < 2 ^ 16 → caps_of (bit_and a (2 ^ 16 - 1 - b)) ≡ minus (caps_of a) (caps_of b)
unfolding caps_of caps_where minus has
caps_of-less a b h i = caps_where (λ c. set_less a b (place_of c) h (place_fits c) i)

pub IsCaps-or : (a b : ℕ) → IsCaps a → IsCaps b → IsCaps (bit_or a b)
IsCaps-or a b ha hb = record {
  sixteen_bits = or_of_16 a b ha.sixteen_bits hb.sixteen_bits;
  no_bit_1 = omega (arith, bit_at_or a b 1, ha.no_bit_1, hb.no_bit_1);
}

pub IsCaps-and : (a b : ℕ) → IsCaps a → IsCaps (bit_and a b)
IsCaps-and a b ha = record {
  sixteen_bits = omega (arith, and_le_l a b, ha.sixteen_bits);
  no_bit_1 = omega (arith, bit_at_and a b 1, ha.no_bit_1);
}

pub caps_of-zero : caps_of 0 ≡ no_caps
unfolding caps_of caps_where no_caps
caps_of-zero = refl

pub IsCaps-zero : IsCaps 0
IsCaps-zero = record { sixteen_bits = omega arith; no_bit_1 = refl }

-- a cap's value is the number of the set of that one
one_number : (c : Cap) → bits_of (caps_in (c ∷ [])) ≡ value_of c
unfolding bits_of has caps_in caps_where
one_number P = refl
one_number As = refl
one_number Ax = refl
one_number Ls = refl
one_number Lx = refl
one_number Xs = refl
one_number Xx = refl
one_number Fs = refl
one_number Fx = refl
one_number Fc = refl
one_number Fr = refl
one_number Fw = refl
one_number Fb = refl
one_number Fa = refl
one_number Fl = refl

pub caps_of-value : (c : Cap) → caps_of (value_of c) ≡ caps_in (c ∷ [])
caps_of-value c = sym (ap caps_of (one_number c)) ∙ caps_of-bits_of (caps_in (c ∷ []))

pub IsCaps-value : (c : Cap) → IsCaps (value_of c)
IsCaps-value c = subst IsCaps (one_number c) (IsCaps-bits_of (caps_in (c ∷ [])))

pub caps_in-none : caps_in [] ≡ no_caps
unfolding caps_in no_caps
caps_in-none = refl

pub caps_in-push : (cs : List Cap) (c : Cap) → union (caps_in cs) (caps_in (c ∷ [])) ≡ caps_in (cs ++ c ∷ [])
caps_in-push cs c = same_caps _ _ (λ d. grind (arith, members, list_any-append {X = Cap}))

-- what covers a part is what is in the set of the part's caps
pub meet-part : (part : Part) (s : Caps) → meet s (caps_in (caps_of_part part)) ≡ of_part part s
meet-part part s = same_caps _ _ (λ c. has-meet s _ c ∙ ap (λ b. has s c && b) (has-caps_in (caps_of_part part) c) ∙ sym (has-of_part part s c))

has_both : (a b : Caps) → meet a b ≡ b → IsSubset b a
has_both a b e c h = grind (arith, members, ap (λ s. has s c) e)

both_of : (x y : Bool) → (IsTrue y → IsTrue x) → (x && y) ≡ y
both_of true y h = refl
both_of false true h = h refl
both_of false false h = refl

met_subset : (a b : Caps) → IsSubset b a → meet a b ≡ b
met_subset a b sub = same_caps _ _ (λ c. has-meet a b c ∙ both_of (has a c) (has b c) (sub c))

-- a set has all of another exactly if its number has all the bits of the other's
pub subset_bits : (a b : ℕ) → IsCaps a → IsCaps b → IsTrue (bit_and a b == b) ↔ IsSubset (caps_of b) (caps_of a)
subset_bits a b ha hb = (
  (λ t c hc. has_both (caps_of a) (caps_of b) (sym (caps_of-and a b) ∙ ap caps_of (true_eq _ _ t)) c hc),
  (λ sub. eq_true _ _ (sym (bits_of-caps_of _ (IsCaps-and a b ha)) ∙ ap bits_of (caps_of-and a b ∙ met_subset _ _ sub) ∙ bits_of-caps_of b hb)),
)

-- the empty set has the number 0, and no other set has
pub empty_bits : (a : ℕ) → IsCaps a → IsTrue (a == 0) ↔ (caps_of a ≡ no_caps)
empty_bits a ha = (
  (λ t. ap caps_of (true_eq _ _ t) ∙ caps_of-zero),
  (λ e. eq_true _ _ (sym (bits_of-caps_of a ha) ∙ ap bits_of (e ∙ sym caps_of-zero) ∙ bits_of-caps_of 0 IsCaps-zero)),
)

-- a set has a cap exactly if the set of that one is a subset of it
pub has_one : (s : Caps) (c : Cap) (r : Bool) → (IsTrue r ↔ IsSubset (caps_in (c ∷ [])) s) → r ≡ has s c
has_one s c r h =
    same_from_decides r (has s c) h (
      (λ t d hd. all_in (has s) (c ∷ []) (ap (λ b. b && true) t) d (sym (has-caps_in (c ∷ []) d) ∙ hd)),
      (λ sub. sub c (has-caps_in (c ∷ []) c ∙ ap (λ b. b || false) (eq_true (place_of c) (place_of c) refl))),
    )

-- what the functions of a set need of its bits
pub ruleset set_bits = (caps_of-or, caps_of-and, caps_of-less, caps_of-zero, IsCaps-or, IsCaps-and, IsCaps-zero, bits_of-caps_of, subset_bits, empty_bits, caps_of-value, IsCaps-value, caps_in-none, caps_in-push, meet-part)
