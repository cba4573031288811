-- Each cap covers at most one part, and the pin none.
use Rattle.std.proofs.Common.{◌≡◌, ℕ, Bool, true, false, refl, sym, ap, ◌∙◌, true≢false, IsTrue, arith}
use Rattle.std.specs.Prelude.{◌==◌}
use Rattle.std.specs.List.{list_all}
use Rattle.capbits.specs.declared.cap.Cap.{Cap}
use Rattle.capbits.specs.declared.cap.Cap.TheVariants.{As, Ax, Ls, Lx, P, Xs, Xx}
use Rattle.capbits.specs.declared.cap.Part.{Part}
use Rattle.capbits.specs.declared.cap.Part.TheVariants.{A, F, L, X}
use Rattle.capbits.specs.Sets.{all_in, caps_of_part, covers, same_cap, same_cap-eq, true_eq}

-- the part that a cap covers, counted from 1; 0 for the pin
part_covered : Cap → ℕ
part_covered P = 0
part_covered As = 1
part_covered Ax = 1
part_covered Ls = 2
part_covered Lx = 2
part_covered Xs = 3
part_covered Xx = 3
part_covered c = 4

number_of : Part → ℕ
number_of A = 1
number_of L = 2
number_of X = 3
number_of F = 4

numbers_differ : (p q : Part) → number_of p ≡ number_of q → p ≡ q
unfolding number_of
numbers_differ A A e = refl
numbers_differ L L e = refl
numbers_differ X X e = refl
numbers_differ F F e = refl
numbers_differ A L e = absurd (omega arith)
numbers_differ A X e = absurd (omega arith)
numbers_differ A F e = absurd (omega arith)
numbers_differ L A e = absurd (omega arith)
numbers_differ L X e = absurd (omega arith)
numbers_differ L F e = absurd (omega arith)
numbers_differ X A e = absurd (omega arith)
numbers_differ X L e = absurd (omega arith)
numbers_differ X F e = absurd (omega arith)
numbers_differ F A e = absurd (omega arith)
numbers_differ F L e = absurd (omega arith)
numbers_differ F X e = absurd (omega arith)

each_covers : (part : Part) → IsTrue (list_all (λ c. part_covered c == number_of part) (caps_of_part part))
unfolding part_covered number_of
each_covers A = refl
each_covers L = refl
each_covers X = refl
each_covers F = refl

covers_is : (c : Cap) (part : Part) → IsTrue (covers c part) → part_covered c ≡ number_of part
covers_is c part h = true_eq _ _ (all_in (λ c. part_covered c == number_of part) (caps_of_part part) (each_covers part) c h)

-- a cap covers at most one part
pub one_part : (c : Cap) (p q : Part) → IsTrue (covers c p) → IsTrue (covers c q) → p ≡ q
one_part c p q covers_p covers_q = numbers_differ p q (sym (covers_is c p covers_p) ∙ covers_is c q covers_q)

-- the pin covers none
pub pin_covers_none : (part : Part) → covers P part ≡ false
pin_covers_none A = refl
pin_covers_none L = refl
pin_covers_none X = refl
pin_covers_none F = refl

-- what covers a part is not the pin
pub same_cap-pin : (c : Cap) (part : Part) → IsTrue (covers c part) → same_cap c P ≡ false
same_cap-pin c part h = by_test (same_cap c P) refl
  where
    by_test : (b : Bool) → same_cap c P ≡ b → b ≡ false
    by_test false e = refl
    by_test true e = absurd (true≢false (sym h ∙ ap (λ c. covers c part) (same_cap-eq c P e) ∙ pin_covers_none part))
