-- What is held already, or told already.
use Rattle.std.proofs.Common.{◌≡◌, Bool, true, ◌||◌, arith, refl, sym, ap, ◌∙◌, IsTrue}
use Rattle.std.proofs.Math.Bool.{and-not_self}
use Rattle.capbits.proofs.Emptiness.{is_empty-no_caps}
use Rattle.capbits.specs.Caps.{has}
use Rattle.capbits.specs.Sets.{has-minus, has-none, is_empty, minus, same_caps}
use Rattle.step_acts.proofs.Common.{Caps, Entry, no_caps, renumbered}

pub or_inside : (h d : Bool) → (IsTrue d → IsTrue h) → (h || d) ≡ h
or_inside h d e = grind arith

none_lost : (a : Caps) → is_empty (minus a a) ≡ true
none_lost a = (is_empty-no_caps (minus a a)).1 (same_caps (minus a a) no_caps (λ c. has-minus a a c ∙ and-not_self (has a c) ∙ sym (has-none c)))

-- where the same is told as before, no number rises
pub same-renumbered : (before after : Caps) (e : Entry) → before ≡ after → renumbered before after e ≡ e
same-renumbered before after e is = ap (λ a. renumbered before a e) (sym is) ∙ rw (none_lost before) refl
