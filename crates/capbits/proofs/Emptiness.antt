-- A set without any cap.
use Rattle.std.proofs.Common.{◌≡◌, ◌↔◌, Bool, true, false, not, refl, sym, ap, ◌∙◌, IsTrue}
use Rattle.std.specs.List.{list_any}
use Rattle.std.proofs.lemmas.Bool.Decides.{same_from_decides}
use Rattle.capbits.specs.declared.cap.Cap.{Cap}
use Rattle.capbits.specs.declared.cap.Cap.TheVariants.{As, Ax, Fa, Fb, Fc, Fl, Fr, Fs, Fw, Fx, Ls, Lx, P, Xs, Xx}
use Rattle.capbits.specs.Caps.{Caps, all_caps, caps_where, has}
use Rattle.capbits.specs.Sets.{all_in, has-none, is_empty, no_caps, same_cap, same_caps}

-- each cap is one of all
pub in_all : (c : Cap) → IsTrue (list_any (same_cap c) all_caps)
in_all P = refl
in_all As = refl
in_all Ax = refl
in_all Ls = refl
in_all Lx = refl
in_all Xs = refl
in_all Xx = refl
in_all Fs = refl
in_all Fx = refl
in_all Fc = refl
in_all Fr = refl
in_all Fw = refl
in_all Fb = refl
in_all Fa = refl
in_all Fl = refl

not_true : (b : Bool) → not b ≡ true → b ≡ false
not_true true e = sym e
not_true false e = refl

-- a set that is empty lacks each cap
pub has-is_empty : (s : Caps) → IsTrue (is_empty s) → (c : Cap) → has s c ≡ false
unfolding is_empty
has-is_empty s empty c = not_true (has s c) (all_in (λ c. not (has s c)) all_caps empty c (in_all c))

none_empty : is_empty no_caps ≡ true
unfolding is_empty no_caps has caps_where
none_empty = refl

-- the set without any cap is the one that is empty
pub is_empty-no_caps : (s : Caps) → IsTrue (is_empty s) ↔ (s ≡ no_caps)
is_empty-no_caps s = (
  (λ empty. same_caps s no_caps (λ c. has-is_empty s empty c ∙ sym (has-none c))),
  (λ e. ap is_empty e ∙ none_empty),
)

-- what tells that set from the others is the test
pub is_empty_from : (s : Caps) (r : Bool) → (IsTrue r ↔ (s ≡ no_caps)) → r ≡ is_empty s
is_empty_from s r h = same_from_decides r (is_empty s) h (is_empty-no_caps s)
