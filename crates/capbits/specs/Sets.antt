-- Sets of caps: the words that contracts use, and what is a member of each.
use Rattle.std.specs.Prelude.{◌≡◌, ℕ, ◌==◌, Bool, true, false, not, ◌&&◌, ◌||◌, List, [], ◌∷◌, refl, IsTrue, if◌then◌else◌}
use Rattle.std.specs.List.{list_all, list_any}
use Rattle.std.proofs.Common.{arith, ◌∙◌, sym, ap, true≢false}
use Rattle.std.proofs.lemmas.Bool.Decides.{nat_tests}
use Rattle.capbits.specs.declared.cap.Cap.{Cap}
use Rattle.capbits.specs.declared.cap.Cap.TheVariants.{As, Ax, Fa, Fb, Fc, Fl, Fr, Fs, Fw, Fx, Ls, Lx, P, Xs, Xx}
use Rattle.capbits.specs.declared.cap.Part.{Part}
use Rattle.capbits.specs.declared.cap.Part.TheVariants.{A, F, L, X}
use Rattle.capbits.specs.Caps.{Caps, all_caps, caps_where, has, place_of}

-- whether two caps are the same
abbrev pub same_cap : Cap → Cap → Bool
same_cap c d = place_of c == place_of d

-- the caps that cover a part, in the order of their letters
abbrev pub caps_of_part : Part → List Cap
caps_of_part A = As ∷ Ax ∷ []
caps_of_part L = Ls ∷ Lx ∷ []
caps_of_part X = Xs ∷ Xx ∷ []
caps_of_part F = Fs ∷ Fx ∷ Fc ∷ Fr ∷ Fw ∷ Fb ∷ Fa ∷ Fl ∷ []

-- whether a cap covers a part
abbrev pub covers : Cap → Part → Bool
covers c part = list_any (same_cap c) (caps_of_part part)

-- the set without any cap
unfoldable pub no_caps : Caps
no_caps = caps_where (λ c. false)

-- the caps of a list
unfoldable pub caps_in : List Cap → Caps
caps_in cs = caps_where (λ c. list_any (same_cap c) cs)

-- the caps of either set
unfoldable pub union : Caps → Caps → Caps
union a b = caps_where (λ c. has a c || has b c)

-- the caps of both sets
unfoldable pub meet : Caps → Caps → Caps
meet a b = caps_where (λ c. has a c && has b c)

-- the caps of the first set that the second lacks
unfoldable pub minus : Caps → Caps → Caps
minus a b = caps_where (λ c. has a c && not (has b c))

-- the caps of a set that cover a part
unfoldable pub of_part : Part → Caps → Caps
of_part part s = caps_where (λ c. has s c && covers c part)

-- whether a set has no cap
unfoldable pub is_empty : Caps → Bool
is_empty s = list_all (λ c. not (has s c)) all_caps

-- each cap of the first set is in the second
abbrev pub IsSubset : Caps → Caps → Type 0
IsSubset a b = (c : Cap) → IsTrue (has a c) → IsTrue (has b c)

-- a set by a test has what passes the test
pub has-where : (f : Cap → Bool) (c : Cap) → has (caps_where f) c ≡ f c
unfolding has caps_where
has-where f P = refl
has-where f As = refl
has-where f Ax = refl
has-where f Ls = refl
has-where f Lx = refl
has-where f Xs = refl
has-where f Xx = refl
has-where f Fs = refl
has-where f Fx = refl
has-where f Fc = refl
has-where f Fr = refl
has-where f Fw = refl
has-where f Fb = refl
has-where f Fa = refl
has-where f Fl = refl

pub has-none : (c : Cap) → has no_caps c ≡ false
unfolding no_caps
has-none c = has-where _ c

pub has-caps_in : (cs : List Cap) (c : Cap) → has (caps_in cs) c ≡ list_any (same_cap c) cs
unfolding caps_in
has-caps_in cs c = has-where _ c

pub has-union : (a b : Caps) (c : Cap) → has (union a b) c ≡ (has a c || has b c)
unfolding union
has-union a b c = has-where _ c

pub has-meet : (a b : Caps) (c : Cap) → has (meet a b) c ≡ (has a c && has b c)
unfolding meet
has-meet a b c = has-where _ c

pub has-minus : (a b : Caps) (c : Cap) → has (minus a b) c ≡ (has a c && not (has b c))
unfolding minus
has-minus a b c = has-where _ c

pub has-of_part : (part : Part) (s : Caps) (c : Cap) → has (of_part part s) c ≡ (has s c && covers c part)
unfolding of_part
has-of_part part s c = has-where _ c

-- what is a member of each of these sets
pub ruleset members = (has-none, has-caps_in, has-union, has-meet, has-minus, has-of_part)

-- two sets with the same members are equal
pub same_caps : (a b : Caps) → ((c : Cap) → has a c ≡ has b c) → a ≡ b
unfolding has caps_where
same_caps a b e i = caps_where (λ c. e c i)

pub and_parts : (a b : Bool) → IsTrue (a && b) → IsTrue a × IsTrue b
and_parts true b h = (refl, h)
and_parts false b h = absurd (true≢false (sym h))

-- a cap by its place
cap_at : ℕ → Cap
cap_at n =
    if n == 2 then As else if n == 3 then Ax else if n == 4 then Ls else if n == 5 then Lx else if n == 6 then Xs else if n == 7 then Xx
    else if n == 8 then Fs else if n == 9 then Fx else if n == 10 then Fc else if n == 11 then Fr else if n == 12 then Fw else if n == 13 then Fb
    else if n == 14 then Fa else if n == 15 then Fl else P

cap_at-place_of : (c : Cap) → cap_at (place_of c) ≡ c
unfolding cap_at
cap_at-place_of P = refl
cap_at-place_of As = refl
cap_at-place_of Ax = refl
cap_at-place_of Ls = refl
cap_at-place_of Lx = refl
cap_at-place_of Xs = refl
cap_at-place_of Xx = refl
cap_at-place_of Fs = refl
cap_at-place_of Fx = refl
cap_at-place_of Fc = refl
cap_at-place_of Fr = refl
cap_at-place_of Fw = refl
cap_at-place_of Fb = refl
cap_at-place_of Fa = refl
cap_at-place_of Fl = refl

pub true_eq : (a b : ℕ) → IsTrue (a == b) → a ≡ b
true_eq a b t = grind (arith, nat_tests)

pub same_cap-eq : (c d : Cap) → IsTrue (same_cap c d) → c ≡ d
same_cap-eq c d t = sym (cap_at-place_of c) ∙ ap cap_at (true_eq (place_of c) (place_of d) t) ∙ cap_at-place_of d

-- what holds of each cap of a list holds of each member of its set
pub all_in : (p : Cap → Bool) (cs : List Cap) → IsTrue (list_all p cs) → (c : Cap) → IsTrue (list_any (same_cap c) cs) → IsTrue (p c)
all_in p [] all c one = absurd (true≢false (sym one))
all_in p (d ∷ cs) all c one =
    elim (same_cap c d) as (λ b. same_cap c d ≡ b → (b || list_any (same_cap c) cs) ≡ true → IsTrue (p c)) [
      | true ↦ λ e _. ap p (same_cap-eq c d e) ∙ (and_parts (p d) _ all).0
      | false ↦ λ _ rest. all_in p cs (and_parts (p d) _ all).1 c rest
    ] refl one
