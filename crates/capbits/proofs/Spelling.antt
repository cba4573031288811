-- The spelling of a set, put together from the pieces that are written.
use Rattle.std.proofs.Common.{◌≡◌, ◌≢◌, ℕ, Bool, true, false, List, [], ◌∷◌, ◌++◌, map, filter, cond, refl, not, ◌&&◌, arith, ap, sym, append_assoc}
use Rattle.std.proofs.Common.{append-nil, ◌∙◌}
use Rattle.std.specs.List.{list_all}
use Rattle.capbits.specs.declared.cap.Cap.{Cap}
use Rattle.capbits.specs.declared.cap.Cap.TheVariants.{As, Ax, Fa, Fb, Fc, Fl, Fr, Fs, Fw, Fx, Ls, Lx, P, Xs, Xx}
use Rattle.capbits.specs.declared.cap.Part.{Part}
use Rattle.capbits.specs.declared.cap.Part.TheVariants.{A, F, L, X}
use Rattle.capbits.specs.Caps.{Caps, has}
use Rattle.capbits.specs.Sets.{all_in, caps_of_part, covers, has-none, has-of_part, members, no_caps, of_part, same_caps}
use Rattle.capbits.specs.Text.{capital_of, group_of, groups_in, headed, letter_of, letters_in, or_dash, text_of}

pub letters_in-none : (s : Caps) → letters_in s [] ≡ []
unfolding letters_in
letters_in-none s = refl

pub letters_in-yes : (s : Caps) (cs : List Cap) (c : Cap) → has s c ≡ true → letters_in s (cs ++ c ∷ []) ≡ letters_in s cs ++ letter_of c ∷ []
unfolding letters_in
letters_in-yes s [] c h = rw h refl
letters_in-yes s (d ∷ cs) c h =
    elim (has s d) as (λ b. map letter_of (cond b (d ∷ filter (has s) (cs ++ c ∷ [])) (filter (has s) (cs ++ c ∷ []))) ≡ map letter_of (cond b (d ∷ filter (has s) cs) (filter (has s) cs)) ++ letter_of c ∷ []) [
      | true ↦ ap (λ xs. letter_of d ∷ xs) (letters_in-yes s cs c h)
      | false ↦ letters_in-yes s cs c h
    ]

pub letters_in-no : (s : Caps) (cs : List Cap) (c : Cap) → has s c ≡ false → letters_in s (cs ++ c ∷ []) ≡ letters_in s cs
unfolding letters_in
letters_in-no s [] c h = rw h refl
letters_in-no s (d ∷ cs) c h =
    elim (has s d) as (λ b. map letter_of (cond b (d ∷ filter (has s) (cs ++ c ∷ [])) (filter (has s) (cs ++ c ∷ []))) ≡ map letter_of (cond b (d ∷ filter (has s) cs) (filter (has s) cs))) [
      | true ↦ ap (λ xs. letter_of d ∷ xs) (letters_in-no s cs c h)
      | false ↦ letters_in-no s cs c h
    ]

-- a part without caps has no text
not_there : (s : Caps) (part : Part) → of_part part s ≡ no_caps → (c : Cap) → covers c part ≡ true → has s c ≡ false
not_there s part e c h = grind (arith, members, ap (λ t. has t c) e)

pub group_of-none : (part : Part) (s : Caps) → of_part part s ≡ no_caps → group_of s part ≡ []
unfolding group_of letters_in
group_of-none A s e = rw (not_there s A e As refl, not_there s A e Ax refl) refl
group_of-none L s e = rw (not_there s L e Ls refl, not_there s L e Lx refl) refl
group_of-none X s e = rw (not_there s X e Xs refl, not_there s X e Xx refl) refl
group_of-none F s e = rw (not_there s F e Fs refl, not_there s F e Fx refl, not_there s F e Fc refl, not_there s F e Fr refl, not_there s F e Fw refl, not_there s F e Fb refl, not_there s F e Fa refl, not_there s F e Fl refl) refl

none_left : (s : Caps) (cs : List Cap) → letters_in s cs ≡ [] → list_all (λ c. not (has s c)) cs ≡ true
unfolding letters_in
none_left s [] e = refl
none_left s (c ∷ cs) e =
    elim (has s c) as (λ b. map letter_of (cond b (c ∷ filter (has s) cs) (filter (has s) cs)) ≡ [] → (not b && list_all (λ c. not (has s c)) cs) ≡ true) [
      | true ↦ λ e. cc
      | false ↦ λ e. none_left s cs e
    ] e

lacks : (x v : Bool) → (v ≡ true → not x ≡ true) → (x && v) ≡ false
lacks true true h = sym (h refl)
lacks true false h = refl
lacks false v h = refl

no_letters : (part : Part) (s : Caps) → letters_in s (caps_of_part part) ≡ [] → of_part part s ≡ no_caps
no_letters part s e = same_caps _ _ (λ c. has-of_part part s c ∙ lacks (has s c) (covers c part) (λ v. all_in (λ d. not (has s d)) (caps_of_part part) (none_left s (caps_of_part part) e) c v) ∙ sym (has-none c))

pub headed-some : (capital : ℕ) (xs : List ℕ) → xs ≢ [] → headed capital xs ≡ capital ∷ xs
headed-some capital [] ne = absurd (ne refl)
headed-some capital (x ∷ xs) ne = refl

pub group_of-some : (part : Part) (s : Caps) → of_part part s ≢ no_caps → group_of s part ≡ capital_of part ∷ letters_in s (caps_of_part part)
unfolding group_of
group_of-some part s e = headed-some (capital_of part) _ (λ none. e (no_letters part s none))

-- the capital and the letters that a writer appends are the group
pub part_text : (part : Part) (s : Caps) (new pushed out : List ℕ) (capital : ℕ) (cs : List Cap) → new ≡ pushed ++ letters_in s cs → pushed ≡ out ++ capital ∷ [] → capital ≡ capital_of part → cs ≡ caps_of_part part
    → of_part part s ≢ no_caps → new ≡ out ++ group_of s part
part_text part s new pushed out capital cs e1 e2 e3 e4 ne =
    e1 ∙ (λ i. e2 i ++ letters_in s (e4 i)) ∙ append_assoc out (capital ∷ []) (letters_in s (caps_of_part part)) ∙ (λ i. out ++ (e3 i ∷ letters_in s (caps_of_part part))) ∙ ap (λ g. out ++ g) (sym (group_of-some part s ne))

-- what the calls of a writer come to
pub all_groups : (s : Caps) (o p a l x f : List ℕ) → o ≡ [] → p ≡ o ++ letters_in s (P ∷ []) → a ≡ p ++ group_of s A → l ≡ a ++ group_of s L → x ≡ l ++ group_of s X → f ≡ x ++ group_of s F
    → f ≡ letters_in s (P ∷ []) ++ groups_in s (A ∷ L ∷ X ∷ F ∷ [])
unfolding groups_in
all_groups s o p a l x f e0 e1 e2 e3 e4 e5 = rw (e5, e4, e3, e2, e1, e0) (simp (append_assoc, append-nil))

or_dash-some : (xs : List ℕ) → xs ≢ [] → or_dash xs ≡ xs
or_dash-some [] ne = absurd (ne refl)
or_dash-some (x ∷ xs) ne = refl

pub text_of-some : (s : Caps) (f : List ℕ) → f ≡ letters_in s (P ∷ []) ++ groups_in s (A ∷ L ∷ X ∷ F ∷ []) → f ≢ [] → f ≡ text_of s
unfolding text_of
text_of-some s f e ne = e ∙ sym (or_dash-some _ (λ none. ne (e ∙ none)))

pub text_of-none : (s : Caps) (f : List ℕ) → f ≡ letters_in s (P ∷ []) ++ groups_in s (A ∷ L ∷ X ∷ F ∷ []) → f ≡ [] → f ++ 45 ∷ [] ≡ text_of s
unfolding text_of
text_of-none s f e none = ap (λ xs. xs ++ 45 ∷ []) none ∙ ap or_dash (sym none ∙ e)

-- for the loop over the letters of a group
pub ruleset spelling = (letters_in-none, letters_in-yes, letters_in-no, group_of-none, group_of-some)
