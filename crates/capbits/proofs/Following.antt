-- The spelling of a set from a place on: the letters of some caps, then the groups of some parts. What its first byte can
-- be, and what that byte says of the set.
use Rattle.std.specs.Prelude.{◌≡◌, ◌≢◌, ◌==◌, ℕ, Bool, true, false, ◌||◌, List, [], ◌∷◌, ◌++◌, map, filter, refl, IsTrue, IsFalse}
use Rattle.std.specs.List.{list_any}
use Rattle.std.proofs.Common.{◌∙◌, sym, ap, true≢false, append_assoc}
use Rattle.std.proofs.lemmas.List.{map-append}
use Rattle.std.proofs.lemmas.List.Elements.{filter-append}
use Rattle.std.proofs.lemmas.List.Folds.{list_any-append}
use Rattle.capbits.specs.declared.cap.Cap.{Cap}
use Rattle.capbits.specs.declared.cap.Cap.TheVariants.{As, Ax, Fa, Fb, Fc, Fl, Fr, Fs, Fw, Fx, Ls, Lx, P, Xs, Xx}
use Rattle.capbits.specs.declared.cap.Part.{Part}
use Rattle.capbits.specs.declared.cap.Part.TheVariants.{A, F, L, X}
use Rattle.capbits.specs.Caps.{Caps, has, place_of}
use Rattle.capbits.specs.Sets.{caps_of_part, covers, same_cap, same_cap-eq, same_caps}
use Rattle.capbits.specs.SetNumbers.{eq_true}
use Rattle.capbits.specs.Text.{capital_of, group_of, groups_in, headed, letter_of, letters_in, or_dash, text_of}
use Rattle.capbits.proofs.Spelling.{letters_in-none}

-- whether one of these parts covers a cap
abbrev pub in_parts : Cap → List Part → Bool
in_parts d parts = list_any (covers d) parts

-- whether a cap is one of these, or covers one of these parts
abbrev pub in_rest : Cap → List Cap → List Part → Bool
in_rest d caps parts = list_any (same_cap d) caps || in_parts d parts

-- whether a byte is the letter of one of these caps
abbrev pub is_letter : List Cap → ℕ → Bool
is_letter caps x = list_any (λ c. letter_of c == x) caps

-- whether a byte is the capital of one of these parts
abbrev pub is_capital : List Part → ℕ → Bool
is_capital parts x = list_any (λ part. capital_of part == x) parts

-- the spelling of a set from a place on
abbrev pub rest_of : Caps → List Cap → List Part → List ℕ
rest_of s caps parts = letters_in s caps ++ groups_in s parts

-- all of it, where a dash does not stand for it
abbrev pub letters_of : Caps → List ℕ
letters_of s = rest_of s (P ∷ []) (A ∷ L ∷ X ∷ F ∷ [])

-- each byte that may come says which cap or part it stands for, and no cap comes twice
abbrev pub Apart : List Cap → List Part → Type 0
Apart [] parts = Unit {0}
Apart (c ∷ caps) parts = (IsFalse (is_letter caps (letter_of c)) × IsFalse (is_capital parts (letter_of c)) × IsFalse (in_rest c caps parts)) × Apart caps parts

abbrev pub ApartParts : List Part → Type 0
ApartParts [] = Unit {0}
ApartParts (part ∷ parts) = IsFalse (is_capital parts (capital_of part)) × Apart (caps_of_part part) parts × ApartParts parts

-- so it is where a spelling begins
pub apart_parts : ApartParts (A ∷ L ∷ X ∷ F ∷ [])
apart_parts = (
  refl,
  ((refl, refl, refl), ((refl, refl, refl), tt)),
  (
    refl,
    ((refl, refl, refl), ((refl, refl, refl), tt)),
    (
      refl,
      ((refl, refl, refl), ((refl, refl, refl), tt)),
      (
        refl,
        ((refl, refl, refl), ((refl, refl, refl), ((refl, refl, refl), ((refl, refl, refl), ((refl, refl, refl), ((refl, refl, refl), ((refl, refl, refl), ((refl, refl, refl), tt)))))))),
        tt,
      ),
    ),
  ),
)

pub apart_caps : Apart (P ∷ []) (A ∷ L ∷ X ∷ F ∷ [])
apart_caps = ((refl, refl, refl), tt)

-- every cap is in what a spelling can have
pub all_in_rest : (d : Cap) → IsTrue (in_rest d (P ∷ []) (A ∷ L ∷ X ∷ F ∷ []))
all_in_rest P = refl
all_in_rest As = refl
all_in_rest Ax = refl
all_in_rest Ls = refl
all_in_rest Lx = refl
all_in_rest Xs = refl
all_in_rest Xx = refl
all_in_rest Fs = refl
all_in_rest Fx = refl
all_in_rest Fc = refl
all_in_rest Fr = refl
all_in_rest Fw = refl
all_in_rest Fb = refl
all_in_rest Fa = refl
all_in_rest Fl = refl

-- tests that are joined
pub or_left : (a b : Bool) → IsTrue a → IsTrue (a || b)
or_left a b h = ap (λ v. v || b) h

pub or_right : (a b : Bool) → IsTrue b → IsTrue (a || b)
or_right true b h = refl
or_right false b h = h

pub or_false : (a b : Bool) → IsFalse (a || b) → IsFalse a × IsFalse b
or_false true b h = absurd (true≢false h)
or_false false b h = (refl, h)

pub neither : (a b : Bool) → IsFalse a → IsFalse b → IsFalse (a || b)
neither a b ha hb = ap (λ v. v || b) ha ∙ hb

or_assoc : (a b c : Bool) → ((a || b) || c) ≡ (a || (b || c))
or_assoc true b c = refl
or_assoc false b c = refl

pub clash : {T : Type 0} → (b : Bool) → IsTrue b → IsFalse b → T
clash b t f = absurd (true≢false (sym t ∙ f))

pub any_middle : {T : Type 0} (p : T → Bool) (front : List T) (x : T) (xs : List T) → IsTrue (p x) → IsTrue (list_any p (front ++ x ∷ xs))
any_middle p [] x xs h = or_left (p x) (list_any p xs) h
any_middle p (y ∷ front) x xs h = or_right (p y) (list_any p (front ++ x ∷ xs)) (any_middle p front x xs h)

-- lists with a first element
pub head_eq : (x y : ℕ) (xs ys : List ℕ) → x ∷ xs ≡ y ∷ ys → x ≡ y
head_eq x y xs ys e = cc

pub tail_eq : (x y : ℕ) (xs ys : List ℕ) → x ∷ xs ≡ y ∷ ys → xs ≡ ys
tail_eq x y xs ys e = cc

pub nil_cons : (x : ℕ) (xs : List ℕ) → [] ≡ x ∷ xs → ⊥
nil_cons x xs e = cc

pub same_self : (c : Cap) → IsTrue (same_cap c c)
same_self c = eq_true (place_of c) (place_of c) refl

-- what is in the rest, by its pieces
pub in_rest-cons : (d c : Cap) (caps : List Cap) (parts : List Part) → in_rest d (c ∷ caps) parts ≡ (same_cap d c || in_rest d caps parts)
in_rest-cons d c caps parts = or_assoc (same_cap d c) (list_any (same_cap d) caps) (in_parts d parts)

pub in_rest-append : (d : Cap) (front caps : List Cap) (parts : List Part) → in_rest d (front ++ caps) parts ≡ (list_any (same_cap d) front || in_rest d caps parts)
in_rest-append d front caps parts = ap (λ b. b || in_parts d parts) (list_any-append (same_cap d) front caps) ∙ or_assoc (list_any (same_cap d) front) (list_any (same_cap d) caps) (in_parts d parts)

-- the letters of a list, by its pieces
pub letters_in-with : (s : Caps) (c : Cap) (caps : List Cap) → IsTrue (has s c) → letters_in s (c ∷ caps) ≡ letter_of c ∷ letters_in s caps
unfolding letters_in
letters_in-with s c caps h = rw h refl

pub letters_in-without : (s : Caps) (c : Cap) (caps : List Cap) → IsFalse (has s c) → letters_in s (c ∷ caps) ≡ letters_in s caps
unfolding letters_in
letters_in-without s c caps h = rw h refl

letters_in-append : (s : Caps) (xs ys : List Cap) → letters_in s (xs ++ ys) ≡ letters_in s xs ++ letters_in s ys
unfolding letters_in
letters_in-append s xs ys = ap (map letter_of) (filter-append (has s) xs ys) ∙ map-append letter_of (filter (has s) xs) (filter (has s) ys)

groups_in-append : (s : Caps) (xs ys : List Part) → groups_in s (xs ++ ys) ≡ groups_in s xs ++ groups_in s ys
unfolding groups_in
groups_in-append s [] ys = refl
groups_in-append s (part ∷ xs) ys = ap (λ g. group_of s part ++ g) (groups_in-append s xs ys) ∙ sym (append_assoc (group_of s part) (groups_in s xs) (groups_in s ys))

-- a set without these caps has none of their letters
pub letters_in-lacking : (s : Caps) (caps : List Cap) → ((d : Cap) → IsTrue (list_any (same_cap d) caps) → IsFalse (has s d)) → letters_in s caps ≡ []
letters_in-lacking s [] h = letters_in-none s
letters_in-lacking s (c ∷ caps) h =
    letters_in-without s c caps (h c (or_left (same_cap c c) (list_any (same_cap c) caps) (same_self c)))
    ∙ letters_in-lacking s caps (λ d r. h d (or_right (same_cap d c) (list_any (same_cap d) caps) r))

pub groups_in-lacking : (s : Caps) (parts : List Part) → ((d : Cap) → IsTrue (in_parts d parts) → IsFalse (has s d)) → groups_in s parts ≡ []
unfolding groups_in group_of
groups_in-lacking s [] h = refl
groups_in-lacking s (part ∷ parts) h =
    let none : letters_in s (caps_of_part part) ≡ [] = letters_in-lacking s (caps_of_part part) (λ d r. h d (or_left (covers d part) (in_parts d parts) r)) in
    let rest : groups_in s parts ≡ [] = groups_in-lacking s parts (λ d r. h d (or_right (covers d part) (in_parts d parts) r)) in
    (λ i. headed (capital_of part) (none i) ++ rest i)

-- the letters of a set that has one of these caps, and none in front of it
pub letters_in-split : (s : Caps) (front : List Cap) (c : Cap) (caps : List Cap) → ((d : Cap) → IsTrue (list_any (same_cap d) front) → IsFalse (has s d)) → IsTrue (has s c)
    → letters_in s (front ++ c ∷ caps) ≡ letter_of c ∷ letters_in s caps
letters_in-split s front c caps lacks there = letters_in-append s front (c ∷ caps) ∙ (λ i. letters_in-lacking s front lacks i ++ letters_in-with s c caps there i)

-- the groups of a set that has caps of one of these parts, and none of a part in front of it
pub groups_in-split : (s : Caps) (front : List Part) (part : Part) (parts : List Part) → ((d : Cap) → IsTrue (in_parts d front) → IsFalse (has s d)) → letters_in s (caps_of_part part) ≢ []
    → groups_in s (front ++ part ∷ parts) ≡ capital_of part ∷ rest_of s (caps_of_part part) parts
unfolding groups_in group_of
groups_in-split s front part parts lacks some =
    groups_in-append s front (part ∷ parts)
    ∙ ap (λ g. g ++ groups_in s (part ∷ parts)) (groups_in-lacking s front lacks)
    ∙ elim (letters_in s (caps_of_part part)) as (λ ls. (ls ≢ []) → headed (capital_of part) ls ++ groups_in s parts ≡ capital_of part ∷ (ls ++ groups_in s parts)) [
      | [] ↦ λ ne. absurd (ne refl)
      | y ∷ ys ↦ λ ne. refl
    ] some

-- what a spelling can begin with
pub first_letter : (s : Caps) (caps : List Cap) (x : ℕ) (w : List ℕ) → letters_in s caps ≡ x ∷ w → IsTrue (is_letter caps x)
first_letter s [] x w e = absurd (nil_cons x w (sym (letters_in-none s) ∙ e))
first_letter s (c ∷ caps) x w e =
    elim (has s c) as (λ v. has s c ≡ v → IsTrue (is_letter (c ∷ caps) x)) [
      | true ↦ λ h. or_left (letter_of c == x) (is_letter caps x) (eq_true (letter_of c) x (head_eq _ _ _ _ (sym (letters_in-with s c caps h) ∙ e)))
      | false ↦ λ h. or_right (letter_of c == x) (is_letter caps x) (first_letter s caps x w (sym (letters_in-without s c caps h) ∙ e))
    ] refl

pub first_capital : (s : Caps) (parts : List Part) (x : ℕ) (w : List ℕ) → groups_in s parts ≡ x ∷ w → IsTrue (is_capital parts x)
unfolding groups_in group_of
first_capital s [] x w e = absurd (nil_cons x w e)
first_capital s (part ∷ parts) x w e =
    elim (letters_in s (caps_of_part part)) as (λ ls. headed (capital_of part) ls ++ groups_in s parts ≡ x ∷ w → IsTrue (is_capital (part ∷ parts) x)) [
      | [] ↦ λ e. or_right (capital_of part == x) (is_capital parts x) (first_capital s parts x w e)
      | y ∷ ys ↦ λ e. or_left (capital_of part == x) (is_capital parts x) (eq_true (capital_of part) x (head_eq _ _ _ _ e))
    ] e

pub first_rest : (s : Caps) (caps : List Cap) (parts : List Part) (x : ℕ) (w : List ℕ) → rest_of s caps parts ≡ x ∷ w → IsTrue (is_letter caps x || is_capital parts x)
first_rest s caps parts x w e =
    elim (letters_in s caps) as (λ ls. letters_in s caps ≡ ls → ls ++ groups_in s parts ≡ x ∷ w → IsTrue (is_letter caps x || is_capital parts x)) [
      | [] ↦ λ _ e. or_right (is_letter caps x) (is_capital parts x) (first_capital s parts x w e)
      | y ∷ ys ↦ λ h e. or_left (is_letter caps x) (is_capital parts x) (first_letter s caps x ys (h ∙ ap (λ z. z ∷ ys) (head_eq y x _ _ e)))
    ] refl e

-- a byte that is none of the letters is of the groups
pub no_letter : (s : Caps) (caps : List Cap) (parts : List Part) (x : ℕ) (w : List ℕ) → IsFalse (is_letter caps x) → rest_of s caps parts ≡ x ∷ w
    → (letters_in s caps ≡ []) × (groups_in s parts ≡ x ∷ w)
no_letter s caps parts x w f e =
    elim (letters_in s caps) as (λ ls. letters_in s caps ≡ ls → ls ++ groups_in s parts ≡ x ∷ w → (ls ≡ []) × (groups_in s parts ≡ x ∷ w)) [
      | [] ↦ λ _ e. (refl, e)
      | y ∷ ys ↦ λ h e. clash (is_letter caps x) (first_letter s caps x ys (h ∙ ap (λ z. z ∷ ys) (head_eq y x _ _ e))) f
    ] refl e

-- what stands behind a letter
pub behind_letter : (s : Caps) (front : List Cap) (c : Cap) (caps : List Cap) (parts : List Part) (w : List ℕ) → Apart (front ++ c ∷ caps) parts → rest_of s (front ++ c ∷ caps) parts ≡ letter_of c ∷ w
    → rest_of s caps parts ≡ w
behind_letter s [] c caps parts w a e =
    elim (has s c) as (λ v. has s c ≡ v → rest_of s caps parts ≡ w) [
      | true ↦ λ h. tail_eq _ _ _ _ (ap (λ ls. ls ++ groups_in s parts) (sym (letters_in-with s c caps h)) ∙ e)
      | false ↦ λ h.
          clash (is_letter caps (letter_of c) || is_capital parts (letter_of c))
          (first_rest s caps parts (letter_of c) w (ap (λ ls. ls ++ groups_in s parts) (sym (letters_in-without s c caps h)) ∙ e))
          (neither (is_letter caps (letter_of c)) (is_capital parts (letter_of c)) a.0.0 a.0.1)
    ] refl
behind_letter s (d ∷ front) c caps parts w a e =
    elim (has s d) as (λ v. has s d ≡ v → rest_of s caps parts ≡ w) [
      | true ↦ λ h.
          let same : letter_of d ≡ letter_of c = head_eq _ _ _ _ (ap (λ ls. ls ++ groups_in s parts) (sym (letters_in-with s d (front ++ c ∷ caps) h)) ∙ e) in
          clash (is_letter (front ++ c ∷ caps) (letter_of d)) (any_middle (λ k. letter_of k == letter_of d) front c caps (eq_true (letter_of c) (letter_of d) (sym same))) a.0.0
      | false ↦ λ h. behind_letter s front c caps parts w a.1 (ap (λ ls. ls ++ groups_in s parts) (sym (letters_in-without s d (front ++ c ∷ caps) h)) ∙ e)
    ] refl

-- what stands behind a capital: a letter of its part
pub behind_capital : (s : Caps) (front : List Part) (part : Part) (parts : List Part) (w : List ℕ) → ApartParts (front ++ part ∷ parts) → groups_in s (front ++ part ∷ parts) ≡ capital_of part ∷ w
    → (rest_of s (caps_of_part part) parts ≡ w) × (letters_in s (caps_of_part part) ≢ [])
unfolding groups_in group_of
behind_capital s [] part parts w a e =
    elim (letters_in s (caps_of_part part)) as (λ ls. headed (capital_of part) ls ++ groups_in s parts ≡ capital_of part ∷ w → (ls ++ groups_in s parts ≡ w) × (ls ≢ [])) [
      | [] ↦ λ e. clash (is_capital parts (capital_of part)) (first_capital s parts (capital_of part) w e) a.0
      | y ∷ ys ↦ λ e. (tail_eq _ _ _ _ e, (λ none. nil_cons y ys (sym none)))
    ] e
behind_capital s (p ∷ front) part parts w a e =
    elim (letters_in s (caps_of_part p)) as (λ ls. headed (capital_of p) ls ++ groups_in s (front ++ part ∷ parts) ≡ capital_of part ∷ w → (rest_of s (caps_of_part part) parts ≡ w) × (letters_in s (caps_of_part part) ≢ [])) [
      | [] ↦ λ e. behind_capital s front part parts w a.2 e
      | y ∷ ys ↦ λ e.
          clash (is_capital (front ++ part ∷ parts) (capital_of p))
          (any_middle (λ k. capital_of k == capital_of p) front part parts (eq_true (capital_of part) (capital_of p) (sym (head_eq _ _ _ _ e)))) a.0
    ] e

-- what was passed over does not come again
pub apart_behind : (front : List Cap) (c : Cap) (caps : List Cap) (parts : List Part) → Apart (front ++ c ∷ caps) parts → Apart (c ∷ caps) parts
apart_behind [] c caps parts a = a
apart_behind (d ∷ front) c caps parts a = apart_behind front c caps parts a.1

pub apart_parts_behind : (front : List Part) (part : Part) (parts : List Part) → ApartParts (front ++ part ∷ parts) → ApartParts (part ∷ parts)
apart_parts_behind [] part parts a = a
apart_parts_behind (p ∷ front) part parts a = apart_parts_behind front part parts a.2

pub passed_caps : (front : List Cap) (c : Cap) (caps : List Cap) (parts : List Part) → Apart (front ++ c ∷ caps) parts → (d : Cap) → IsTrue (list_any (same_cap d) front) → IsFalse (in_rest d (c ∷ caps) parts)
passed_caps [] c caps parts a d h = absurd (true≢false (sym h))
passed_caps (k ∷ front) c caps parts a d h =
    elim (same_cap d k) as (λ v. same_cap d k ≡ v → (v || list_any (same_cap d) front) ≡ true → IsFalse (in_rest d (c ∷ caps) parts)) [
      | true ↦ λ e _.
          ap (λ d. in_rest d (c ∷ caps) parts) (same_cap-eq d k e)
          ∙ (or_false (list_any (same_cap k) front) (in_rest k (c ∷ caps) parts) (sym (in_rest-append k front (c ∷ caps) parts) ∙ a.0.2)).1
      | false ↦ λ _ r. passed_caps front c caps parts a.1 d r
    ] refl h

-- a cap of a group is of no later part
pub outside : (caps : List Cap) (parts : List Part) → Apart caps parts → (d : Cap) → IsTrue (list_any (same_cap d) caps) → IsFalse (in_parts d parts)
outside [] parts a d h = absurd (true≢false (sym h))
outside (c ∷ caps) parts a d h =
    elim (same_cap d c) as (λ v. same_cap d c ≡ v → (v || list_any (same_cap d) caps) ≡ true → IsFalse (in_parts d parts)) [
      | true ↦ λ e _. ap (λ d. in_parts d parts) (same_cap-eq d c e) ∙ (or_false (list_any (same_cap c) caps) (in_parts c parts) a.0.2).1
      | false ↦ λ _ r. outside caps parts a.1 d r
    ] refl h

pub behind_parts : (d : Cap) (front : List Part) (part : Part) (parts : List Part) → IsFalse (in_parts d (front ++ part ∷ parts)) → IsFalse (in_rest d (caps_of_part part) parts)
behind_parts d front part parts f = (or_false (in_parts d front) (in_parts d (part ∷ parts)) (sym (list_any-append (covers d) front (part ∷ parts)) ∙ f)).1

pub passed_parts : (front : List Part) (part : Part) (parts : List Part) → ApartParts (front ++ part ∷ parts) → (d : Cap) → IsTrue (in_parts d front) → IsFalse (in_rest d (caps_of_part part) parts)
passed_parts [] part parts a d h = absurd (true≢false (sym h))
passed_parts (p ∷ front) part parts a d h =
    elim (covers d p) as (λ v. covers d p ≡ v → (v || in_parts d front) ≡ true → IsFalse (in_rest d (caps_of_part part) parts)) [
      | true ↦ λ e _. behind_parts d front part parts (outside (caps_of_part p) (front ++ part ∷ parts) a.1 d e)
      | false ↦ λ _ r. passed_parts front part parts a.2 d r
    ] refl h

-- two sets with the same spelling from a place on have the same caps there
agree_cons : (s t : Caps) (c : Cap) (caps : List Cap) (parts : List Part) → has s c ≡ has t c → ((d : Cap) → IsTrue (in_rest d caps parts) → has s d ≡ has t d)
    → (d : Cap) → IsTrue (in_rest d (c ∷ caps) parts) → has s d ≡ has t d
agree_cons s t c caps parts e rest d h =
    elim (same_cap d c) as (λ v. same_cap d c ≡ v → (v || in_rest d caps parts) ≡ true → has s d ≡ has t d) [
      | true ↦ λ q _. ap (has s) (same_cap-eq d c q) ∙ e ∙ ap (has t) (sym (same_cap-eq d c q))
      | false ↦ λ _ r. rest d r
    ] refl (sym (in_rest-cons d c caps parts) ∙ h)

rest_agrees : (s t : Caps) (parts : List Part) → (groups_in s parts ≡ groups_in t parts → (d : Cap) → IsTrue (in_parts d parts) → has s d ≡ has t d)
    → (caps : List Cap) → Apart caps parts → rest_of s caps parts ≡ rest_of t caps parts → (d : Cap) → IsTrue (in_rest d caps parts) → has s d ≡ has t d
rest_agrees s t parts later [] a e = later (ap (λ ls. ls ++ groups_in s parts) (sym (letters_in-none s)) ∙ e ∙ ap (λ ls. ls ++ groups_in t parts) (letters_in-none t))
rest_agrees s t parts later (c ∷ caps) a e =
    let having : (u : Caps) → IsTrue (has u c) → rest_of u (c ∷ caps) parts ≡ letter_of c ∷ rest_of u caps parts = λ u h. ap (λ ls. ls ++ groups_in u parts) (letters_in-with u c caps h) in
    let lacking : (u : Caps) → IsFalse (has u c) → rest_of u (c ∷ caps) parts ≡ rest_of u caps parts = λ u h. ap (λ ls. ls ++ groups_in u parts) (letters_in-without u c caps h) in
    let other : IsFalse (is_letter caps (letter_of c) || is_capital parts (letter_of c)) = neither (is_letter caps (letter_of c)) (is_capital parts (letter_of c)) a.0.0 a.0.1 in
    elim (has s c) as (λ v. has s c ≡ v → (d : Cap) → IsTrue (in_rest d (c ∷ caps) parts) → has s d ≡ has t d) [
      | true ↦ λ hs.
          elim (has t c) as (λ v. has t c ≡ v → (d : Cap) → IsTrue (in_rest d (c ∷ caps) parts) → has s d ≡ has t d) [
            | true ↦ λ ht. agree_cons s t c caps parts (hs ∙ sym ht) (rest_agrees s t parts later caps a.1 (tail_eq _ _ _ _ (sym (having s hs) ∙ e ∙ having t ht)))
            | false ↦ λ ht. clash (is_letter caps (letter_of c) || is_capital parts (letter_of c)) (first_rest t caps parts (letter_of c) _ (sym (lacking t ht) ∙ sym e ∙ having s hs)) other
          ] refl
      | false ↦ λ hs.
          elim (has t c) as (λ v. has t c ≡ v → (d : Cap) → IsTrue (in_rest d (c ∷ caps) parts) → has s d ≡ has t d) [
            | true ↦ λ ht. clash (is_letter caps (letter_of c) || is_capital parts (letter_of c)) (first_rest s caps parts (letter_of c) _ (sym (lacking s hs) ∙ e ∙ having t ht)) other
            | false ↦ λ ht. agree_cons s t c caps parts (hs ∙ sym ht) (rest_agrees s t parts later caps a.1 (sym (lacking s hs) ∙ e ∙ lacking t ht))
          ] refl
    ] refl

groups_agree : (s t : Caps) (parts : List Part) → ApartParts parts → groups_in s parts ≡ groups_in t parts → (d : Cap) → IsTrue (in_parts d parts) → has s d ≡ has t d
unfolding groups_in group_of
groups_agree s t [] a e = λ d h. absurd (true≢false (sym h))
groups_agree s t (part ∷ parts) a e =
    rest_agrees s t parts (groups_agree s t parts a.2) (caps_of_part part) a.1
    (elim (letters_in s (caps_of_part part)) as (λ ls. headed (capital_of part) ls ++ groups_in s parts ≡ headed (capital_of part) (letters_in t (caps_of_part part)) ++ groups_in t parts
    → ls ++ groups_in s parts ≡ letters_in t (caps_of_part part) ++ groups_in t parts) [
      | [] ↦
          elim (letters_in t (caps_of_part part)) as (λ lt. groups_in s parts ≡ headed (capital_of part) lt ++ groups_in t parts → groups_in s parts ≡ lt ++ groups_in t parts) [
            | [] ↦ λ e. e
            | y ∷ ys ↦ λ e. clash (is_capital parts (capital_of part)) (first_capital s parts (capital_of part) _ e) a.0
          ]
      | x ∷ xs ↦
          elim (letters_in t (caps_of_part part)) as (λ lt. capital_of part ∷ ((x ∷ xs) ++ groups_in s parts) ≡ headed (capital_of part) lt ++ groups_in t parts → (x ∷ xs) ++ groups_in s parts ≡ lt ++ groups_in t parts) [
            | [] ↦ λ e. clash (is_capital parts (capital_of part)) (first_capital t parts (capital_of part) _ (sym e)) a.0
            | y ∷ ys ↦ λ e. tail_eq _ _ _ _ e
          ]
    ] e)

-- and where a dash stands for all of it
no_dash : (s : Caps) (w : List ℕ) → letters_of s ≡ 45 ∷ w → ⊥
no_dash s w e = true≢false (sym (first_rest s (P ∷ []) (A ∷ L ∷ X ∷ F ∷ []) 45 w e))

same_letters : (a b : List ℕ) → ((w : List ℕ) → a ≡ 45 ∷ w → ⊥) → ((w : List ℕ) → b ≡ 45 ∷ w → ⊥) → or_dash a ≡ or_dash b → a ≡ b
same_letters [] [] na nb e = refl
same_letters [] (y ∷ ys) na nb e = absurd (nb [] (sym e))
same_letters (x ∷ xs) [] na nb e = absurd (na [] e)
same_letters (x ∷ xs) (y ∷ ys) na nb e = e

-- one text belongs to one set
pub text_of-injective : (s t : Caps) → text_of s ≡ text_of t → s ≡ t
unfolding text_of
text_of-injective s t e =
    same_caps s t (λ d. rest_agrees s t (A ∷ L ∷ X ∷ F ∷ []) (groups_agree s t (A ∷ L ∷ X ∷ F ∷ []) apart_parts) (P ∷ []) apart_caps (same_letters (letters_of s) (letters_of t) (no_dash s) (no_dash t) e) d (all_in_rest d))

-- a text that doesn't begin with a dash is made of letters
pub letters_of_text : (s : Caps) (x : ℕ) (w : List ℕ) → x ≢ 45 → text_of s ≡ x ∷ w → letters_of s ≡ x ∷ w
unfolding text_of
letters_of_text s x w ne e =
    elim (letters_of s) as (λ ls. or_dash ls ≡ x ∷ w → ls ≡ x ∷ w) [
      | [] ↦ λ e. absurd (ne (sym (head_eq 45 x _ _ e)))
      | y ∷ ys ↦ λ e. e
    ] e

-- a dash stands alone
pub dash_alone : (s : Caps) (w : List ℕ) → text_of s ≡ 45 ∷ w → w ≡ []
unfolding text_of
dash_alone s w e =
    elim (letters_of s) as (λ ls. letters_of s ≡ ls → or_dash ls ≡ 45 ∷ w → w ≡ []) [
      | [] ↦ λ _ e. sym (tail_eq 45 45 [] w e)
      | y ∷ ys ↦ λ h e. absurd (no_dash s w (h ∙ e))
    ] refl e

-- no text is empty
pub text_some : (s : Caps) → text_of s ≢ []
unfolding text_of
text_some s e =
    elim (letters_of s) as (λ ls. or_dash ls ≡ [] → ⊥) [
      | [] ↦ λ e. nil_cons 45 [] (sym e)
      | y ∷ ys ↦ λ e. nil_cons y ys (sym e)
    ] e
