-- What the entries of a finite map have, against what a look-up finds.
use Rattle.std.proofs.Common.{◌≡◌, Bool, true, false, cond, ◌||◌, ◌&&◌, List, [], ◌∷◌, Some, refl, sym, ap, subst, ◌∙◌}
use Rattle.std.proofs.Common.{map as each}
use Rattle.std.specs.Prelude.{T}
use Rattle.std.specs.declared.cmp.Ordering.{Ordering}
use Rattle.std.specs.declared.cmp.Ordering.TheVariants.{Equal, Greater, Less}
use Rattle.std.specs.Cmp.{Equal-is, IsTotalOrder, eq_by_cmp_equiv}
use Rattle.std.specs.FinMap as map
use Rattle.std.specs.FinMap.{FinMap}
use Rattle.std.specs.FinMap.Entries.{below_all}
use Rattle.std.specs.List.{AllByRecursion, filter, list_any}
use Rattle.std.specs.Ordering.{eq_by_cmp, is_eq, is_lt, ordering_reverse}

pub both_true : (a b : Bool) → (a && b) ≡ true → (a ≡ true) × (b ≡ true)
both_true true b e = (refl, e)
both_true false b e = cc

pub and_true : (a b : Bool) → a ≡ true → b ≡ true → (a && b) ≡ true
and_true a b p q = ap (λ x. x && b) p ∙ q

pub same_bool : (a b : Bool) → (a ≡ true → b ≡ true) → (b ≡ true → a ≡ true) → a ≡ b
same_bool true b f g = sym (f refl)
same_bool false true f g = g refl
same_bool false false f g = refl

both_T : (a b : Bool) → T (a && b) → T a × T b
both_T true b h = (tt, h)
both_T false b h = absurd h

less_T : (r : Ordering) → T (is_lt r) → r ≡ Less
less_T Less h = refl
less_T Equal h = absurd h
less_T Greater h = absurd h

pub all_map : {A : Type 0} {P Q : A → Type 0} (xs : List A) → ((x : A) → P x → Q x) → AllByRecursion P xs → AllByRecursion Q xs
all_map [] f h = tt
all_map (x ∷ xs) f h = (f x h.0, all_map xs f h.1)

-- an element that passes the test, of a list that has one
pub any_some : {A : Type 0} {P : A → Type 0} (p : A → Bool) (xs : List A) → AllByRecursion P xs → list_any p xs ≡ true → (x : A) × P x × (p x ≡ true)
any_some p [] h e = cc
any_some {A} {P} p (x ∷ xs) h e = elim (p x) as (λ b. p x ≡ b → (b || list_any p xs) ≡ true → (y : A) × P y × (p y ≡ true)) [
  | true ↦ λ is _. (x, h.0, is)
  | false ↦ λ is rest. any_some p xs h.1 rest
] refl e

pub any-filter : {A : Type 0} (p q : A → Bool) (xs : List A) → list_any p (filter q xs) ≡ list_any (λ x. q x && p x) xs
any-filter p q [] = refl
any-filter p q (x ∷ xs) = elim (q x) as (λ b. list_any p (cond b (x ∷ filter q xs) (filter q xs)) ≡ ((b && p x) || list_any (λ x. q x && p x) xs)) [
  | true ↦ ap (λ r. p x || r) (any-filter p q xs)
  | false ↦ any-filter p q xs
]

pub any-map : {A B : Type 0} (p : B → Bool) (f : A → B) (xs : List A) → list_any p (each f xs) ≡ list_any (λ x. p (f x)) xs
any-map p f [] = refl
any-map p f (x ∷ xs) = ap (λ b. p (f x) || b) (any-map p f xs)

module _ {K X : Type 0} {R : K → K → Ordering} (o : IsTotalOrder R) (same : map.IsAntisymmetric R) where
  greater : (e : K × X) (f : K × X) → R e.0 f.0 ≡ Less → eq_by_cmp R f.0 e.0 ≡ false
  greater e f less = ap is_eq (o.antisymm f.0 e.0 ∙ ap ordering_reverse less)

  behind : (e : K × X) (es fs : List (K × X)) → T (below_all R e.0 fs) → AllByRecursion (λ (f : K × X). map.find R f.0 es ≡ Some f.1) fs → AllByRecursion (λ (f : K × X). map.find R f.0 (e ∷ es) ≡ Some f.1) fs
  behind e es [] h all = tt
  behind e es (f ∷ fs) h all =
      let parts = both_T _ _ h in
      (ap (λ b. cond b (Some e.1) (map.find R f.0 es)) (greater e f (less_T _ parts.0)) ∙ all.0, behind e es fs parts.1 all.1)

  found_in : (es : List (K × X)) → T (map.is_sorted R es) → AllByRecursion (λ (e : K × X). map.find R e.0 es ≡ Some e.1) es
  found_in [] h = tt
  found_in (e ∷ es) h =
      let parts = both_T _ _ h in
      (ap (λ b. cond b (Some e.1) (map.find R e.0 es)) ((eq_by_cmp_equiv o).refl e.0), behind e es es parts.0 (found_in es parts.1))

  -- a look-up finds each entry
  pub found : (m : FinMap R X) → AllByRecursion (λ (e : K × X). map.get m e.0 ≡ Some e.1) (map.entries m)
  found m = all_map (map.entries m) (λ e h. map.get-entries m e.0 ∙ h) (found_in (map.entries m) (map.entries_sorted m))

  any_find : (p : K × X → Bool) (k : K) (x : X) (es : List (K × X)) → map.find R k es ≡ Some x → p (k, x) ≡ true → list_any p es ≡ true
  any_find p k x [] e t = cc
  any_find p k x (f ∷ fs) e t = elim (eq_by_cmp R k f.0) as (λ b. eq_by_cmp R k f.0 ≡ b → cond b (Some f.1) (map.find R k fs) ≡ Some x → (p f || list_any p fs) ≡ true) [
    | true ↦ λ tie is.
        let key : k ≡ f.0 = same k f.0 ((Equal-is (R k f.0)).0 tie) in
        let value : x ≡ f.1 = cc in
        let passes : p f ≡ true = subst (λ y. p (f.0, y) ≡ true) value (subst (λ q. p (q, x) ≡ true) key t) in
        ap (λ b. b || list_any p fs) passes
    | false ↦ λ _ is. ap (λ b. p f || b) (any_find p k x fs is t) ∙ or_true (p f)
  ] refl e where
    or_true : (b : Bool) → (b || true) ≡ true
    or_true true = refl
    or_true false = refl

  -- an entry that a look-up finds, and that passes the test, is one of the entries
  pub any_found : (p : K × X → Bool) (m : FinMap R X) (k : K) (x : X) → map.get m k ≡ Some x → p (k, x) ≡ true → list_any p (map.entries m) ≡ true
  any_found p m k x e t = any_find p k x (map.entries m) (sym (map.get-entries m k) ∙ e) t
