-- What a finite map has at one key and at the others, after a change.
use Rattle.std.proofs.Common.{◌≡◌, ℕ, Bool, true, false, cond, Option, Some, None, ◌⊎◌, inl, inr, refl, sym, ap, subst, ◌∙◌, nat_eq}
use Rattle.std.specs.declared.cmp.Ordering.{Ordering}
use Rattle.std.specs.Cmp.{Equal-is, IsTotalOrder, eq_by_cmp_equiv, nat_cmp_total}
use Rattle.std.specs.FinMap as map
use Rattle.std.specs.FinMap.{FinMap, nat_cmp-IsAntisymmetric}
use Rattle.std.specs.Option.{option_map, option_map_or}
use Rattle.std.specs.Ordering.{eq_by_cmp, nat_cmp}
use Rattle.std.proofs.lemmas.Bool.{eq-eqb, eqb-true}
use Rattle.capbits.specs.Maps.{change_at}

module _ {K : Type 0} {R : K → K → Ordering} (o : IsTotalOrder R) (same : map.IsAntisymmetric R) where
  pub tied : (q k : K) → eq_by_cmp R q k ≡ true → q ≡ k
  tied q k e = same q k ((Equal-is (R q k)).0 e)

  pub tied_here : (k : K) → eq_by_cmp R k k ≡ true
  tied_here k = (eq_by_cmp_equiv o).refl k

  pub apart : (q k : K) → (q ≡ k → ⊥) → eq_by_cmp R q k ≡ false
  apart q k off = elim (eq_by_cmp R q k) as (λ b. eq_by_cmp R q k ≡ b → b ≡ false) [
    | true ↦ λ e. absurd (off (tied q k e))
    | false ↦ λ e. refl
  ] refl

  pub same_or_other : (q k : K) → (q ≡ k) ⊎ (q ≡ k → ⊥)
  same_or_other q k = elim (eq_by_cmp R q k) as (λ b. eq_by_cmp R q k ≡ b → (q ≡ k) ⊎ (q ≡ k → ⊥)) [
    | true ↦ λ e. inl (tied q k e)
    | false ↦ λ e. inr (λ is. let t : eq_by_cmp R q k ≡ true = subst (λ x. eq_by_cmp R x k ≡ true) (sym is) (tied_here k) in cc)
  ] refl

  module _ {X : Type 0} (m : FinMap R X) (k : K) where
    pub insert-here : (v : X) → map.get (map.insert m k v) k ≡ Some v
    insert-here v = map.get-insert o m k v k ∙ ap (λ b. cond b (Some v) (map.get m k)) (tied_here k)

    pub insert-other : (v : X) (q : K) → (q ≡ k → ⊥) → map.get (map.insert m k v) q ≡ map.get m q
    insert-other v q off = map.get-insert o m k v q ∙ ap (λ b. cond b (Some v) (map.get m q)) (apart q k off)

    pub remove-here : map.get (map.remove m k) k ≡ None
    remove-here = map.get-remove o m k k ∙ ap (λ b. cond b None (map.get m k)) (tied_here k)

    pub remove-other : (q : K) → (q ≡ k → ⊥) → map.get (map.remove m k) q ≡ map.get m q
    remove-other q off = map.get-remove o m k q ∙ ap (λ b. cond b None (map.get m q)) (apart q k off)

    pub change-is : (f : X → X) (x : X) → map.get m k ≡ Some x → change_at f m k ≡ map.insert m k (f x)
    change-is f x e = ap (λ o. option_map_or (λ x. map.insert m k (f x)) o m) e

    pub change-none : (f : X → X) → map.get m k ≡ None → change_at f m k ≡ m
    change-none f e = ap (λ o. option_map_or (λ x. map.insert m k (f x)) o m) e

    -- what stands at a key is put there again
    pub insert-same : (v : X) → map.get m k ≡ Some v → map.insert m k v ≡ m
    insert-same v here = map.same_map o same _ _ (λ q. elim (same_or_other q k) as (λ _. map.get (map.insert m k v) q ≡ map.get m q) [
      | inl is ↦ subst (λ x. map.get (map.insert m k v) x ≡ map.get m x) (sym is) (insert-here v ∙ sym here)
      | inr off ↦ insert-other v q off
    ])

    -- a change that changes nothing
    pub change-same : (f : X → X) → ((x : X) → f x ≡ x) → change_at f m k ≡ m
    change-same f stays = elim (map.get m k) as (λ o. map.get m k ≡ o → change_at f m k ≡ m) [
      | None ↦ λ is. change-none f is
      | Some x ↦ λ is. change-is f x is ∙ ap (map.insert m k) (stays x) ∙ insert-same x is
    ] refl

    -- a key that was not there is put in and taken out
    pub put_back : (v : X) → map.get m k ≡ None → map.remove (map.insert m k v) k ≡ m
    put_back v none = map.same_map o same _ _ (λ q. elim (same_or_other q k) as (λ _. map.get (map.remove (map.insert m k v) k) q ≡ map.get m q) [
      | inl is ↦ subst (λ x. map.get (map.remove (map.insert m k v) k) x ≡ map.get m x) (sym is) (map.get-remove o (map.insert m k v) k k ∙ ap (λ b. cond b None (map.get (map.insert m k v) k)) (tied_here k) ∙ sym none)
      | inr off ↦ map.get-remove o (map.insert m k v) k q ∙ ap (λ b. cond b None (map.get (map.insert m k v) q)) (apart q k off) ∙ insert-other v q off
    ])

-- ---- by numbers

tied_alike : (k q : ℕ) → eq_by_cmp nat_cmp q k ≡ nat_eq k q
tied_alike k q = both (eq_by_cmp nat_cmp q k) (nat_eq k q) refl refl
  where
    both : (x y : Bool) → eq_by_cmp nat_cmp q k ≡ x → nat_eq k q ≡ y → x ≡ y
    both true true e f = refl
    both false false e f = refl
    both true false e f = sym (eq-eqb k q (sym (tied nat_cmp_total nat_cmp-IsAntisymmetric q k e))) ∙ f
    both false true e f = sym e ∙ ap (eq_by_cmp nat_cmp q) (eqb-true k q f) ∙ tied_here nat_cmp_total nat_cmp-IsAntisymmetric q

module _ {X : Type 0} (m : FinMap nat_cmp X) (k q : ℕ) where
  pub insert-at : (v : X) → map.get (map.insert m k v) q ≡ cond (nat_eq k q) (Some v) (map.get m q)
  insert-at v = map.get-insert nat_cmp_total m k v q ∙ ap (λ b. cond b (Some v) (map.get m q)) (tied_alike k q)

  pub remove-at : map.get (map.remove m k) q ≡ cond (nat_eq k q) None (map.get m q)
  remove-at = map.get-remove nat_cmp_total m k q ∙ ap (λ b. cond b None (map.get m q)) (tied_alike k q)

  pub change-at : (f : X → X) → map.get (change_at f m k) q ≡ cond (nat_eq k q) (option_map f (map.get m q)) (map.get m q)
  change-at f = by_case (map.get m k) refl
    where
      here : (o : Option X) → map.get m k ≡ o → nat_eq k q ≡ true → map.get m q ≡ o
      here o is e = ap (map.get m) (sym (eqb-true k q e)) ∙ is

      none : (b : Bool) → nat_eq k q ≡ b → map.get m k ≡ None → map.get m q ≡ cond b (option_map f (map.get m q)) (map.get m q)
      none true e is = here None is e ∙ ap (option_map f) (sym (here None is e))
      none false e is = refl

      some : (b : Bool) (x : X) → nat_eq k q ≡ b → map.get m k ≡ Some x → cond b (Some (f x)) (map.get m q) ≡ cond b (option_map f (map.get m q)) (map.get m q)
      some true x e is = ap (option_map f) (sym (here (Some x) is e))
      some false x e is = refl

      by_case : (o : Option X) → map.get m k ≡ o → map.get (change_at f m k) q ≡ cond (nat_eq k q) (option_map f (map.get m q)) (map.get m q)
      by_case None is = ap (λ n. map.get n q) (change-none nat_cmp_total nat_cmp-IsAntisymmetric m k f is) ∙ none (nat_eq k q) refl is
      by_case (Some x) is = ap (λ n. map.get n q) (change-is nat_cmp_total nat_cmp-IsAntisymmetric m k f x is) ∙ insert-at (f x) ∙ some (nat_eq k q) x refl is
