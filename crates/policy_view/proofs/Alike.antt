-- Finite maps of whose values the same is seen, at each key.
use Rattle.std.proofs.Common.{◌≡◌, Bool, true, false, cond, Option, Some, None, refl, sym, ap, ◌∙◌}
use Rattle.std.specs.declared.cmp.Ordering.{Ordering}
use Rattle.std.specs.Cmp.{IsTotalOrder}
use Rattle.std.specs.FinMap as map
use Rattle.std.specs.FinMap.{FinMap}
use Rattle.std.specs.Option.{option_map, option_map_or}
use Rattle.std.specs.Ordering.{eq_by_cmp}
use Rattle.capbits.specs.Maps.{change_at}
use Rattle.capbits.proofs.Maps.{tied}

module _ {K X S : Type 0} {R : K → K → Ordering} (o : IsTotalOrder R) (same : map.IsAntisymmetric R) (see : X → S) where
  abbrev pub AreAlike : FinMap R X → FinMap R X → Type 0
  AreAlike a b = (q : K) → option_map see (map.get a q) ≡ option_map see (map.get b q)

  chosen : (b : Bool) (x y z : Option X) → option_map see y ≡ option_map see z → option_map see (cond b x y) ≡ option_map see (cond b x z)
  chosen true x y z is = refl
  chosen false x y z is = is

  pub alike-insert : (a b : FinMap R X) (k : K) (v : X) → AreAlike a b → AreAlike (map.insert a k v) (map.insert b k v)
  alike-insert a b k v alike q =
      ap (option_map see) (map.get-insert o a k v q) ∙ chosen (eq_by_cmp R q k) (Some v) (map.get a q) (map.get b q) (alike q)
      ∙ sym (ap (option_map see) (map.get-insert o b k v q))

  pub alike-remove : (a b : FinMap R X) (k : K) → AreAlike a b → AreAlike (map.remove a k) (map.remove b k)
  alike-remove a b k alike q =
      ap (option_map see) (map.get-remove o a k q) ∙ chosen (eq_by_cmp R q k) None (map.get a q) (map.get b q) (alike q)
      ∙ sym (ap (option_map see) (map.get-remove o b k q))

  module _ (f : X → X) where
    -- what is seen at a key after a change, by what was seen
    seen-change : (g : S → S) → ((x : X) → see (f x) ≡ g (see x)) → (m : FinMap R X) (k q : K)
        → option_map see (map.get (change_at f m k) q) ≡ cond (eq_by_cmp R q k) (option_map g (option_map see (map.get m k))) (option_map see (map.get m q))
    seen-change g law m k q = by_old (map.get m k) refl
      where
        gone : (b : Bool) → eq_by_cmp R q k ≡ b → map.get m k ≡ None → option_map see (map.get m q) ≡ cond b None (option_map see (map.get m q))
        gone true tie none = ap (option_map see) (ap (map.get m) (tied o same q k tie) ∙ none)
        gone false tie none = refl

        here : (b : Bool) (x : X) → option_map see (cond b (Some (f x)) (map.get m q)) ≡ cond b (Some (g (see x))) (option_map see (map.get m q))
        here true x = ap Some (law x)
        here false x = refl

        by_old : (old : Option X) → map.get m k ≡ old
            → option_map see (map.get (option_map_or (λ x. map.insert m k (f x)) old m) q) ≡ cond (eq_by_cmp R q k) (option_map g (option_map see old)) (option_map see (map.get m q))
        by_old None is = gone (eq_by_cmp R q k) refl is
        by_old (Some x) is = ap (option_map see) (map.get-insert o m k (f x) q) ∙ here (eq_by_cmp R q k) x

    pub alike-change : (g : S → S) → ((x : X) → see (f x) ≡ g (see x)) → (a b : FinMap R X) (k : K) → AreAlike a b → AreAlike (change_at f a k) (change_at f b k)
    alike-change g law a b k alike q =
        seen-change g law a k q ∙ (λ i. cond (eq_by_cmp R q k) (option_map g (alike k i)) (alike q i)) ∙ sym (seen-change g law b k q)

    -- a change of which nothing is seen
    pub alike-unseen : ((x : X) → see (f x) ≡ see x) → (m : FinMap R X) (k : K) → AreAlike m (change_at f m k)
    alike-unseen law m k q = by_old (map.get m k) refl
      where
        kept : (x : X) → map.get m k ≡ Some x → (b : Bool) → eq_by_cmp R q k ≡ b → option_map see (map.get m q) ≡ option_map see (cond b (Some (f x)) (map.get m q))
        kept x is true tie = ap (option_map see) (ap (map.get m) (tied o same q k tie) ∙ is) ∙ ap Some (sym (law x))
        kept x is false tie = refl

        by_old : (old : Option X) → map.get m k ≡ old → option_map see (map.get m q) ≡ option_map see (map.get (option_map_or (λ x. map.insert m k (f x)) old m) q)
        by_old None is = refl
        by_old (Some x) is = kept x is (eq_by_cmp R q k) refl ∙ sym (ap (option_map see) (map.get-insert o m k (f x) q))

  -- two changes of which the same is seen
  pub alike-same : (f g : X → X) (m : FinMap R X) (k : K) → ((x : X) → map.get m k ≡ Some x → see (f x) ≡ see (g x)) → AreAlike (change_at f m k) (change_at g m k)
  alike-same f g m k law q = by_old (map.get m k) refl
    where
      here : (x : X) → map.get m k ≡ Some x → (b : Bool) → option_map see (cond b (Some (f x)) (map.get m q)) ≡ option_map see (cond b (Some (g x)) (map.get m q))
      here x is true = ap Some (law x is)
      here x is false = refl

      by_old : (old : Option X) → map.get m k ≡ old
          → option_map see (map.get (option_map_or (λ x. map.insert m k (f x)) old m) q) ≡ option_map see (map.get (option_map_or (λ x. map.insert m k (g x)) old m) q)
      by_old None is = refl
      by_old (Some x) is =
          ap (option_map see) (map.get-insert o m k (f x) q) ∙ here x is (eq_by_cmp R q k) ∙ sym (ap (option_map see) (map.get-insert o m k (g x) q))
