-- Two maps that have values under the same numbers have the same keys.
use Rattle.std.proofs.Common.{◌≡◌, ℕ, Bool, true, false, cond, ◌&&◌, T, List, [], ◌∷◌, Option, Some, None, is_some, refl, sym, ap, subst, ◌∙◌}
use Rattle.std.proofs.Common.{map as each}
use Rattle.std.specs.Cmp.{nat_cmp_total}
use Rattle.std.specs.FinMap as map
use Rattle.std.specs.FinMap.{FinMap}
use Rattle.std.specs.FinMap.Entries.{below_all}
use Rattle.std.specs.Ordering.{eq_by_cmp, is_lt, nat_cmp}

module _ {X : Type 0} where
  -- the entries with nothing but their keys
  bare : List (ℕ × X) → List (ℕ × ℕ)
  bare [] = []
  bare (e ∷ es) = (e.0, 0) ∷ bare es

  below-bare : (k : ℕ) (es : List (ℕ × X)) → below_all nat_cmp k (bare es) ≡ below_all nat_cmp k es
  unfolding bare
  below-bare k [] = refl
  below-bare k (e ∷ es) = ap (λ b. is_lt (nat_cmp k e.0) && b) (below-bare k es)

  sorted-bare : (es : List (ℕ × X)) → map.is_sorted nat_cmp (bare es) ≡ map.is_sorted nat_cmp es
  unfolding bare
  sorted-bare [] = refl
  sorted-bare (e ∷ es) = λ i. below-bare e.0 es i && sorted-bare es i

  keys-bare : (es : List (ℕ × X)) → each (λ (e : ℕ × ℕ). e.0) (bare es) ≡ each (λ (e : ℕ × X). e.0) es
  unfolding bare
  keys-bare [] = refl
  keys-bare (e ∷ es) = ap (λ ks. e.0 ∷ ks) (keys-bare es)

  found : Option X → Option ℕ
  found None = None
  found (Some x) = Some 0

  found-cond : (b : Bool) (x : X) (o : Option X) → cond b (Some 0) (found o) ≡ found (cond b (Some x) o)
  unfolding found
  found-cond true x o = refl
  found-cond false x o = refl

  find-bare : (q : ℕ) (es : List (ℕ × X)) → map.find nat_cmp q (bare es) ≡ found (map.find nat_cmp q es)
  unfolding bare found
  find-bare q [] = refl
  find-bare q (e ∷ es) = ap (cond (eq_by_cmp nat_cmp q e.0) (Some 0)) (find-bare q es) ∙ found-cond (eq_by_cmp nat_cmp q e.0) e.1 (map.find nat_cmp q es)

  -- the map of the keys
  of_keys : FinMap nat_cmp X → FinMap nat_cmp ℕ
  of_keys m = map.from_sorted (bare (map.entries m))

  rises : (m : FinMap nat_cmp X) → T (map.is_sorted nat_cmp (bare (map.entries m)))
  rises m = subst T (sym (sorted-bare (map.entries m))) (map.entries_sorted m)

  keys-of_keys : (m : FinMap nat_cmp X) → map.keys (of_keys m) ≡ map.keys m
  unfolding of_keys
  keys-of_keys m = ap (each (λ (e : ℕ × ℕ). e.0)) (map.entries-from_sorted nat_cmp (bare (map.entries m)) (rises m)) ∙ keys-bare (map.entries m)

  get-of_keys : (m : FinMap nat_cmp X) (q : ℕ) → map.get (of_keys m) q ≡ found (map.get m q)
  unfolding of_keys
  get-of_keys m q = map.get-from_sorted nat_cmp (bare (map.entries m)) q (rises m) ∙ find-bare q (map.entries m) ∙ ap found (sym (map.get-entries m q))

same_found : {X Y : Type 0} (a : Option X) (b : Option Y) → is_some a ≡ is_some b → found a ≡ found b
unfolding found
same_found None None e = refl
same_found None (Some y) e = cc
same_found (Some x) None e = cc
same_found (Some x) (Some y) e = refl

pub same_keys : {X Y : Type 0} (m : FinMap nat_cmp X) (n : FinMap nat_cmp Y) → ((q : ℕ) → map.contains_key m q ≡ map.contains_key n q) → map.keys m ≡ map.keys n
same_keys m n same =
    let is : of_keys m ≡ of_keys n = map.same_map nat_cmp_total map.nat_cmp-IsAntisymmetric _ _ (λ q.
    get-of_keys m q ∙ same_found (map.get m q) (map.get n q) (same q) ∙ sym (get-of_keys n q)) in
    sym (keys-of_keys m) ∙ ap map.keys is ∙ keys-of_keys n
