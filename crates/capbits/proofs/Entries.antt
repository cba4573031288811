-- What the entries of a tree map, and the keys of a tree set, say of the finite map and the finite set that they make.
use Rattle.std.proofs.Common.{◌≡◌, ℕ, ◌+◌, Bool, true, false, cond, not, ◌||◌, ◌&&◌, Option, Some, None, List, [], ◌∷◌, length, is_some, refl, sym, ap, subst}
use Rattle.std.proofs.Common.{◌∙◌, add-one, arith}
use Rattle.std.specs.declared.cmp.Ordering.{Ordering}
use Rattle.std.specs.declared.cmp.Ordering.TheVariants.{Less}
use Rattle.std.specs.BTreeMap.{is_at}
use Rattle.std.specs.Cmp.{Equal-is, IsTotalOrder, eq_by_cmp_equiv}
use Rattle.std.specs.FinMap as map
use Rattle.std.specs.FinSet as set
use Rattle.std.specs.List.{AllByRecursion, list_any}
use Rattle.std.specs.List.Sorted.{IsStrictlySortedBy}
use Rattle.std.specs.Map.{keys_of, lookup}
use Rattle.std.specs.Option.{option_map_or}
use Rattle.std.specs.Ordering.{eq_by_cmp, is_eq}
use Rattle.capbits.specs.Maps.{change_at}
use Rattle.std.proofs.lemmas.Map.Keys.{sorted_head, sorted_tail}

or_cond : (a b : Bool) → cond a true b ≡ (a || b)
or_cond true b = refl
or_cond false b = refl

and_cond : (a b : Bool) → cond a false b ≡ (not a && b)
and_cond true b = refl
and_cond false b = refl

no_length : {A : Type 0} (xs : List A) → length xs ≡ 0 → xs ≡ []
no_length [] e = refl
no_length (x ∷ xs) e = absurd (omega arith)

module _ {K : Type 0} {R : K → K → Ordering} (o : IsTotalOrder R) (same : map.IsAntisymmetric R) where
  flip : {A : Type 0} (k q : K) (x y : A) → cond (is_at (R k) q) x y ≡ cond (eq_by_cmp R q k) x y
  flip k q x y = ap (λ b. cond b x y) ((eq_by_cmp_equiv o).symm k q)

  module _ {X : Type 0} where
    -- what the entries have at a key
    abbrev at_key : List (K × X) → K → Option X
    at_key es q = lookup (is_at (R q)) es

    find-lookup : (es : List (K × X)) (q : K) → map.find R q es ≡ at_key es q
    find-lookup [] q = refl
    find-lookup (e ∷ es) q = ap (cond (eq_by_cmp R q e.0) (Some e.1)) (find-lookup es q)

    pub get-entries : (es : List (K × X)) (q : K) → map.get (map.from_entries {R = R} es) q ≡ at_key es q
    get-entries es q = map.get-from_entries o es q ∙ find-lookup es q

    -- entries that gained a value at k make the map with it
    pub insert-entries : (es fs : List (K × X)) (k : K) (v : X) → ((q : K) → at_key fs q ≡ cond (is_at (R k) q) (Some v) (at_key es q)) → map.from_entries {R = R} fs ≡ map.insert (map.from_entries es) k v
    insert-entries es fs k v h = map.same_map o same _ _ (λ q.
        get-entries fs q ∙ h q ∙ flip k q (Some v) (at_key es q)
        ∙ sym (map.get-insert o (map.from_entries es) k v q ∙ ap (cond (eq_by_cmp R q k) (Some v)) (get-entries es q)))

    -- entries that lost k make the map without it
    pub remove-entries : (es fs : List (K × X)) (k : K) → ((q : K) → at_key fs q ≡ cond (is_at (R k) q) None (at_key es q)) → map.from_entries {R = R} fs ≡ map.remove (map.from_entries es) k
    remove-entries es fs k h = map.same_map o same _ _ (λ q.
        get-entries fs q ∙ h q ∙ flip k q None (at_key es q)
        ∙ sym (map.get-remove o (map.from_entries es) k q ∙ ap (cond (eq_by_cmp R q k) None) (get-entries es q)))

    -- entries whose value x at k was changed to y, as f does, make the map with it changed
    pub change-entries : (f : X → X) (es fs : List (K × X)) (k : K) (x y : X) → y ≡ f x → at_key es k ≡ Some x → ((q : K) → at_key fs q ≡ cond (is_at (R k) q) (Some y) (at_key es q)) → map.from_entries {R = R} fs ≡ change_at f (map.from_entries es) k
    change-entries f es fs k x y is here h =
        insert-entries es fs k y h ∙ ap (map.insert (map.from_entries es) k) is
        ∙ ap (λ o. option_map_or (λ y. map.insert (map.from_entries es) k (f y)) o (map.from_entries es)) (sym (get-entries es k ∙ here))

    -- entries whose value x at k was written again make the same map
    pub same-entries : (es fs : List (K × X)) (k : K) (x y : X) → y ≡ x → at_key es k ≡ Some x → ((q : K) → at_key fs q ≡ cond (is_at (R k) q) (Some y) (at_key es q)) → map.from_entries {R = R} fs ≡ map.from_entries es
    same-entries es fs k x y is here h = map.same_map o same _ _ (λ q.
        get-entries fs q ∙ h q ∙ flip k q (Some y) (at_key es q)
        ∙ (elim (eq_by_cmp R q k) as (λ b. eq_by_cmp R q k ≡ b → cond b (Some y) (at_key es q) ≡ at_key es q) [
          | true ↦ λ e. ap Some is ∙ sym here ∙ ap (at_key es) (sym (same q k ((Equal-is (R q k)).0 e)))
          | false ↦ λ _. refl
        ] refl)
        ∙ sym (get-entries es q))

    -- where there is no value to change, the map stays
    pub change-no_entry : (f : X → X) (es : List (K × X)) (k : K) → at_key es k ≡ None → map.from_entries {R = R} es ≡ change_at f (map.from_entries es) k
    change-no_entry f es k none =
        ap (λ o. option_map_or (λ y. map.insert (map.from_entries es) k (f y)) o (map.from_entries es)) (sym (get-entries es k ∙ none))

    at_no_key : (k : K) (es : List (K × X)) → AllByRecursion (λ y. R k y ≡ Less) (keys_of es) → at_key es k ≡ None
    at_no_key k [] h = refl
    at_no_key k (e ∷ es) h = subst (λ r. cond (is_eq r) (Some e.1) (at_key es k) ≡ None) (sym h.0) (at_no_key k es h.1)

    -- entries in order are as many as those of the map
    pub len-entries : (es : List (K × X)) → IsStrictlySortedBy R (keys_of es) → map.len (map.from_entries {R = R} es) ≡ length es
    len-entries [] s = map.len-empty R X
    len-entries (e ∷ es) s =
        let n : ℕ = map.len (map.from_entries {R = R} es) in
        map.len-insert o (map.from_entries es) e.0 e.1
        ∙ ap (λ o. cond (is_some o) n (n + 1)) (get-entries es e.0 ∙ at_no_key e.0 es (sorted_head R e.0 (keys_of es) s))
        ∙ ap (λ n. n + 1) (len-entries es (sorted_tail R e.0 (keys_of es) s)) ∙ add-one (length es)

    put_less : (e : K × X) (es : List (K × X)) → AllByRecursion (λ y. R e.0 y ≡ Less) (keys_of es) → map.put R e.0 e.1 es ≡ e ∷ es
    put_less e [] h = refl
    put_less e (f ∷ fs) h = rw h.0 refl

    -- entries in order are those of the map
    pub entries-entries : (es : List (K × X)) → IsStrictlySortedBy R (keys_of es) → map.entries (map.from_entries {R = R} es) ≡ es
    entries-entries [] s = no_length _ (sym (map.len-entries map.empty) ∙ map.len-empty R X)
    entries-entries (e ∷ es) s =
        map.entries-insert o (map.from_entries es) e.0 e.1 ∙ ap (map.put R e.0 e.1) (entries-entries es (sorted_tail R e.0 (keys_of es) s))
        ∙ put_less e es (sorted_head R e.0 (keys_of es) s)

  -- keys that gained k make the set with it
  pub insert-keys : (ks ls : List K) (k : K) → ((q : K) → list_any (is_at (R q)) ls ≡ cond (is_at (R k) q) true (list_any (is_at (R q)) ks)) → set.from_list {R = R} ls ≡ set.insert (set.from_list ks) k
  insert-keys ks ls k h = set.same_set o same _ _ (λ q.
      set.contains-from_list o ls q ∙ h q ∙ flip k q true _ ∙ or_cond (eq_by_cmp R q k) _
      ∙ sym (set.contains-insert o (set.from_list ks) k q ∙ ap (λ b. eq_by_cmp R q k || b) (set.contains-from_list o ks q)))

  -- keys that lost k make the set without it
  pub remove-keys : (ks ls : List K) (k : K) → ((q : K) → list_any (is_at (R q)) ls ≡ cond (is_at (R k) q) false (list_any (is_at (R q)) ks)) → set.from_list {R = R} ls ≡ set.remove (set.from_list ks) k
  remove-keys ks ls k h = set.same_set o same _ _ (λ q.
      set.contains-from_list o ls q ∙ h q ∙ flip k q false _ ∙ and_cond (eq_by_cmp R q k) _
      ∙ sym (set.contains-remove o (set.from_list ks) k q ∙ ap (λ b. not (eq_by_cmp R q k) && b) (set.contains-from_list o ks q)))

  no_key : (k : K) (ks : List K) → AllByRecursion (λ y. R k y ≡ Less) ks → list_any (is_at (R k)) ks ≡ false
  no_key k [] h = refl
  no_key k (x ∷ ks) h = subst (λ r. (is_eq r || list_any (is_at (R k)) ks) ≡ false) (sym h.0) (no_key k ks h.1)

  -- keys in order are as many as those of the set
  pub len-keys : (ks : List K) → IsStrictlySortedBy R ks → set.len (set.from_list {R = R} ks) ≡ length ks
  len-keys [] s = set.len-empty R
  len-keys (k ∷ ks) s =
      let n : ℕ = set.len (set.from_list {R = R} ks) in
      set.len-insert o (set.from_list ks) k
      ∙ ap (λ b. cond b n (n + 1)) (set.contains-from_list o ks k ∙ no_key k ks (sorted_head R k ks s))
      ∙ ap (λ n. n + 1) (len-keys ks (sorted_tail R k ks s)) ∙ add-one (length ks)
