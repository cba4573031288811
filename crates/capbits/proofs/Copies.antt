-- A copy of a finite map, made key by key or entry by entry, or of a finite set.
use Rattle.std.proofs.Common.{◌≡◌, Bool, true, false, cond, ◌||◌, List, [], ◌∷◌, ◌++◌, Option, Some, None, is_some, inl, inr, refl, sym, ap, subst, ◌∙◌}
use Rattle.std.proofs.Common.{map as each}
use Rattle.std.specs.declared.cmp.Ordering.{Ordering}
use Rattle.std.specs.Cmp.{IsTotalOrder}
use Rattle.std.specs.FinMap as map
use Rattle.std.specs.FinMap.{FinMap}
use Rattle.std.specs.FinSet as set
use Rattle.std.specs.FinSet.{FinSet}
use Rattle.std.specs.List.{AllByRecursion, list_any}
use Rattle.std.specs.Ordering.{eq_by_cmp}
use Rattle.capbits.proofs.Found.{any-map, found}
use Rattle.capbits.proofs.Maps.{apart, insert-here, insert-other, same_or_other, tied_here}

all_at : {A : Type 0} (P : A → Type 0) (xs ys : List A) (y : A) → AllByRecursion P (xs ++ y ∷ ys) → P y
all_at P [] ys y h = h.0
all_at P (x ∷ xs) ys y h = all_at P xs ys y h.1

each-push : {A B : Type 0} (f : A → B) (xs : List A) (x : A) → each f (xs ++ x ∷ []) ≡ each f xs ++ f x ∷ []
each-push f [] x = refl
each-push f (y ∷ ys) x = ap (λ r. f y ∷ r) (each-push f ys x)

any_push : {A : Type 0} (p : A → Bool) (xs : List A) (x : A) → list_any p (xs ++ x ∷ []) ≡ (p x || list_any p xs)
any_push p [] x = refl
any_push p (y ∷ ys) x = ap (λ b. p y || b) (any_push p ys x) ∙ swapped (p y) (p x) (list_any p ys) where
  swapped : (a b c : Bool) → (a || (b || c)) ≡ (b || (a || c))
  swapped true true c = refl
  swapped true false c = refl
  swapped false b c = refl

whole_or : {X : Type 0} (o : Option X) → cond (is_some o) o None ≡ o
whole_or None = refl
whole_or (Some x) = refl

none_twice : {X : Type 0} (b : Bool) → ◌≡◌ {A = Option X} (cond b None None) None
none_twice true = refl
none_twice false = refl

module _ {K : Type 0} {R : K → K → Ordering} (o : IsTotalOrder R) (same : map.IsAntisymmetric R) where
  module _ {X : Type 0} where
    -- the copy has the values of m at the keys ks, and nothing else
    abbrev pub IsCopiedAt : FinMap R X → List K → FinMap R X → Type 0
    IsCopiedAt m ks copy = (q : K) → map.get copy q ≡ cond (list_any (eq_by_cmp R q) ks) (map.get m q) None

    pub copied_none : (m : FinMap R X) → IsCopiedAt m [] map.empty
    copied_none m q = map.get-empty R q

    -- once the copy has at the key of y what m has there, it has the values at all keys up to y
    copied_more : {A : Type 0} (shows : A → K) (m made next : FinMap R X) (ys : List A) (y : A) → map.get next (shows y) ≡ map.get m (shows y) → ((q : K) → (q ≡ shows y → ⊥) → map.get next q ≡ map.get made q)
        → IsCopiedAt m (each shows ys) made → IsCopiedAt m (each shows (ys ++ y ∷ [])) next
    copied_more shows m made next ys y here others so_far q =
        let k : K = shows y in
        let ks : List K = each shows ys in
        let tests = ap (list_any (eq_by_cmp R q)) (each-push shows ys y) ∙ any_push (eq_by_cmp R q) ks k in
        elim (same_or_other o same q k) as (λ _. map.get next q ≡ cond (list_any (eq_by_cmp R q) (each shows (ys ++ y ∷ []))) (map.get m q) None) [
          | inl is ↦
              let t : eq_by_cmp R q k ≡ true = ap (λ q. eq_by_cmp R q k) is ∙ tied_here o same k in
              ap (map.get next) is ∙ here ∙ ap (map.get m) (sym is) ∙ sym (ap (λ b. cond b (map.get m q) None) (tests ∙ ap (λ b. b || list_any (eq_by_cmp R q) ks) t))
          | inr off ↦
              others q off ∙ so_far q ∙ sym (ap (λ b. cond b (map.get m q) None) (tests ∙ ap (λ b. b || list_any (eq_by_cmp R q) ks) (apart o same q k off)))
        ]

    -- a round of a loop over keys that puts in what m has at the key
    pub copied_put : {A : Type 0} (shows : A → K) (m made next : FinMap R X) (ys : List A) (y : A) (v : X) → map.get m (shows y) ≡ Some v → next ≡ map.insert made (shows y) v
        → IsCopiedAt m (each shows ys) made → IsCopiedAt m (each shows (ys ++ y ∷ [])) next
    copied_put shows m made next ys y v here added =
        copied_more shows m made next ys y (ap (λ n. map.get n (shows y)) added ∙ insert-here o same made (shows y) v ∙ sym here)
        (λ q off. ap (λ n. map.get n q) added ∙ insert-other o same made (shows y) v q off)

    -- a round at whose key m has nothing
    pub copied_skip : {A : Type 0} (shows : A → K) (m made : FinMap R X) (ys : List A) (y : A) → map.get m (shows y) ≡ None
        → IsCopiedAt m (each shows ys) made → IsCopiedAt m (each shows (ys ++ y ∷ [])) made
    copied_skip shows m made ys y none so_far =
        let here = so_far (shows y) ∙ ap (λ v. cond (list_any (eq_by_cmp R (shows y)) (each shows ys)) v None) none ∙ none_twice _ in
        copied_more shows m made made ys y (here ∙ sym none) (λ q off. refl) so_far

    -- what has the values of m at all keys of m is m
    pub copied_keys : (m copy : FinMap R X) (ks : List K) → ks ≡ map.keys m → IsCopiedAt m ks copy → copy ≡ m
    copied_keys m copy ks all whole = map.same_map o same copy m (λ q.
        whole q ∙ ap (λ b. cond b (map.get m q) None) (ap (list_any (eq_by_cmp R q)) all ∙ sym (map.contains_key-keys m q)) ∙ whole_or (map.get m q))

    -- the copy has the values of m at the keys of es, and nothing else
    abbrev pub IsCopied : FinMap R X → List (K × X) → FinMap R X → Type 0
    IsCopied m es copy = IsCopiedAt m (each (λ (e : K × X). e.0) es) copy

    -- a round of a loop over the entries
    pub copied_turn : {A : Type 0} (shows : A → K × X) (m made next : FinMap R X) (ys : List A) (y : A) (rest : List (K × X)) → map.entries m ≡ each shows ys ++ shows y ∷ rest → next ≡ map.insert made (shows y).0 (shows y).1
        → IsCopied m (each shows ys) made → IsCopied m (each shows (ys ++ y ∷ [])) next
    copied_turn shows m made next ys y rest split added so_far =
        let P : K × X → Type 0 = λ e. map.get m e.0 ≡ Some e.1 in
        let here : map.get m (shows y).0 ≡ Some (shows y).1 = all_at P (each shows ys) rest (shows y) (subst (AllByRecursion P) split (found o same m)) in
        subst (λ es. IsCopied m es next) (sym (each-push shows ys y)) (copied_put (λ (e : K × X). e.0) m made next (each shows ys) (shows y) (shows y).1 here added so_far)

    pub copied_end : (m made : FinMap R X) (es : List (K × X)) → es ≡ map.entries m → IsCopied m es made → made ≡ m
    copied_end m made es whole so_far = copied_keys m made _ (ap (each (λ (e : K × X). e.0)) whole) so_far

  -- the copy has the names of ks, and nothing else
  abbrev pub IsCopiedSet : List K → FinSet R → Type 0
  IsCopiedSet ks copy = (q : K) → set.contains copy q ≡ list_any (eq_by_cmp R q) ks

  pub copied_set_none : IsCopiedSet [] set.empty
  copied_set_none q = set.contains-empty R q

  copied_set_more : (copy : FinSet R) (ks : List K) (k : K) → IsCopiedSet ks copy → IsCopiedSet (ks ++ k ∷ []) (set.insert copy k)
  copied_set_more copy ks k so_far q = set.contains-insert o copy k q ∙ ap (λ b. eq_by_cmp R q k || b) (so_far q) ∙ sym (any_push (eq_by_cmp R q) ks k)

  pub copied_set_turn : {A : Type 0} (shows : A → K) (made next : FinSet R) (ys : List A) (y : A) → next ≡ set.insert made (shows y) → IsCopiedSet (each shows ys) made → IsCopiedSet (each shows (ys ++ y ∷ [])) next
  copied_set_turn shows made next ys y added so_far =
      subst (λ ks. IsCopiedSet ks next) (sym (each-push shows ys y)) (subst (IsCopiedSet (each shows ys ++ shows y ∷ [])) (sym added) (copied_set_more made (each shows ys) (shows y) so_far))

  pub copied_set_all : (s copy : FinSet R) (ks : List K) → ((q : K) → list_any (eq_by_cmp R q) ks ≡ set.contains s q) → IsCopiedSet ks copy → copy ≡ s
  copied_set_all s copy ks all whole = set.same_set o same copy s (λ q. whole q ∙ all q)
