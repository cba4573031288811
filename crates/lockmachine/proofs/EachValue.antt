-- A finite map of which each value was made another: what it has, and what it is after a change; and the maps of locks and of counts
-- that one map of both stands for.
use Rattle.std.proofs.Common.{◌≡◌, ℕ, Bool, true, false, cond, ◌&&◌, Option, Some, None, T, List, [], ◌∷◌, is_some, refl, sym, ap, subst, ◌∙◌}
use Rattle.std.proofs.Common.{map as each}
use Rattle.std.specs.Cmp.{nat_cmp_total}
use Rattle.std.specs.FinMap as map
use Rattle.std.specs.FinMap.{FinMap}
use Rattle.std.specs.FinMap.Entries.{below_all}
use Rattle.std.specs.Option.{option_map, option_map_or}
use Rattle.std.specs.Ordering.{eq_by_cmp, is_lt, nat_cmp}
use Rattle.capbits.specs.Maps.{change_at}
use Rattle.capbits.proofs.Maps.{insert-same}
use Rattle.locktable.specs.declared.counts.Counts.{Counts}
use Rattle.lockmachine.specs.declared.states.InodeLocks.{InodeLocks}
use Rattle.lockmachine.specs.declared.states.LocksAt.{LocksAt}
use Rattle.lockmachine.specs.Inodes.{CountedStates, HaveCounts, each_value}

module _ {X Y : Type 0} (f : X → Y) where
  abbrev made : List (ℕ × X) → List (ℕ × Y)
  made es = each (λ e. (e.0, f e.1)) es

  below-made : (k : ℕ) (es : List (ℕ × X)) → below_all nat_cmp k (made es) ≡ below_all nat_cmp k es
  below-made k [] = refl
  below-made k (e ∷ es) = ap (λ b. is_lt (nat_cmp k e.0) && b) (below-made k es)

  sorted-made : (es : List (ℕ × X)) → map.is_sorted nat_cmp (made es) ≡ map.is_sorted nat_cmp es
  sorted-made [] = refl
  sorted-made (e ∷ es) = λ i. below-made e.0 es i && sorted-made es i

  keys-made : (es : List (ℕ × X)) → each (λ (e : ℕ × Y). e.0) (made es) ≡ each (λ (e : ℕ × X). e.0) es
  keys-made [] = refl
  keys-made (e ∷ es) = ap (λ ks. e.0 ∷ ks) (keys-made es)

  find-made : (q : ℕ) (es : List (ℕ × X)) → map.find nat_cmp q (made es) ≡ option_map f (map.find nat_cmp q es)
  find-made q [] = refl
  find-made q (e ∷ es) =
      elim (eq_by_cmp nat_cmp q e.0) as (λ b. cond b (Some (f e.1)) (map.find nat_cmp q (made es)) ≡ option_map f (cond b (Some e.1) (map.find nat_cmp q es)))
      [ true ↦ refl | false ↦ find-made q es ]

  rises : (m : FinMap nat_cmp X) → T (map.is_sorted nat_cmp (made (map.entries m)))
  rises m = subst T (sym (sorted-made (map.entries m))) (map.entries_sorted m)

  pub keys-each : (m : FinMap nat_cmp X) → map.keys (each_value f m) ≡ map.keys m
  keys-each m = ap (each (λ (e : ℕ × Y). e.0)) (map.entries-from_sorted nat_cmp (made (map.entries m)) (rises m)) ∙ keys-made (map.entries m)

  pub get-each : (m : FinMap nat_cmp X) (q : ℕ) → map.get (each_value f m) q ≡ option_map f (map.get m q)
  get-each m q = map.get-from_sorted nat_cmp (made (map.entries m)) q (rises m) ∙ find-made q (map.entries m) ∙ ap (option_map f) (sym (map.get-entries m q))

  same_each : (m : FinMap nat_cmp X) (n : FinMap nat_cmp Y) → ((q : ℕ) → option_map f (map.get m q) ≡ map.get n q) → each_value f m ≡ n
  same_each m n same = map.same_map nat_cmp_total map.nat_cmp-IsAntisymmetric (each_value f m) n (λ q. get-each m q ∙ same q)

  pub empty-each : each_value f map.empty ≡ map.empty
  empty-each = same_each map.empty map.empty (λ q. ap (option_map f) (map.get-empty nat_cmp q) ∙ sym (map.get-empty nat_cmp q))

  map-cond : (b : Bool) (o p : Option X) → option_map f (cond b o p) ≡ cond b (option_map f o) (option_map f p)
  map-cond true o p = refl
  map-cond false o p = refl

  pub insert-each : (m : FinMap nat_cmp X) (k : ℕ) (v : X) → each_value f (map.insert m k v) ≡ map.insert (each_value f m) k (f v)
  insert-each m k v =
      same_each (map.insert m k v) (map.insert (each_value f m) k (f v)) (λ q.
      ap (option_map f) (map.get-insert nat_cmp_total m k v q) ∙ map-cond (eq_by_cmp nat_cmp q k) (Some v) (map.get m q)
      ∙ ap (cond (eq_by_cmp nat_cmp q k) (Some (f v))) (sym (get-each m q)) ∙ sym (map.get-insert nat_cmp_total (each_value f m) k (f v) q))

  pub remove-each : (m : FinMap nat_cmp X) (k : ℕ) → each_value f (map.remove m k) ≡ map.remove (each_value f m) k
  remove-each m k =
      same_each (map.remove m k) (map.remove (each_value f m) k) (λ q.
      ap (option_map f) (map.get-remove nat_cmp_total m k q) ∙ map-cond (eq_by_cmp nat_cmp q k) None (map.get m q)
      ∙ ap (cond (eq_by_cmp nat_cmp q k) None) (sym (get-each m q)) ∙ sym (map.get-remove nat_cmp_total (each_value f m) k q))

  -- one value is another, whose image is another
  pub change-each : (g : X → X) (h : Y → Y) → ((x : X) → f (g x) ≡ h (f x)) → (m : FinMap nat_cmp X) (k : ℕ) → each_value f (change_at g m k) ≡ change_at h (each_value f m) k
  change-each g h alike m k = by_value (map.get m k) ∙ ap (λ o. option_map_or (λ y. map.insert (each_value f m) k (h y)) o (each_value f m)) (sym (get-each m k))
    where
      by_value : (o : Option X) → each_value f (option_map_or (λ x. map.insert m k (g x)) o m) ≡ option_map_or (λ y. map.insert (each_value f m) k (h y)) (option_map f o) (each_value f m)
      by_value None = refl
      by_value (Some x) = insert-each m k (g x) ∙ ap (map.insert (each_value f m) k) (alike x)

  -- or whose image is the same
  pub change-unseen : (g : X → X) → ((x : X) → f (g x) ≡ f x) → (m : FinMap nat_cmp X) (k : ℕ) → each_value f (change_at g m k) ≡ each_value f m
  change-unseen g alike m k = by_value (map.get m k) refl
    where
      by_value : (o : Option X) → map.get m k ≡ o → each_value f (option_map_or (λ x. map.insert m k (g x)) o m) ≡ each_value f m
      by_value None is = refl
      by_value (Some x) is =
          insert-each m k (g x) ∙ ap (map.insert (each_value f m) k) (alike x)
          ∙ insert-same nat_cmp_total map.nat_cmp-IsAntisymmetric (each_value f m) k (f x) (get-each m k ∙ ap (option_map f) is)

-- ---- locks, and beside them counts

abbrev locks_at : LocksAt → InodeLocks
locks_at at = at.locks

abbrev counts_at : LocksAt → Counts
counts_at at = at.counts

abbrev pub both_of : FinMap nat_cmp LocksAt → CountedStates
both_of rows = record { states = each_value (λ (at : LocksAt). at.locks) rows; counts = each_value (λ (at : LocksAt). at.counts) rows }

pub both-empty : both_of map.empty ≡ record { states = map.empty; counts = map.empty }
both-empty = λ i. record { states = empty-each locks_at i; counts = empty-each counts_at i }

pub both-insert : (rows : FinMap nat_cmp LocksAt) (k : ℕ) (at : LocksAt) → both_of (map.insert rows k at) ≡ record { states = map.insert (both_of rows).states k at.locks; counts = map.insert (both_of rows).counts k at.counts }
both-insert rows k at = λ i. record { states = insert-each locks_at rows k at i; counts = insert-each counts_at rows k at i }

pub both-remove : (rows : FinMap nat_cmp LocksAt) (k : ℕ) → both_of (map.remove rows k) ≡ record { states = map.remove (both_of rows).states k; counts = map.remove (both_of rows).counts k }
both-remove rows k = λ i. record { states = remove-each locks_at rows k i; counts = remove-each counts_at rows k i }

-- other locks, or other counts
pub both-locks : (rows : FinMap nat_cmp LocksAt) (k : ℕ) (h : InodeLocks → InodeLocks)
    → both_of (change_at (λ at. record at { locks = h at.locks }) rows k) ≡ record (both_of rows) { states = change_at h (both_of rows).states k }
both-locks rows k h =
    let g : LocksAt → LocksAt = λ at. record at { locks = h at.locks } in
    λ i. record { states = change-each locks_at g h (λ at. refl) rows k i; counts = change-unseen counts_at g (λ at. refl) rows k i }

pub both-counts : (rows : FinMap nat_cmp LocksAt) (k : ℕ) (h : Counts → Counts)
    → both_of (change_at (λ at. record at { counts = h at.counts }) rows k) ≡ record (both_of rows) { counts = change_at h (both_of rows).counts k }
both-counts rows k h =
    let g : LocksAt → LocksAt = λ at. record at { counts = h at.counts } in
    λ i. record { states = change-unseen locks_at g (λ at. refl) rows k i; counts = change-each counts_at g h (λ at. refl) rows k i }

pub have-counts : (rows : FinMap nat_cmp LocksAt) → HaveCounts (both_of rows).states (both_of rows).counts
have-counts rows ino = ap is_some (get-each counts_at rows ino) ∙ same_some (map.get rows ino) ∙ sym (ap is_some (get-each locks_at rows ino))
  where
    same_some : (o : Option LocksAt) → is_some (option_map counts_at o) ≡ is_some (option_map locks_at o)
    same_some None = refl
    same_some (Some at) = refl
