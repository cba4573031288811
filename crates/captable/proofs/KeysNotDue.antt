-- Places before which no key is due, after a change of the keys.
use Rattle.std.proofs.Common.{◌≡◌, ◌<◌, ◌≤◌, ℕ, Bool, true, false, cond, ◌||◌, Option, Some, None, inl, inr, List, [], ◌∷◌, ◌++◌, map, filter, refl, sym, ap}
use Rattle.std.proofs.Common.{subst, ◌∙◌, arith, nat_eq, nat_lt, slice_get}
use Rattle.std.specs.List.{AllByRecursion, IsDistinct}
use Rattle.std.specs.Option.{option_map_or}
use Rattle.std.specs.Cmp.{nat_eq_equiv}
use Rattle.std.proofs.lemmas.Bool.{eq-eqb, eqb-true, ltb-false, ltb-true}
use Rattle.cap_arena.specs.declared.nodes.Node.{Node}
use Rattle.cap_arena.specs.Walks.{is_among, key_after}
use Rattle.cap_arena.specs.Calls.{keys_without}
use Rattle.cap_arena.specs.Lists.{Lists, node_at}
use Rattle.captable.specs.declared.entry.Slot.{Slot}
use Rattle.captable.specs.Calls.{is_due, is_due_entry}
use Rattle.captable.specs.Nodes.{nodes_at, row_of, with_first}
use Rattle.captable.specs.Walks.{IsPlaceIn, keys_from, keys_on}
use Rattle.captable.specs.Places.{AreInOrder, NoneDueIn, is_due_at, moved_on}
use Rattle.captable.proofs.NodesAt.{head_in, rest_in}
use Rattle.captable.proofs.WalkOn.{after-in, apart-from, keys-next}
use Rattle.captable.proofs.Orders.{among-left, among-narrow, among-wider, either-on, left-apart, left-in, on-in, on-left, on-trans, on-wider, own-on}

-- ---- places of a list

-- a place whose key is not due
pub none_due-next : (ks : List ℕ) (due : ℕ → Bool) (j : ℕ) → IsDistinct nat_eq ks → due j ≡ false → NoneDueIn ks due (Some j) → NoneDueIn ks due (key_after ks j)
none_due-next ks due j once not_due q = record {
  placed = after-in ks j;
  later = λ key there is. by_test key is (nat_eq key j) refl (sym (ap (λ js. is_among js key) (keys-next ks j once q.placed)) ∙ q.later key there is);
}
  where
    by_test : (key : ℕ) → due key ≡ true → (b : Bool) → nat_eq key j ≡ b → is_among (j ∷ keys_from ks (key_after ks j)) key ≡ true → is_among (keys_from ks (key_after ks j)) key ≡ true
    by_test key is true e there = absurd (let other : due key ≡ false = ap due (eqb-true key j e) ∙ not_due in cc)
    by_test key is false e there = sym (ap (λ b. b || is_among (keys_from ks (key_after ks j)) key) e) ∙ there

-- ---- other keys are due

-- none more
pub none_due-fewer : (ks : List ℕ) (due due' : ℕ → Bool) (place : Option ℕ) → ((k : ℕ) → is_among ks k ≡ true → due' k ≡ true → due k ≡ true) → NoneDueIn ks due place → NoneDueIn ks due' place
none_due-fewer ks due due' place was q = record { placed = q.placed; later = λ key there is. q.later key there (was key there is) }

-- one more, which comes from the place on
none_due-more : (ks : List ℕ) (due due' : ℕ → Bool) (key : ℕ) (place : Option ℕ) → ((k : ℕ) → nat_eq k key ≡ false → due' k ≡ true → due k ≡ true) → is_among (keys_from ks place) key ≡ true
    → NoneDueIn ks due place → NoneDueIn ks due' place
none_due-more ks due due' key place was own q = record { placed = q.placed; later = λ k there is. by_test k there is (nat_eq k key) refl }
  where
    by_test : (k : ℕ) → is_among ks k ≡ true → due' k ≡ true → (b : Bool) → nat_eq k key ≡ b → is_among (keys_from ks place) k ≡ true
    by_test k there is true e = ap (is_among (keys_from ks place)) (eqb-true k key e) ∙ own
    by_test k there is false e = q.later k there (was k e is)

-- an earlier place
none_due-earlier : (ks : List ℕ) (due : ℕ → Bool) (i j : ℕ) → IsDistinct nat_eq ks → is_among ks i ≡ true → is_among (keys_on ks i) j ≡ true → NoneDueIn ks due (Some j) → NoneDueIn ks due (Some i)
none_due-earlier ks due i j once there on q = record { placed = there; later = λ key listed is. on-trans ks i j key once on (q.later key listed is) }

-- one more: the place is the key's, if its number is below that of the place
pub none_due-lowered : (ks : List ℕ) (due due' : ℕ → Bool) (number : ℕ → ℕ) (key : ℕ) (place : Option ℕ) → IsDistinct nat_eq ks → AreInOrder number ks → is_among ks key ≡ true
    → ((k : ℕ) → nat_eq k key ≡ false → due' k ≡ true → due k ≡ true) → (before : Option ℕ → Bool) → before None ≡ true → ((j : ℕ) → before (Some j) ≡ nat_lt (number key) (number j))
    → NoneDueIn ks due place → NoneDueIn ks due' (cond (before place) (Some key) place)
none_due-lowered ks due due' number key None once order there was before at_end at_key q =
    let start : NoneDueIn ks due (Some key) = record { placed = there; later = λ k listed is. absurd (let none = q.later k listed is in cc) } in
    subst (λ b. NoneDueIn ks due' (cond b (Some key) None)) (sym at_end) (none_due-more ks due due' key (Some key) was (own-on ks key there) start)
none_due-lowered ks due due' number key (Some j) once order there was before at_end at_key q =
    subst (λ b. NoneDueIn ks due' (cond b (Some key) (Some j))) (sym (at_key j)) (by_test (nat_lt (number key) (number j)) refl)
  where
    -- a key from another on, unless its number is below
    behind : (i k : ℕ) → is_among ks i ≡ true → is_among ks k ≡ true → (number k < number i → ⊥) → is_among (keys_on ks i) k ≡ true
    behind i k a b up = elim (either-on ks i k a b) [ inl on ↦ on | inr on ↦ by_same on (nat_eq k i) refl ]
      where
        by_same : is_among (keys_on ks k) i ≡ true → (e : Bool) → nat_eq k i ≡ e → is_among (keys_on ks i) k ≡ true
        by_same on true e = ap (is_among (keys_on ks i)) (eqb-true k i e) ∙ own-on ks i a
        by_same on false e = absurd (up (order.rises k i on e))

    by_test : (b : Bool) → nat_lt (number key) (number j) ≡ b → NoneDueIn ks due' (cond b (Some key) (Some j))
    by_test true e =
        let less : number key < number j = ltb-true (number key) (number j) e in
        let on : is_among (keys_on ks key) j ≡ true = behind key j there q.placed (λ up. omega (arith, less, up)) in
        none_due-more ks due due' key (Some key) was (own-on ks key there) (none_due-earlier ks due key j once there on q)
    by_test false e =
        let not_less : number j ≤ number key = ltb-false (number key) (number j) e in
        none_due-more ks due due' key (Some j) was (behind j key q.placed there (λ up. omega (arith, not_less, up))) q

-- ---- other keys

-- one more, which is not due
pub none_due-wider : (ks : List ℕ) (due due' : ℕ → Bool) (x : ℕ) (place : Option ℕ) → due' x ≡ false → ((k : ℕ) → nat_eq k x ≡ false → due' k ≡ due k) → NoneDueIn ks due place → NoneDueIn (ks ++ x ∷ []) due' place
none_due-wider ks due due' x place not_due same q = record { placed = still place q.placed; later = λ key there is. by_test key there is (nat_eq key x) refl }
  where
    still : (place : Option ℕ) → IsPlaceIn ks place → IsPlaceIn (ks ++ x ∷ []) place
    still None there = tt
    still (Some j) there = among-wider ks x j there

    on : (place : Option ℕ) (key : ℕ) → is_among (keys_from ks place) key ≡ true → is_among (keys_from (ks ++ x ∷ []) place) key ≡ true
    on None key there = there
    on (Some j) key there = on-wider ks x j key there

    by_test : (key : ℕ) → is_among (ks ++ x ∷ []) key ≡ true → due' key ≡ true → (b : Bool) → nat_eq key x ≡ b → is_among (keys_from (ks ++ x ∷ []) place) key ≡ true
    by_test key there is true e = absurd (let other : due' key ≡ false = ap due' (eqb-true key x e) ∙ not_due in cc)
    by_test key there is false e = on place key (q.later key (among-narrow ks x key there e) (sym (same key e) ∙ is))

-- one less, which is not that of the place
pub none_due-left : (ks : List ℕ) (due : ℕ → Bool) (r : ℕ) (place : Option ℕ) → ((i : ℕ) → place ≡ Some i → nat_eq r i ≡ false) → NoneDueIn ks due place → NoneDueIn (keys_without ks r) due place
none_due-left ks due r None apart q = record { placed = tt; later = λ key there is. q.later key (left-in ks r key there) is }
none_due-left ks due r (Some i) apart q = record {
  placed = among-left ks r i q.placed (apart i refl);
  later = λ key there is. on-left ks r i key (q.later key (left-in ks r key there) is) (apart i refl) (left-apart ks r key there);
}

first-apart : (k : ℕ) (ks : List ℕ) (i : ℕ) → AllByRecursion (λ q. nat_eq k q ≡ false) ks → slice_get ks 0 ≡ Some i → nat_eq k i ≡ false
first-apart k [] i apart e = absurd (cc)
first-apart k (j ∷ ks) i apart e = let is : j ≡ i = cc in ap (nat_eq k) (sym is) ∙ apart.0

after-apart : (ks : List ℕ) (r i : ℕ) → IsDistinct nat_eq ks → key_after ks r ≡ Some i → nat_eq r i ≡ false
unfolding IsDistinct
after-apart [] r i once e = absurd (cc)
after-apart (k ∷ ks) r i once e = by_test (nat_eq r k) refl e once.0 (after-apart ks r i once.1)
  where
    by_test : (b : Bool) → nat_eq r k ≡ b → cond b (slice_get ks 0) (key_after ks r) ≡ Some i → AllByRecursion (λ q. nat_eq k q ≡ false) ks → (key_after ks r ≡ Some i → nat_eq r i ≡ false) → nat_eq r i ≡ false
    by_test true own e apart rest = ap (λ x. nat_eq x i) (eqb-true r k own) ∙ first-apart k ks i apart e
    by_test false other e apart rest = rest e

-- one less: where it is that of the place, the next one takes its stead
pub none_due-moved : (ks : List ℕ) (due : ℕ → Bool) (r : ℕ) (place : Option ℕ) → IsDistinct nat_eq ks → due r ≡ false → NoneDueIn ks due place → NoneDueIn (keys_without ks r) due (moved_on r (key_after ks r) place)
none_due-moved ks due r None once not_due q = none_due-left ks due r None (λ i e. absurd (cc)) q
none_due-moved ks due r (Some j) once not_due q = by_test (nat_eq j r) refl
  where
    by_test : (b : Bool) → nat_eq j r ≡ b → NoneDueIn (keys_without ks r) due (cond b (key_after ks r) (Some j))
    by_test true e =
        none_due-left ks due r (key_after ks r) (λ i e. after-apart ks r i once e)
        (none_due-next ks due r once not_due (subst (λ x. NoneDueIn ks due (Some x)) (eqb-true j r e) q))
    by_test false e = none_due-left ks due r (Some j) (λ i s. let is : j ≡ i = cc in ap (nat_eq r) (sym is) ∙ nat_eq_equiv.symm r j ∙ e) q

-- ---- the rows that are due

module _ (t : Lists Slot) where
  row-skipped : (o : Option (Node Slot)) (ns : List (Node Slot)) → option_map_or (λ (node : Node Slot). is_due_entry node.value.entry) o false ≡ false
      → filter is_due (map row_of (with_first o ns)) ≡ filter is_due (map row_of ns)
  row-skipped None ns e = refl
  row-skipped (Some m) ns e = ap (λ b. cond b (row_of m ∷ filter is_due (map row_of ns)) (filter is_due (map row_of ns))) e

  not-due : (k : ℕ) → (is_due_at t k ≡ true → ⊥) → is_due_at t k ≡ false
  not-due k never = by_test (is_due_at t k) refl
    where
      by_test : (b : Bool) → is_due_at t k ≡ b → b ≡ false
      by_test true e = absurd (never e)
      by_test false e = refl

  -- those from the place on are all
  pub rows-due : (ks : List ℕ) (place : Option ℕ) → IsDistinct nat_eq ks → NoneDueIn ks (is_due_at t) place
      → filter is_due (map row_of (nodes_at (node_at t) (keys_from ks place))) ≡ filter is_due (map row_of (nodes_at (node_at t) ks))
  unfolding IsDistinct
  rows-due [] None once q = refl
  rows-due [] (Some j) once q = refl
  rows-due (k ∷ ks) None once q =
      let out : is_due_at t k ≡ false = not-due k (λ is. (let none = q.later k (head_in k ks) is in absurd (cc))) in
      rows-due ks None once.1 (record { placed = tt; later = λ key there is. q.later key (rest_in k ks key there) is })
      ∙ sym (row-skipped (node_at t k) (nodes_at (node_at t) ks) out)
  rows-due (k ∷ ks) (Some j) once q = by_test (nat_eq j k) refl q.placed (λ key there is. q.later key there is) once.0 (rows-due ks (Some j) once.1)
    where
      by_test : (b : Bool) → nat_eq j k ≡ b → (b || is_among ks j) ≡ true → ((key : ℕ) → is_among (k ∷ ks) key ≡ true → is_due_at t key ≡ true → is_among (cond b (k ∷ ks) (keys_on ks j)) key ≡ true)
          → AllByRecursion (λ x. nat_eq k x ≡ false) ks
          → (NoneDueIn ks (is_due_at t) (Some j) → filter is_due (map row_of (nodes_at (node_at t) (keys_on ks j))) ≡ filter is_due (map row_of (nodes_at (node_at t) ks)))
          → filter is_due (map row_of (nodes_at (node_at t) (cond b (k ∷ ks) (keys_on ks j)))) ≡ filter is_due (map row_of (nodes_at (node_at t) (k ∷ ks)))
      by_test true e placed later apart rest = refl
      by_test false e placed later apart rest =
          let out : is_due_at t k ≡ false = not-due k (λ is. (let no : nat_eq k k ≡ false = apart-from k ks k apart (on-in ks j k (later k (head_in k ks) is)) in let own : nat_eq k k ≡ true = eq-eqb k k refl in absurd (cc))) in
          rest (record { placed = placed; later = λ key there is. later key (rest_in k ks key there) is })
          ∙ sym (row-skipped (node_at t k) (nodes_at (node_at t) ks) out)
