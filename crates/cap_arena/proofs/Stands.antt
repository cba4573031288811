-- All lists at once, while a node is taken into its lists, or out of them, one after another.
use Rattle.std.proofs.Common.{◌≡◌, ℕ, Bool, true, false, not, ◌&&◌, ◌||◌, cond, Option, Some, None, List, [], ◌∷◌, ◌++◌, filter, reverse, refl, sym, ap, ◌∙◌}
use Rattle.std.proofs.Common.{subst, nat_eq}
use Rattle.std.specs.Option.{option_and_then, option_map, option_map_or}
use Rattle.std.proofs.Math.Bool.{or-false}
use Rattle.std.proofs.lemmas.Cmp.{nat_eq_equiv}
use Rattle.std.proofs.lemmas.Bool.{and_parts, eq-eqb, eqb-true}
use Rattle.cap_arena.specs.declared.nodes.Order.{Order}
use Rattle.cap_arena.specs.declared.nodes.Ends.{Ends}
use Rattle.cap_arena.specs.declared.nodes.Linked.{Linked}
use Rattle.cap_arena.specs.declared.nodes.Node.{Node}
use Rattle.cap_arena.specs.Nodes.{joint_of}
use Rattle.cap_arena.specs.Places.{appended_ends, linked_at, next_at, previous_at, with_first_at, with_last_at}
use Rattle.cap_arena.specs.Heads.{no_ends}
use Rattle.cap_arena.specs.Walks.{is_among, same_place}
use Rattle.cap_arena.specs.Lists.{ListName, OfClient, OfInode, OfRecall, belongs, order_of}
use Rattle.cap_arena.proofs.Rings.{IsRing, IsRing-alike, IsRing-push, IsRing-without, Split, among-append, among-filter, among-reverse, filter-split}
use Rattle.cap_arena.proofs.Rings.{first_step, head_among, same_place-is, split_at, walk_stays}
use Rattle.cap_arena.proofs.Writes.{Wrote, joint_at, plain_at, same_order, same_order-is, same_order-refl}

-- one list of each order has a node
one_name : {T : Type 0} (name other : ListName) (node : Node T) → order_of name ≡ order_of other → belongs name node ≡ true → belongs other node ≡ true → name ≡ other
one_name (OfInode i) (OfInode j) node e a b = let same : i.0 ≡ j.0 = sym (eqb-true node.ino.0 i.0 a) ∙ eqb-true node.ino.0 j.0 b in λ t. OfInode (record { 0 = same t })
one_name (OfClient i) (OfClient j) node e a b = let same : i.0 ≡ j.0 = sym (eqb-true node.client.0 i.0 a) ∙ eqb-true node.client.0 j.0 b in λ t. OfClient (record { 0 = same t })
one_name OfRecall OfRecall node e a b = refl
one_name (OfInode i) (OfClient j) node e a b = absurd (cc)
one_name (OfInode i) OfRecall node e a b = absurd (cc)
one_name (OfClient i) (OfInode j) node e a b = absurd (cc)
one_name (OfClient i) OfRecall node e a b = absurd (cc)
one_name OfRecall (OfInode j) node e a b = absurd (cc)
one_name OfRecall (OfClient j) node e a b = absurd (cc)

no_true : {P : Type 0} → false ≡ true → P
no_true e = absurd (cc)

-- the orders in whose lists the node is not, with one less, and with one more
abbrev pub with_on : (Order → Bool) → Order → Order → Bool
with_on off o q = not (same_order q o) && off q

abbrev pub with_off : (Order → Bool) → Order → Order → Bool
with_off off o q = same_order q o || off q

module _ {T : Type 0} where
  -- whether there is a node with the key that belongs into the list
  abbrev pub stands : List (Option (Linked T)) → ListName → ℕ → Bool
  stands slots name key = option_map_or (belongs name) (plain_at slots key) false

  one_name_at : (o : Option (Node T)) (name other : ListName) → order_of name ≡ order_of other → option_map_or (belongs name) o false ≡ true → option_map_or (belongs other) o false ≡ true → name ≡ other
  one_name_at None name other e a b = no_true a
  one_name_at (Some node) name other e a b = one_name name other node e a b

  -- the links of one list agree, and it has these nodes
  pub record Row (slots : List (Option (Linked T))) (ends : Ends) (name : ListName) (keys : List ℕ) (member : ℕ → Bool) : Type 0 where
    pub ring : IsRing (next_at slots ends (order_of name)) (previous_at slots ends (order_of name)) keys
    pub members : (k : ℕ) → is_among keys k ≡ member k

  -- each list has the nodes that belong into it, but that one node is out of the lists of some orders
  abbrev pub member : List (Option (Linked T)) → (Order → Bool) → ℕ → ListName → ℕ → Bool
  member slots off key name k = stands slots name k && not (off (order_of name) && nat_eq key k)

  abbrev pub Stand : List (Option (Linked T)) → (ListName → Ends) → (Order → Bool) → ℕ → (ListName → List ℕ) → Type 0
  Stand slots heads off key keys = (name : ListName) → Row slots (heads name) name (keys name) (member slots off key name)

  -- ---- a list that is not written

  -- where the ends and the places of a list's own nodes are the same
  pub Row-alike : (s s' : List (Option (Linked T))) (ends ends' : Ends) (name : ListName) (keys : List ℕ) (m m' : ℕ → Bool) → ends' ≡ ends
      → ((k : ℕ) → is_among keys k ≡ true → next_at s' no_ends (order_of name) (Some k) ≡ next_at s no_ends (order_of name) (Some k))
      → ((k : ℕ) → is_among keys k ≡ true → previous_at s' no_ends (order_of name) (Some k) ≡ previous_at s no_ends (order_of name) (Some k))
      → ((k : ℕ) → m' k ≡ m k) → Row s ends name keys m → Row s' ends' name keys m'
  Row-alike s s' ends ends' name keys m m' same forth back members row =
      record {
        ring = IsRing-alike (next_at s ends (order_of name)) (previous_at s ends (order_of name)) (next_at s' ends' (order_of name)) (previous_at s' ends' (order_of name)) keys
            (ap (λ (e : Ends). e.first) same) (ap (λ (e : Ends). e.last) same) forth back row.ring;
        members = λ k. row.members k ∙ sym (members k);
      }

  pub next_of_joint : (s s' : List (Option (Linked T))) (o : Order) (k : ℕ) → joint_at s' o k ≡ joint_at s o k → next_at s' no_ends o (Some k) ≡ next_at s no_ends o (Some k)
  next_of_joint s s' o k same = through (linked_at s' k) ∙ ap (λ q. option_and_then (λ j. j.next) q) same ∙ sym (through (linked_at s k))
    where
      through : (q : Option (Linked T)) → option_and_then (λ l. (joint_of o l).next) q ≡ option_and_then (λ j. j.next) (option_map (joint_of o) q)
      through None = refl
      through (Some l) = refl

  pub previous_of_joint : (s s' : List (Option (Linked T))) (o : Order) (k : ℕ) → joint_at s' o k ≡ joint_at s o k → previous_at s' no_ends o (Some k) ≡ previous_at s no_ends o (Some k)
  previous_of_joint s s' o k same = through (linked_at s' k) ∙ ap (λ q. option_and_then (λ j. j.previous) q) same ∙ sym (through (linked_at s k))
    where
      through : (q : Option (Linked T)) → option_and_then (λ l. (joint_of o l).previous) q ≡ option_and_then (λ j. j.previous) (option_map (joint_of o) q)
      through None = refl
      through (Some l) = refl

  -- what is written in one order leaves the lists of the others
  row_of_other_order : (s s' : List (Option (Linked T))) (o : Order) (a b c d : Option ℕ) → Wrote s s' o a b c d → (ends ends' : Ends) (name : ListName) (keys : List ℕ) (off off' : Order → Bool) (key : ℕ)
      → same_order (order_of name) o ≡ false → off' (order_of name) ≡ off (order_of name) → ends' ≡ ends
      → Row s ends name keys (member s off key name) → Row s' ends' name keys (member s' off' key name)
  row_of_other_order s s' o a b c d w ends ends' name keys off off' key apart same_off same row =
      Row-alike s s' ends ends' name keys (member s off key name) (member s' off' key name) same
      (λ k there. next_of_joint s s' (order_of name) k (w.others (order_of name) apart k))
      (λ k there. previous_of_joint s s' (order_of name) k (w.others (order_of name) apart k))
      (λ k. ap (λ n. option_map_or (belongs name) n false && not (off' (order_of name) && nat_eq key k)) (w.nodes k) ∙ ap (λ b. stands s name k && not (b && nat_eq key k)) same_off)
      row

  -- and it leaves the lists of its order that have no node at the places that are written
  row_of_other_list : (s s' : List (Option (Linked T))) (o : Order) (a b c d : Option ℕ) → Wrote s s' o a b c d → (ends ends' : Ends) (name : ListName) (keys : List ℕ) (m m' : ℕ → Bool)
      → order_of name ≡ o → ends' ≡ ends
      → ((k : ℕ) → is_among keys k ≡ true → (same_place (Some k) a ≡ false) × (same_place (Some k) c ≡ false))
      → ((k : ℕ) → m' k ≡ m k)
      → Row s ends name keys m → Row s' ends' name keys m'
  row_of_other_list s s' o a b c d w ends ends' name keys m m' is same apart members row =
      Row-alike s s' ends ends' name keys m m' same
      (λ k there. subst (λ q. next_at s' no_ends q (Some k) ≡ next_at s no_ends q (Some k)) (sym is) (w.next k ∙ ap (λ t. cond t b (next_at s no_ends o (Some k))) (apart k there).0))
      (λ k there. subst (λ q. previous_at s' no_ends q (Some k) ≡ previous_at s no_ends q (Some k)) (sym is) (w.previous k ∙ ap (λ t. cond t d (previous_at s no_ends o (Some k))) (apart k there).1))
      members row

  -- ---- the list that is written

  -- the steps of a list after both writes, from its end too
  steps_next : (s s' : List (Option (Linked T))) (o : Order) (a b c d : Option ℕ) → Wrote s s' o a b c d → (ends ends' : Ends) → ends' ≡ with_last_at (with_first_at ends a b) c d
      → (x : Option ℕ) → next_at s' ends' o x ≡ cond (same_place x a) b (next_at s ends o x)
  steps_next s s' o a b c d w ends ends' is (Some k) = w.next k
  steps_next s s' o a b c d w ends ends' is None = ap (λ (e : Ends). e.first) is ∙ pick a c
    where
      pick : (a c : Option ℕ) → (with_last_at (with_first_at ends a b) c d).first ≡ cond (same_place None a) b ends.first
      pick None None = refl
      pick None (Some y) = refl
      pick (Some x) None = refl
      pick (Some x) (Some y) = refl

  steps_previous : (s s' : List (Option (Linked T))) (o : Order) (a b c d : Option ℕ) → Wrote s s' o a b c d → (ends ends' : Ends) → ends' ≡ with_last_at (with_first_at ends a b) c d
      → (x : Option ℕ) → previous_at s' ends' o x ≡ cond (same_place x c) d (previous_at s ends o x)
  steps_previous s s' o a b c d w ends ends' is (Some k) = w.previous k
  steps_previous s s' o a b c d w ends ends' is None = ap (λ (e : Ends). e.last) is ∙ pick a c
    where
      pick : (a c : Option ℕ) → (with_last_at (with_first_at ends a b) c d).last ≡ cond (same_place None c) d ends.last
      pick None None = refl
      pick None (Some y) = refl
      pick (Some x) None = refl
      pick (Some x) (Some y) = refl

  -- a place of a list is none of another list of the same order
  places_apart : (s : List (Option (Linked T))) (heads : ListName → Ends) (off : Order → Bool) (key : ℕ) (keys : ListName → List ℕ) → Stand s heads off key keys
      → (name name0 : ListName) → order_of name ≡ order_of name0 → (name ≡ name0 → ⊥) → (place : Option ℕ) → ((j : ℕ) → place ≡ Some j → is_among (keys name0) j ≡ true)
      → (k : ℕ) → is_among (keys name) k ≡ true → same_place (Some k) place ≡ false
  places_apart s heads off key keys st name name0 same differ place from k there = by_test (same_place (Some k) place) refl
    where
      by_test : (b : Bool) → same_place (Some k) place ≡ b → b ≡ false
      by_test false e = refl
      by_test true e =
          let here : is_among (keys name0) k ≡ true = from k (sym (same_place-is (Some k) place e)) in
          let one = (and_parts (stands s name k) _ (sym ((st name).members k) ∙ there)).0 in
          let two = (and_parts (stands s name0 k) _ (sym ((st name0).members k) ∙ here)).0 in
          absurd (differ (one_name_at (plain_at s k) name name0 same one two))

  -- ---- one more node in a list

  abbrev pub one_more : List (Option (Linked T)) → Order → ℕ → (ListName → List ℕ) → ListName → List ℕ
  one_more s o key keys name = cond (same_order (order_of name) o && stands s name key) (keys name ++ key ∷ []) (keys name)

  pub append_step : (s s' : List (Option (Linked T))) (heads heads' : ListName → Ends) (off : Order → Bool) (key : ℕ) (keys : ListName → List ℕ) (name0 : ListName)
      → Stand s heads off key keys
      → Wrote s s' (order_of name0) (heads name0).last (Some key) None (Some key)
      → off (order_of name0) ≡ true → stands s name0 key ≡ true
      → next_at s no_ends (order_of name0) (Some key) ≡ None → previous_at s no_ends (order_of name0) (Some key) ≡ (heads name0).last
      → heads' name0 ≡ appended_ends (heads name0) key → ((name : ListName) → (name ≡ name0 → ⊥) → heads' name ≡ heads name)
      → Stand s' heads' (with_on off (order_of name0)) key (one_more s (order_of name0) key keys)
  append_step s s' heads heads' off key keys name0 st w is_off there no_next faces own rest name = by_order (same_order (order_of name) (order_of name0)) refl
    where
      -- the last place of the list is one of its nodes
      last_there : (j : ℕ) → (heads name0).last ≡ Some j → is_among (keys name0) j ≡ true
      last_there j e = sym (among-reverse (keys name0) j) ∙ head_among (reverse (keys name0)) j (sym (first_step (previous_at s (heads name0) (order_of name0)) None (reverse (keys name0)) (st name0).ring.back) ∙ e)

      new : is_among (keys name0) key ≡ false
      new = (st name0).members key ∙ ap (λ b. stands s name0 key && not (b && nat_eq key key)) is_off ∙ ap (λ b. stands s name0 key && not b) (eq-eqb key key refl) ∙ ap (λ b. b && false) there

      own_row : Row s' (heads' name0) name0 (keys name0 ++ key ∷ []) (member s' (with_on off (order_of name0)) key name0)
      own_row =
          record {
            ring = IsRing-push (next_at s (heads name0) (order_of name0)) (previous_at s (heads name0) (order_of name0)) (next_at s' (heads' name0) (order_of name0)) (previous_at s' (heads' name0) (order_of name0)) (keys name0) key new no_next faces
                (steps_next s s' (order_of name0) (heads name0).last (Some key) None (Some key) w (heads name0) (heads' name0) own)
                (steps_previous s s' (order_of name0) (heads name0).last (Some key) None (Some key) w (heads name0) (heads' name0) own) (st name0).ring;
            members = λ k. among-append (keys name0) (key ∷ []) k ∙ ap (λ b. b || (nat_eq k key || false)) ((st name0).members k)
                ∙ ap (λ b. (stands s name0 k && not (b && nat_eq key k)) || (nat_eq k key || false)) is_off
                ∙ by_key k (nat_eq k key) refl
                ∙ sym (ap (λ n. option_map_or (belongs name0) n false && not (with_on off (order_of name0) (order_of name0) && nat_eq key k)) (w.nodes k) ∙ ap (λ b. stands s name0 k && not ((not b && off (order_of name0)) && nat_eq key k)) (same_order-refl (order_of name0)));
          }
        where
          by_key : (k : ℕ) (b : Bool) → nat_eq k key ≡ b → ((stands s name0 k && not (true && nat_eq key k)) || (b || false)) ≡ (stands s name0 k && not (false && nat_eq key k))
          by_key k true e = or_true (stands s name0 k && not (nat_eq key k)) ∙ sym (and_true (stands s name0 k) ∙ ap (stands s name0) (eqb-true k key e) ∙ there)
            where
              or_true : (a : Bool) → (a || true) ≡ true
              or_true true = refl
              or_true false = refl

              and_true : (a : Bool) → (a && true) ≡ a
              and_true true = refl
              and_true false = refl
          by_key k false e = or-false (stands s name0 k && not (nat_eq key k)) ∙ ap (λ b. stands s name0 k && not b) (nat_eq_equiv.symm key k ∙ e)

      other_list : order_of name ≡ (order_of name0) → stands s name key ≡ false → Row s' (heads' name) name (keys name) (member s' (with_on off (order_of name0)) key name)
      other_list same out =
          let differ : name ≡ name0 → ⊥ = λ e. no_true (sym out ∙ ap (λ n. stands s n key) e ∙ there) in
          row_of_other_list s s' (order_of name0) (heads name0).last (Some key) None (Some key) w (heads name) (heads' name) name (keys name) (member s off key name) (member s' (with_on off (order_of name0)) key name) same (rest name differ)
          (λ k here. (places_apart s heads off key keys st name name0 same differ (heads name0).last last_there k here, refl))
          (λ k. ap (λ n. option_map_or (belongs name) n false && not (with_on off (order_of name0) (order_of name) && nat_eq key k)) (w.nodes k) ∙ without_key k (nat_eq key k) refl)
          (st name)
        where
          on_now : with_on off (order_of name0) (order_of name) ≡ false
          on_now = ap (λ b. not b && off (order_of name)) (ap (λ q. same_order q (order_of name0)) same ∙ same_order-refl (order_of name0))

          off_then : off (order_of name) ≡ true
          off_then = ap off same ∙ is_off

          without_key : (k : ℕ) (b : Bool) → nat_eq key k ≡ b → (stands s name k && not (with_on off (order_of name0) (order_of name) && b)) ≡ (stands s name k && not (off (order_of name) && b))
          without_key k true e =
              let none : stands s name k ≡ false = ap (stands s name) (sym (eqb-true key k e)) ∙ out in
              ap (λ c. c && not (with_on off (order_of name0) (order_of name) && true)) none ∙ sym (ap (λ c. c && not (off (order_of name) && true)) none)
          without_key k false e =
              ap (λ c. stands s name k && not (c && false)) on_now ∙ sym (ap (λ c. stands s name k && not (c && false)) off_then)

      by_list : (b : Bool) → stands s name key ≡ b → order_of name ≡ (order_of name0) → Row s' (heads' name) name (cond b (keys name ++ key ∷ []) (keys name)) (member s' (with_on off (order_of name0)) key name)
      by_list true e same = subst (λ n. Row s' (heads' n) n (keys n ++ key ∷ []) (member s' (with_on off (order_of name0)) key n)) (sym (one_name_at (plain_at s key) name name0 same e there)) own_row
      by_list false e same = other_list same e

      by_order : (b : Bool) → same_order (order_of name) (order_of name0) ≡ b → Row s' (heads' name) name (cond (b && stands s name key) (keys name ++ key ∷ []) (keys name)) (member s' (with_on off (order_of name0)) key name)
      by_order true e = by_list (stands s name key) refl (same_order-is (order_of name) (order_of name0) e)
      by_order false e =
          row_of_other_order s s' (order_of name0) (heads name0).last (Some key) None (Some key) w (heads name) (heads' name) name (keys name) off (with_on off (order_of name0)) key e
          (ap (λ b. not b && off (order_of name)) e)
          (rest name (λ same. no_true (sym e ∙ ap (λ n. same_order (order_of n) (order_of name0)) same ∙ same_order-refl (order_of name0))))
          (st name)

  -- ---- one node less in a list

  abbrev pub one_less : List (Option (Linked T)) → Order → ℕ → (ListName → List ℕ) → ListName → List ℕ
  one_less s o key keys name = cond (same_order (order_of name) o && stands s name key) (filter (λ k. not (nat_eq key k)) (keys name)) (keys name)

  pub unlink_step : (s s' : List (Option (Linked T))) (heads heads' : ListName → Ends) (off : Order → Bool) (key : ℕ) (keys : ListName → List ℕ) (name0 : ListName) (p n : Option ℕ)
      → Stand s heads off key keys
      → p ≡ previous_at s no_ends (order_of name0) (Some key) → n ≡ next_at s no_ends (order_of name0) (Some key)
      → Wrote s s' (order_of name0) p n n p
      → off (order_of name0) ≡ false → stands s name0 key ≡ true
      → heads' name0 ≡ with_last_at (with_first_at (heads name0) p n) n p → ((name : ListName) → (name ≡ name0 → ⊥) → heads' name ≡ heads name)
      → Stand s' heads' (with_off off (order_of name0)) key (one_less s (order_of name0) key keys)
  unlink_step s s' heads heads' off key keys name0 p n st p_is n_is w is_on there own rest name = by_order (same_order (order_of name) (order_of name0)) refl
    where
      here : is_among (keys name0) key ≡ true
      here = (st name0).members key ∙ ap (λ b. stands s name0 key && not (b && nat_eq key key)) is_on ∙ ap (λ b. b && true) there

      p_there : (j : ℕ) → p ≡ Some j → is_among (keys name0) j ≡ true
      p_there j e = sym (among-reverse (keys name0) j)
          ∙ walk_stays (previous_at s (heads name0) (order_of name0)) None (reverse (keys name0)) (st name0).ring.back key (among-reverse (keys name0) key ∙ here) j (sym p_is ∙ e)

      n_there : (j : ℕ) → n ≡ Some j → is_among (keys name0) j ≡ true
      n_there j e = walk_stays (next_at s (heads name0) (order_of name0)) None (keys name0) (st name0).ring.forth key here j (sym n_is ∙ e)

      split : Split (keys name0) key
      split = split_at (keys name0) key here

      own_row : Row s' (heads' name0) name0 (filter (λ k. not (nat_eq key k)) (keys name0)) (member s' (with_off off (order_of name0)) key name0)
      own_row =
          let o = order_of name0 in
          record {
            ring = subst (IsRing (next_at s' (heads' name0) (order_of name0)) (previous_at s' (heads' name0) (order_of name0))) (sym (filter-split (keys name0) key split (st name0).ring.once))
                (IsRing-without (next_at s (heads name0) (order_of name0)) (previous_at s (heads name0) (order_of name0)) (next_at s' (heads' name0) (order_of name0)) (previous_at s' (heads' name0) (order_of name0)) (keys name0) key split
                (λ x. steps_next s s' (order_of name0) p n n p w (heads name0) (heads' name0) own x ∙ (λ i. cond (same_place x (p_is i)) (n_is i) (next_at s (heads name0) (order_of name0) x)))
                (λ x. steps_previous s s' (order_of name0) p n n p w (heads name0) (heads' name0) own x ∙ (λ i. cond (same_place x (n_is i)) (p_is i) (previous_at s (heads name0) (order_of name0) x)))
                (st name0).ring);
            members = λ k. among-filter (keys name0) key k ∙ ap (λ b. b && not (nat_eq key k)) ((st name0).members k)
                ∙ ap (λ b. (stands s name0 k && not (b && nat_eq key k)) && not (nat_eq key k)) is_on
                ∙ and_true (stands s name0 k) (not (nat_eq key k))
                ∙ sym (ap (λ q. option_map_or (belongs name0) q false && not (with_off off (order_of name0) (order_of name0) && nat_eq key k)) (w.nodes k) ∙ ap (λ b. stands s name0 k && not ((b || off (order_of name0)) && nat_eq key k)) (same_order-refl (order_of name0)));
          }
        where
          and_true : (a b : Bool) → ((a && true) && b) ≡ (a && b)
          and_true true b = refl
          and_true false b = refl

      other_list : order_of name ≡ order_of name0 → stands s name key ≡ false → Row s' (heads' name) name (keys name) (member s' (with_off off (order_of name0)) key name)
      other_list same out =
          let differ : name ≡ name0 → ⊥ = λ e. no_true (sym out ∙ ap (λ n. stands s n key) e ∙ there) in
          row_of_other_list s s' (order_of name0) p n n p w (heads name) (heads' name) name (keys name) (member s off key name) (member s' (with_off off (order_of name0)) key name) same (rest name differ)
          (λ k there. (places_apart s heads off key keys st name name0 same differ p p_there k there, places_apart s heads off key keys st name name0 same differ n n_there k there))
          (λ k. ap (λ q. option_map_or (belongs name) q false && not (with_off off (order_of name0) (order_of name) && nat_eq key k)) (w.nodes k) ∙ without_key k (nat_eq key k) refl)
          (st name)
        where
          off_now : with_off off (order_of name0) (order_of name) ≡ true
          off_now = ap (λ b. b || off (order_of name)) (ap (λ q. same_order q (order_of name0)) same ∙ same_order-refl (order_of name0))

          on_then : off (order_of name) ≡ false
          on_then = ap off same ∙ is_on

          without_key : (k : ℕ) (b : Bool) → nat_eq key k ≡ b → (stands s name k && not (with_off off (order_of name0) (order_of name) && b)) ≡ (stands s name k && not (off (order_of name) && b))
          without_key k true e =
              let none : stands s name k ≡ false = ap (stands s name) (sym (eqb-true key k e)) ∙ out in
              ap (λ c. c && not (with_off off (order_of name0) (order_of name) && true)) none ∙ sym (ap (λ c. c && not (off (order_of name) && true)) none)
          without_key k false e =
              ap (λ c. stands s name k && not (c && false)) off_now ∙ sym (ap (λ c. stands s name k && not (c && false)) on_then)

      by_list : (b : Bool) → stands s name key ≡ b → order_of name ≡ order_of name0 → Row s' (heads' name) name (cond b (filter (λ k. not (nat_eq key k)) (keys name)) (keys name)) (member s' (with_off off (order_of name0)) key name)
      by_list true e same = subst (λ n. Row s' (heads' n) n (filter (λ k. not (nat_eq key k)) (keys n)) (member s' (with_off off (order_of name0)) key n)) (sym (one_name_at (plain_at s key) name name0 same e there)) own_row
      by_list false e same = other_list same e

      by_order : (b : Bool) → same_order (order_of name) (order_of name0) ≡ b → Row s' (heads' name) name (cond (b && stands s name key) (filter (λ k. not (nat_eq key k)) (keys name)) (keys name)) (member s' (with_off off (order_of name0)) key name)
      by_order true e = by_list (stands s name key) refl (same_order-is (order_of name) (order_of name0) e)
      by_order false e =
          row_of_other_order s s' (order_of name0) p n n p w (heads name) (heads' name) name (keys name) off (with_off off (order_of name0)) key e
          (ap (λ b. b || off (order_of name)) e)
          (rest name (λ same. no_true (sym e ∙ ap (λ n. same_order (order_of n) (order_of name0)) same ∙ same_order-refl (order_of name0))))
          (st name)

  -- ---- a node that is in no list yet, or in none any more

  -- slots that have the same links at the keys of all lists
  pub Stand-alike : (s s' : List (Option (Linked T))) (heads : ListName → Ends) (off off' : Order → Bool) (key key' : ℕ) (keys : ListName → List ℕ)
      → ((name : ListName) (k : ℕ) → is_among (keys name) k ≡ true → joint_at s' (order_of name) k ≡ joint_at s (order_of name) k)
      → ((name : ListName) (k : ℕ) → member s' off' key' name k ≡ member s off key name k)
      → Stand s heads off key keys → Stand s' heads off' key' keys
  Stand-alike s s' heads off off' key key' keys joints members st name =
      Row-alike s s' (heads name) (heads name) name (keys name) (member s off key name) (member s' off' key' name) refl
      (λ k there. next_of_joint s s' (order_of name) k (joints name k there))
      (λ k there. previous_of_joint s s' (order_of name) k (joints name k there))
      (members name) (st name)
