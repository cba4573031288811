-- The lists with one more node.
use Rattle.std.proofs.Common.{◌≡◌, ◌≢◌, ℕ, ◌+◌, ◌<◌, ◌≤◌, Bool, true, false, not, ◌&&◌, ◌||◌, cond, Option, Some, None, IsSome, is_some, List, [], ◌∷◌, ◌++◌}
use Rattle.std.proofs.Common.{count_by, refl, sym, ap, ◌∙◌, subst, arith, nat_eq, Result, Ok, Err, OnErr, IfOk}
use Rattle.std.specs.Option.{option_and_then, option_map, option_map_or}
use Rattle.std.proofs.lemmas.Bool.{eq-eqb, eqb-true}
use Rattle.std.specs.FinMap as map
use Rattle.cap_arena.specs.declared.nodes.Order.{Order}
use Rattle.cap_arena.specs.declared.nodes.Order.TheVariants as order
use Rattle.cap_arena.specs.declared.nodes.Ends.{Ends}
use Rattle.cap_arena.specs.declared.nodes.Joint.{Joint}
use Rattle.cap_arena.specs.declared.nodes.Linked.{Linked}
use Rattle.cap_arena.specs.declared.nodes.Node.{Node}
use Rattle.cap_arena.specs.Nodes.{joint_of}
use Rattle.cap_arena.specs.Places.{appended_ends, linked_at, next_at, previous_at, with_next_at}
use Rattle.cap_arena.specs.Heads.{Heads, ends_at, ends_or_none, no_ends, with_room}
use Rattle.cap_arena.specs.Walks.{is_among}
use Rattle.cap_arena.specs.Lists.{IsLists, KeepsNoEmpty, ListName, Lists, OfClient, OfInode, OfRecall, belongs, ends_of, keys, lists_of, order_of}
use Rattle.cap_arena.specs.Calls.{Adds}
use Rattle.cap_arena.proofs.Rings.{among-append}
use Rattle.cap_arena.proofs.Writes.{Wrote, Wrote-next, plain_at, same_order}
use Rattle.cap_arena.proofs.Stands.{Stand, Stand-alike, append_step, next_of_joint, one_more, previous_of_joint, stands, with_on}
use Rattle.cap_arena.proofs.HeadMaps.{heads_of, recall_differs, room-ends, room-others, with_ends, with_ends-client, with_ends-inode, with_ends-same}
use Rattle.cap_arena.proofs.Sound.{Stand-heads, count-next, first_some, keys_are, last_is_place, list_of, nowhere_off, off_all, stand_of}

pub if_ok : {V E : Type 0} (r : Result V E) (P Q : V → Type 0) → ((v : V) → P v → Q v) → IfOk r P → IfOk r Q
if_ok (Ok v) P Q leads p = leads v p
if_ok (Err e) P Q leads p = tt

pub on_err : {V E : Type 0} (r : Result V E) (P Q : Type 0) → (P → Q) → OnErr r P → OnErr r Q
on_err (Ok v) P Q leads p = tt
on_err (Err e) P Q leads p = leads p

-- what a map has, where one of its numbers has other ends
ends_updated : (m n : Heads) (number : ℕ) (ends : Ends) → ((q : ℕ) → map.get n q ≡ cond (nat_eq number q) (Some ends) (map.get m q)) → (q : ℕ) → ends_at n q ≡ with_ends (ends_at m) number ends q
ends_updated m n number ends at q = ap ends_or_none (at q) ∙ out (nat_eq number q)
  where
    out : (b : Bool) → ends_or_none (cond b (Some ends) (map.get m q)) ≡ cond b ends (ends_at m q)
    out true = refl
    out false = refl

-- the maps of ends before and after
pub record HeadSteps (i i1 i2 : Heads) (number key : ℕ) : Type 0 where
  pub reserved : i1 ≡ with_room i number
  pub updated : (q : ℕ) → map.get i2 q ≡ cond (nat_eq number q) (Some (appended_ends (ends_at i1 number) key)) (map.get i1 q)

-- it keeps none of a list without nodes
keeps : (i i1 i2 : Heads) (number key : ℕ) → HeadSteps i i1 i2 number key → IsSome (appended_ends (ends_at i1 number) key).first → KeepsNoEmpty i → KeepsNoEmpty i2
keeps i i1 i2 number key h some kept q found is = by_test (nat_eq number q) refl (sym is ∙ h.updated q)
  where
    by_test : (b : Bool) → nat_eq number q ≡ b → Some found ≡ cond b (Some (appended_ends (ends_at i1 number) key)) (map.get i1 q) → IsSome found.first
    by_test true e at = let same : found ≡ appended_ends (ends_at i1 number) key = cc in subst (λ (x : Ends). IsSome x.first) (sym same) some
    by_test false e at = kept q found (sym (room-others i number q e) ∙ ap (λ m. map.get m q) (sym h.reserved) ∙ sym at)

-- room changes no ends
pub reserved-ends : (i i1 i2 : Heads) (number key : ℕ) → HeadSteps i i1 i2 number key → (q : ℕ) → ends_at i1 q ≡ ends_at i q
reserved-ends i i1 i2 number key h q = ap (λ m. ends_at m q) h.reserved ∙ room-ends i number q

-- the new node is out of no list after all three
abbrev pub added_off : Order → Bool
added_off = with_on (with_on (with_on off_all order.Inode) order.Client) order.Recall

pub added_off-none : (o : Order) → added_off o ≡ false
added_off-none order.Inode = refl
added_off-none order.Client = refl
added_off-none order.Recall = refl

module _ {T : Type 0} where
  -- one more node, and what a contract says of it
  pub record Added (t t' : Lists T) (key : ℕ) (node : Node T) : Type 0 where
    pub sound : IsLists t'
    pub adds : Adds t t' key node

  -- the slots with a new node, which is in no list yet
  stand_with_new : (s s1 : List (Option (Linked T))) (heads : ListName → Ends) (key : ℕ) (ks : ListName → List ℕ) → linked_at s key ≡ None → ((k : ℕ) → k ≢ key → linked_at s1 k ≡ linked_at s k)
      → Stand s heads nowhere_off key ks → Stand s1 heads off_all key ks
  stand_with_new s s1 heads key ks free others st =
      Stand-alike s s1 heads nowhere_off off_all key key ks
      (λ name k there. ap (option_map (joint_of (order_of name))) (others k (λ same. differs name k there same)))
      (λ name k. members name k (nat_eq key k) refl) st
    where
      none : (name : ListName) → stands s name key ≡ false
      none name = ap (λ o. option_map_or (belongs name) (option_map (λ l. l.node) o) false) free

      differs : (name : ListName) (k : ℕ) → is_among (ks name) k ≡ true → k ≡ key → ⊥
      differs name k there same =
          let c : false ≡ true = sym (ap (λ b. b && not (false && nat_eq key key)) (none name)) ∙ sym ((st name).members key) ∙ ap (is_among (ks name)) (sym same) ∙ there in
          cc

      members : (name : ListName) (k : ℕ) (b : Bool) → nat_eq key k ≡ b → (stands s1 name k && not (true && b)) ≡ (stands s name k && not (false && b))
      members name k true e = and_false (stands s1 name k) ∙ sym (ap (λ c. c && true) (ap (stands s name) (sym (eqb-true key k e)) ∙ none name))
        where
          and_false : (a : Bool) → (a && false) ≡ false
          and_false true = refl
          and_false false = refl
      members name k false e = ap (λ o. option_map_or (belongs name) (option_map (λ l. l.node) o) false && true) (others k (λ same. absurd (let c : nat_eq key k ≡ true = eq-eqb key k (sym same) in cc)))

  -- the new node after what was written in another order
  pub record Faces (s : List (Option (Linked T))) (key : ℕ) (node : Node T) (o : Order) (last : Option ℕ) : Type 0 where
    pub node_is : plain_at s key ≡ Some node
    pub next : next_at s no_ends o (Some key) ≡ None
    pub previous : previous_at s no_ends o (Some key) ≡ last

  Faces-kept : (s s' : List (Option (Linked T))) (q : Order) (a b c d : Option ℕ) → Wrote s s' q a b c d → (key : ℕ) (node : Node T) (o : Order) (last : Option ℕ) → same_order o q ≡ false → Faces s key node o last → Faces s' key node o last
  Faces-kept s s' q a b c d w key node o last apart f =
      record {
        node_is = w.nodes key ∙ f.node_is;
        next = next_of_joint s s' o key (w.others o apart key) ∙ f.next;
        previous = previous_of_joint s s' o key (w.others o apart key) ∙ f.previous;
      }

  faces_of : (s : List (Option (Linked T))) (key : ℕ) (node : Node T) (l : Linked T) (o : Order) (last : Option ℕ) → linked_at s key ≡ Some l → l.node ≡ node → joint_of o l ≡ record { next = None; previous = last } → Faces s key node o last
  faces_of s key node l o last at is joint =
      record {
        node_is = ap (option_map (λ x. x.node)) at ∙ ap Some is;
        next = ap (λ q. option_and_then (λ x. (joint_of o x).next) q) at ∙ ap (λ (j : Joint). j.next) joint;
        previous = ap (λ q. option_and_then (λ x. (joint_of o x).previous) q) at ∙ ap (λ (j : Joint). j.previous) joint;
      }

  -- the node is taken into one more list
  taken_in : (s : List (Option (Linked T))) (heads heads' : ListName → Ends) (off : Order → Bool) (key : ℕ) (ks : ListName → List ℕ) (name : ListName) (node : Node T)
      → Stand s heads off key ks → off (order_of name) ≡ true → belongs name node ≡ true → Faces s key node (order_of name) (heads name).last
      → heads' name ≡ appended_ends (heads name) key → ((other : ListName) → (other ≡ name → ⊥) → heads' other ≡ heads other)
      → Stand (with_next_at s (order_of name) (heads name).last (Some key)) heads' (with_on off (order_of name)) key (one_more s (order_of name) key ks)
  taken_in s heads heads' off key ks name node st is_off there f own rest =
      append_step s (with_next_at s (order_of name) (heads name).last (Some key)) heads heads' off key ks name st
      (Wrote-next s (order_of name) (heads name).last (Some key) (Some key) (last_is_place s heads off key ks st name))
      is_off (ap (λ o. option_map_or (belongs name) o false) f.node_is ∙ there) f.next f.previous own rest

  -- the slots with a new node in none of its lists, and with it in one after another
  pub record AddSteps (s : List (Option (Linked T))) (r : Ends) (i c : ℕ → Ends) (key : ℕ) (node : Node T) (s1 s2 s3 s4 : List (Option (Linked T))) : Type 0 where
    pub linked : Linked T
    pub node_is : linked.node ≡ node
    pub of_ino : linked.of_ino ≡ record { next = None; previous = (i node.ino.0).last }
    pub of_client : linked.of_client ≡ record { next = None; previous = (c node.client.0).last }
    pub recall : linked.recall ≡ record { next = None; previous = r.last }
    pub free : linked_at s key ≡ None
    pub at : linked_at s1 key ≡ Some linked
    pub others : (k : ℕ) → k ≢ key → linked_at s1 k ≡ linked_at s k
    pub more : count_by is_some s1 ≡ count_by is_some s + 1
    pub second : s2 ≡ with_next_at s1 order.Inode (i node.ino.0).last (Some key)
    pub third : s3 ≡ with_next_at s2 order.Client (c node.client.0).last (Some key)
    pub fourth : s4 ≡ with_next_at s3 order.Recall r.last (Some key)

  -- the ends after that
  abbrev pub added_heads : Ends → (ℕ → Ends) → (ℕ → Ends) → ℕ → Node T → ListName → Ends
  added_heads r i c key node =
      heads_of (appended_ends r key) (with_ends i node.ino.0 (appended_ends (i node.ino.0) key)) (with_ends c node.client.0 (appended_ends (c node.client.0) key))

  abbrev pub added_keys : List (Option (Linked T)) → List (Option (Linked T)) → List (Option (Linked T)) → ℕ → (ListName → List ℕ) → ListName → List ℕ
  added_keys s1 s2 s3 key ks = one_more s3 order.Recall key (one_more s2 order.Client key (one_more s1 order.Inode key ks))

  -- the lists, and that the nodes stay at each write
  record StandAdded (r : Ends) (i c : ℕ → Ends) (key : ℕ) (node : Node T) (s1 s2 s3 s4 : List (Option (Linked T))) (ks : ListName → List ℕ) : Type 0 where
    stand : Stand s4 (added_heads r i c key node) added_off key (added_keys s1 s2 s3 key ks)
    nodes2 : (k : ℕ) → plain_at s2 k ≡ plain_at s1 k
    nodes3 : (k : ℕ) → plain_at s3 k ≡ plain_at s2 k
    nodes4 : (k : ℕ) → plain_at s4 k ≡ plain_at s3 k

  added_stand : (s : List (Option (Linked T))) (r : Ends) (i c : ℕ → Ends) (key : ℕ) (node : Node T) (s1 s2 s3 s4 : List (Option (Linked T))) (ks : ListName → List ℕ)
      → AddSteps s r i c key node s1 s2 s3 s4 → Stand s (heads_of r i c) nowhere_off key ks → StandAdded r i c key node s1 s2 s3 s4 ks
  added_stand s r i c key node s1 s2 s3 s4 ks a st =
      let ie = appended_ends (i node.ino.0) key in
      let ce = appended_ends (c node.client.0) key in
      let i2 = with_ends i node.ino.0 ie in
      let c2 = with_ends c node.client.0 ce in
      let st1 : Stand s1 (heads_of r i c) off_all key ks = stand_with_new s s1 (heads_of r i c) key ks a.free a.others st in
      let f1 = faces_of s1 key node a.linked order.Inode (i node.ino.0).last a.at a.node_is a.of_ino in
      let g1 = faces_of s1 key node a.linked order.Client (c node.client.0).last a.at a.node_is a.of_client in
      let h1 = faces_of s1 key node a.linked order.Recall r.last a.at a.node_is a.recall in
      let st2 : Stand s2 (heads_of r i2 c) (with_on off_all order.Inode) key (one_more s1 order.Inode key ks) =
      subst (λ x. Stand x (heads_of r i2 c) (with_on off_all order.Inode) key (one_more s1 order.Inode key ks)) (sym a.second)
      (taken_in s1 (heads_of r i c) (heads_of r i2 c) off_all key ks (OfInode node.ino) node st1 refl (eq-eqb node.ino.0 node.ino.0 refl) f1
      (with_ends-same i node.ino.0 ie) (with_ends-inode r i c node.ino ie)) in
      let w2 : Wrote s1 s2 order.Inode (i node.ino.0).last (Some key) None (Some key) =
      subst (λ x. Wrote s1 x order.Inode (i node.ino.0).last (Some key) None (Some key)) (sym a.second)
      (Wrote-next s1 order.Inode (i node.ino.0).last (Some key) (Some key) (last_is_place s1 (heads_of r i c) off_all key ks st1 (OfInode node.ino))) in
      let g2 = Faces-kept s1 s2 order.Inode (i node.ino.0).last (Some key) None (Some key) w2 key node order.Client (c node.client.0).last refl g1 in
      let h2 = Faces-kept s1 s2 order.Inode (i node.ino.0).last (Some key) None (Some key) w2 key node order.Recall r.last refl h1 in
      let st3 : Stand s3 (heads_of r i2 c2) (with_on (with_on off_all order.Inode) order.Client) key (one_more s2 order.Client key (one_more s1 order.Inode key ks)) =
      subst (λ x. Stand x (heads_of r i2 c2) (with_on (with_on off_all order.Inode) order.Client) key (one_more s2 order.Client key (one_more s1 order.Inode key ks))) (sym a.third)
      (taken_in s2 (heads_of r i2 c) (heads_of r i2 c2) (with_on off_all order.Inode) key (one_more s1 order.Inode key ks) (OfClient node.client) node st2 refl (eq-eqb node.client.0 node.client.0 refl) g2
      (with_ends-same c node.client.0 ce) (with_ends-client r i2 c node.client ce)) in
      let w3 : Wrote s2 s3 order.Client (c node.client.0).last (Some key) None (Some key) =
      subst (λ x. Wrote s2 x order.Client (c node.client.0).last (Some key) None (Some key)) (sym a.third)
      (Wrote-next s2 order.Client (c node.client.0).last (Some key) (Some key) (last_is_place s2 (heads_of r i2 c) (with_on off_all order.Inode) key (one_more s1 order.Inode key ks) st2 (OfClient node.client))) in
      let h3 = Faces-kept s2 s3 order.Client (c node.client.0).last (Some key) None (Some key) w3 key node order.Recall r.last refl h2 in
      let w4 : Wrote s3 s4 order.Recall r.last (Some key) None (Some key) =
      subst (λ x. Wrote s3 x order.Recall r.last (Some key) None (Some key)) (sym a.fourth)
      (Wrote-next s3 order.Recall r.last (Some key) (Some key) (last_is_place s3 (heads_of r i2 c2) (with_on (with_on off_all order.Inode) order.Client) key (one_more s2 order.Client key (one_more s1 order.Inode key ks)) st3 OfRecall)) in
      record {
        stand = subst (λ x. Stand x (added_heads r i c key node) added_off key (added_keys s1 s2 s3 key ks)) (sym a.fourth)
            (taken_in s3 (heads_of r i2 c2) (added_heads r i c key node) (with_on (with_on off_all order.Inode) order.Client) key (one_more s2 order.Client key (one_more s1 order.Inode key ks)) OfRecall node st3 refl refl h3
            refl (recall_differs r (appended_ends r key) i2 c2));
        nodes2 = w2.nodes;
        nodes3 = w3.nodes;
        nodes4 = w4.nodes;
      }

  -- which nodes there are after that
  nodes_after : (s : List (Option (Linked T))) (r : Ends) (i c : ℕ → Ends) (key : ℕ) (node : Node T) (s1 s2 s3 s4 : List (Option (Linked T))) → AddSteps s r i c key node s1 s2 s3 s4
      → ((k : ℕ) → plain_at s2 k ≡ plain_at s1 k) → ((k : ℕ) → plain_at s3 k ≡ plain_at s2 k) → ((k : ℕ) → plain_at s4 k ≡ plain_at s3 k)
      → (k : ℕ) → plain_at s4 k ≡ cond (nat_eq k key) (Some node) (plain_at s k)
  nodes_after s r i c key node s1 s2 s3 s4 a n2 n3 n4 k = n4 k ∙ n3 k ∙ n2 k ∙ by_test (nat_eq k key) refl
    where
      by_test : (b : Bool) → nat_eq k key ≡ b → plain_at s1 k ≡ cond b (Some node) (plain_at s k)
      by_test true e = ap (plain_at s1) (eqb-true k key e) ∙ ap (option_map (λ l. l.node)) a.at ∙ ap Some a.node_is
      by_test false e = ap (option_map (λ l. l.node)) (a.others k (λ same. absurd (let t : nat_eq k key ≡ true = eq-eqb k key same in cc)))

  -- the new node is among the keys of each list into which it belongs
  lists_after : (s : List (Option (Linked T))) (r : Ends) (i c : ℕ → Ends) (key : ℕ) (node : Node T) (s1 s2 s3 s4 : List (Option (Linked T))) (ks : ListName → List ℕ) → AddSteps s r i c key node s1 s2 s3 s4
      → StandAdded r i c key node s1 s2 s3 s4 ks → (name : ListName) → added_keys s1 s2 s3 key ks name ≡ cond (belongs name node) (ks name ++ key ∷ []) (ks name)
  lists_after s r i c key node s1 s2 s3 s4 ks a st (OfInode ino) =
      ap (λ o. cond (option_map_or (belongs (OfInode ino)) o false) (ks (OfInode ino) ++ key ∷ []) (ks (OfInode ino))) (ap (option_map (λ l. l.node)) a.at ∙ ap Some a.node_is)
  lists_after s r i c key node s1 s2 s3 s4 ks a st (OfClient client) =
      ap (λ o. cond (option_map_or (belongs (OfClient client)) o false) (ks (OfClient client) ++ key ∷ []) (ks (OfClient client))) (st.nodes2 key ∙ ap (option_map (λ l. l.node)) a.at ∙ ap Some a.node_is)
  lists_after s r i c key node s1 s2 s3 s4 ks a st OfRecall =
      ap (λ o. cond (option_map_or (belongs {T = T} OfRecall) o false) (ks OfRecall ++ key ∷ []) (ks OfRecall)) (st.nodes3 key ∙ st.nodes2 key ∙ ap (option_map (λ l. l.node)) a.at ∙ ap Some a.node_is)

  pub added : (s : List (Option (Linked T))) (r : Ends) (i i1 i2 c c1 c2 : Heads) (key : ℕ) (node : Node T) (s1 s2 s3 s4 : List (Option (Linked T))) (r' : Ends)
      → IsLists (lists_of s r i c) → count_by is_some s < 65536
      → AddSteps s r (ends_at i1) (ends_at c1) key node s1 s2 s3 s4 → HeadSteps i i1 i2 node.ino.0 key → HeadSteps c c1 c2 node.client.0 key → r' ≡ appended_ends r key
      → Added (lists_of s r i c) (lists_of s4 r' i2 c2) key node
  added s r i i1 i2 c c1 c2 key node s1 s2 s3 s4 r' is room a hi hc ends =
      let t = lists_of s r i c in
      let t' = lists_of s4 r' i2 c2 in
      let st0 : Stand s (heads_of r (ends_at i1) (ends_at c1)) nowhere_off key (keys t) =
      Stand-heads s (ends_of t) (heads_of r (ends_at i1) (ends_at c1)) nowhere_off key (keys t) before (stand_of t key is.lists) in
      let st = added_stand s r (ends_at i1) (ends_at c1) key node s1 s2 s3 s4 (keys t) a st0 in
      let there : (name : ListName) → belongs name node ≡ true → is_among (added_keys s1 s2 s3 key (keys t) name) key ≡ true =
      λ name yes. ap (λ ks. is_among ks key) (lists_after s r (ends_at i1) (ends_at c1) key node s1 s2 s3 s4 (keys t) a st name ∙ ap (λ b. cond b (keys t name ++ key ∷ []) (keys t name)) yes)
      ∙ among-append (keys t name) (key ∷ []) key ∙ ap (λ b. is_among (keys t name) key || (b || false)) (eq-eqb key key refl) ∙ or_true (is_among (keys t name) key) in
      let st' : Stand s4 (ends_of t') added_off key (added_keys s1 s2 s3 key (keys t)) =
      Stand-heads s4 (added_heads r (ends_at i1) (ends_at c1) key node) (ends_of t') added_off key (added_keys s1 s2 s3 key (keys t)) after st.stand in
      let first_ino : IsSome (appended_ends (ends_at i1 node.ino.0) key).first =
      subst (λ (x : Ends). IsSome x.first) (with_ends-same (ends_at i1) node.ino.0 (appended_ends (ends_at i1 node.ino.0) key))
      (first_some s4 _ (OfInode node.ino) _ _ (st.stand (OfInode node.ino)) key (there (OfInode node.ino) (eq-eqb node.ino.0 node.ino.0 refl))) in
      let first_client : IsSome (appended_ends (ends_at c1 node.client.0) key).first =
      subst (λ (x : Ends). IsSome x.first) (with_ends-same (ends_at c1) node.client.0 (appended_ends (ends_at c1 node.client.0) key))
      (first_some s4 _ (OfClient node.client) _ _ (st.stand (OfClient node.client)) key (there (OfClient node.client) (eq-eqb node.client.0 node.client.0 refl))) in
      record {
        sound = record {
          lists = list_of t' added_off key (added_keys s1 s2 s3 key (keys t)) st' added_off-none;
          inodes = keeps i i1 i2 node.ino.0 key hi first_ino is.inodes;
          clients = keeps c c1 c2 node.client.0 key hc first_client is.clients;
          room = counted;
        };
        adds = record {
          was_free = ap (option_map (λ l. l.node)) a.free;
          nodes = nodes_after s r (ends_at i1) (ends_at c1) key node s1 s2 s3 s4 a st.nodes2 st.nodes3 st.nodes4;
          lists = λ name. keys_are t' added_off key (added_keys s1 s2 s3 key (keys t)) st' added_off-none name ∙ lists_after s r (ends_at i1) (ends_at c1) key node s1 s2 s3 s4 (keys t) a st name;
        };
      }
    where
      or_true : (b : Bool) → (b || (true || false)) ≡ true
      or_true true = refl
      or_true false = refl

      before : (name : ListName) → heads_of r (ends_at i1) (ends_at c1) name ≡ ends_of (lists_of s r i c) name
      before (OfInode ino) = reserved-ends i i1 i2 node.ino.0 key hi ino.0
      before (OfClient client) = reserved-ends c c1 c2 node.client.0 key hc client.0
      before OfRecall = refl

      after : (name : ListName) → ends_of (lists_of s4 r' i2 c2) name ≡ added_heads r (ends_at i1) (ends_at c1) key node name
      after (OfInode ino) = ends_updated i1 i2 node.ino.0 (appended_ends (ends_at i1 node.ino.0) key) hi.updated ino.0
      after (OfClient client) = ends_updated c1 c2 node.client.0 (appended_ends (ends_at c1 node.client.0) key) hc.updated client.0
      after OfRecall = ends

      counted : count_by is_some s4 ≤ 65536
      counted =
          let e2 = ap (count_by is_some) a.second ∙ count-next s1 order.Inode (ends_at i1 node.ino.0).last (Some key) in
          let e3 = ap (count_by is_some) a.third ∙ count-next s2 order.Client (ends_at c1 node.client.0).last (Some key) in
          let e4 = ap (count_by is_some) a.fourth ∙ count-next s3 order.Recall r.last (Some key) in
          let more = a.more in
          omega arith

  -- the lists are sound with the node, and as they were
  pub sound_either : {E : Type 0} (r : Result ℕ E) (t t' : Lists T) (P : ℕ → Type 0) → IfOk r (λ key. IsLists t' × P key) → OnErr r (t' ≡ t) → IsLists t → IsLists t'
  sound_either (Ok key) t t' P added same is = added.0
  sound_either (Err e) t t' P added same is = subst IsLists (sym same) is
