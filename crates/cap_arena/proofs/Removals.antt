-- The lists with one node less.
use Rattle.std.proofs.Common.{◌≡◌, ◌≢◌, ℕ, ◌+◌, ◌≤◌, Bool, true, false, not, ◌&&◌, cond, Option, Some, None, IsSome, is_some, List, reverse, count_by, refl}
use Rattle.std.proofs.Common.{sym, ap, ◌∙◌, subst, arith, nat_eq, OnSome, IfNone}
use Rattle.std.specs.Option.{option_map, option_map_or}
use Rattle.std.proofs.lemmas.Bool.{and_parts, eq-eqb, eqb-true}
use Rattle.std.specs.FinMap as map
use Rattle.slab.specs.Slab.{Slab, slab_len}
use Rattle.cap_arena.specs.declared.nodes.Order.{Order}
use Rattle.cap_arena.specs.declared.nodes.Order.TheVariants as order
use Rattle.cap_arena.specs.declared.nodes.Ends.{Ends}
use Rattle.cap_arena.specs.declared.nodes.Linked.{Linked}
use Rattle.cap_arena.specs.declared.nodes.Node.{Node}
use Rattle.cap_arena.specs.Nodes.{joint_of}
use Rattle.cap_arena.specs.Places.{linked_at, next_at, previous_at, unlinked, unlinked_ends, with_next_at}
use Rattle.cap_arena.specs.Heads.{Heads, ends_at, ends_or_none, kept, kept_if, no_ends}
use Rattle.cap_arena.specs.Walks.{is_among}
use Rattle.cap_arena.specs.Lists.{IsLists, KeepsNoEmpty, ListName, OfClient, OfInode, OfRecall, belongs, ends_of, keys, lists_of, order_of}
use Rattle.cap_arena.specs.Calls.{Removes, keys_without}
use Rattle.cap_arena.proofs.Rings.{among-reverse, filter_none, walk_stays}
use Rattle.cap_arena.proofs.Writes.{IsPlace, Wrote, Wrote-unlinked, plain_at}
use Rattle.cap_arena.proofs.Stands.{Stand, Stand-alike, one_less, stands, unlink_step, with_off}
use Rattle.cap_arena.proofs.HeadMaps.{heads_of, recall_differs, with_ends, with_ends-client, with_ends-inode, with_ends-same}
use Rattle.cap_arena.proofs.Sound.{Stand-heads, count-next, count-previous, first_some, heads_are, heads_known, kept_is, keys_are, list_of, nowhere_off}
use Rattle.cap_arena.proofs.Sound.{place_of, stand_of}

-- a slab has no more values after a removal
pub fewer_left : {X : Type 0} (taken : Option X) (old new : Slab X) → OnSome taken (slab_len new + 1 ≡ slab_len old) → IfNone taken (new ≡ old) → slab_len new ≤ slab_len old
fewer_left None old new len same = let e : slab_len new ≡ slab_len old = ap slab_len same in omega arith
fewer_left (Some x) old new len same = omega (arith, len)

-- what a map has, where one of its numbers has other ends
ends_kept : (m n : Heads) (number : ℕ) (ends : Ends) → ends_or_none (kept ends) ≡ ends → ((q : ℕ) → map.get n q ≡ cond (nat_eq number q) (kept ends) (map.get m q)) → (q : ℕ) → ends_at n q ≡ with_ends (ends_at m) number ends q
ends_kept m n number ends whole at q = ap ends_or_none (at q) ∙ out (nat_eq number q)
  where
    out : (b : Bool) → ends_or_none (cond b (kept ends) (map.get m q)) ≡ cond b ends (ends_at m q)
    out true = whole
    out false = refl

-- it keeps none of a list without nodes
kept_some : (f : Option ℕ) (ends found : Ends) → ends.first ≡ f → kept_if f ends ≡ Some found → IsSome found.first
kept_some None ends found is e = absurd (cc)
kept_some (Some k) ends found is e = let same : ends ≡ found = cc in subst (λ (x : Ends). IsSome x.first) same (subst IsSome (sym is) refl)

keeps_less : (m n : Heads) (number : ℕ) (ends : Ends) → ((q : ℕ) → map.get n q ≡ cond (nat_eq number q) (kept ends) (map.get m q))
    → KeepsNoEmpty m → KeepsNoEmpty n
keeps_less m n number ends at keeps q found is = by_test (nat_eq number q) (sym (at q) ∙ is)
  where
    by_test : (b : Bool) → cond b (kept ends) (map.get m q) ≡ Some found → IsSome found.first
    by_test true e = kept_some ends.first ends found refl e
    by_test false e = keeps q found e

module _ {T : Type 0} where
  -- the places on both sides of a node of a list
  sides_are_places : (s : List (Option (Linked T))) (heads : ListName → Ends) (off : Order → Bool) (key : ℕ) (ks : ListName → List ℕ) (name : ListName) → Stand s heads off key ks → is_among (ks name) key ≡ true
      → IsPlace s (next_at s no_ends (order_of name) (Some key)) × IsPlace s (previous_at s no_ends (order_of name) (Some key))
  sides_are_places s heads off key ks name st here = (
    place (next_at s no_ends (order_of name) (Some key)) (λ j e. walk_stays (next_at s (heads name) (order_of name)) None (ks name) (st name).ring.forth key here j e),
    place (previous_at s no_ends (order_of name) (Some key)) (λ j e. sym (among-reverse (ks name) j) ∙ walk_stays (previous_at s (heads name) (order_of name)) None (reverse (ks name)) (st name).ring.back key (among-reverse (ks name) key ∙ here) j e),
  )
    where
      place : (o : Option ℕ) → ((j : ℕ) → o ≡ Some j → is_among (ks name) j ≡ true) → IsPlace s o
      place None there = tt
      place (Some j) there = place_of s name j (and_parts (stands s name j) _ (sym ((st name).members j) ∙ there j refl)).0

  -- the node is among the keys of a list that it belongs into and is not out of
  among_on : (s : List (Option (Linked T))) (heads : ListName → Ends) (off : Order → Bool) (key : ℕ) (ks : ListName → List ℕ) (name : ListName) → Stand s heads off key ks → off (order_of name) ≡ false → stands s name key ≡ true → is_among (ks name) key ≡ true
  among_on s heads off key ks name st on there = (st name).members key ∙ ap (λ b. stands s name key && not (b && nat_eq key key)) on ∙ ap (λ b. b && true) there

  pub Wrote-out : (s : List (Option (Linked T))) (heads : ListName → Ends) (off : Order → Bool) (key : ℕ) (ks : ListName → List ℕ) (name : ListName) → Stand s heads off key ks → off (order_of name) ≡ false → stands s name key ≡ true
      → Wrote s (unlinked s (heads name) (order_of name) key) (order_of name) (previous_at s no_ends (order_of name) (Some key)) (next_at s no_ends (order_of name) (Some key)) (next_at s no_ends (order_of name) (Some key)) (previous_at s no_ends (order_of name) (Some key))
  Wrote-out s heads off key ks name st on there =
      let p = sides_are_places s heads off key ks name st (among_on s heads off key ks name st on there) in
      Wrote-unlinked s (heads name) (order_of name) key p.0 p.1

  -- the node is taken out of one list
  pub taken_out : (s : List (Option (Linked T))) (heads heads' : ListName → Ends) (off : Order → Bool) (key : ℕ) (ks : ListName → List ℕ) (name : ListName)
      → Stand s heads off key ks → off (order_of name) ≡ false → stands s name key ≡ true
      → heads' name ≡ unlinked_ends s (heads name) (order_of name) key → ((other : ListName) → (other ≡ name → ⊥) → heads' other ≡ heads other)
      → Stand (unlinked s (heads name) (order_of name) key) heads' (with_off off (order_of name)) key (one_less s (order_of name) key ks)
  taken_out s heads heads' off key ks name st on there own rest =
      unlink_step s (unlinked s (heads name) (order_of name) key) heads heads' off key ks name (previous_at s no_ends (order_of name) (Some key)) (next_at s no_ends (order_of name) (Some key)) st refl refl
      (Wrote-out s heads off key ks name st on there) on there own rest

  pub count-unlinked : (s : List (Option (Linked T))) (ends : Ends) (o : Order) (key : ℕ) → count_by is_some (unlinked s ends o key) ≡ count_by is_some s
  count-unlinked s ends o key =
      let p = previous_at s ends o (Some key) in
      let n = next_at s ends o (Some key) in
      count-previous (with_next_at s o p n) o n p ∙ count-next s o p n

  -- the slots with a node in one of its lists less after another, and then without it
  pub record OutSteps (s : List (Option (Linked T))) (r r1 : Ends) (i c : ℕ → Ends) (key : ℕ) (node : Node T) (s1 s2 s3 s4 : List (Option (Linked T))) : Type 0 where
    pub there : plain_at s key ≡ Some node
    pub first : s1 ≡ unlinked s (i node.ino.0) order.Inode key
    pub second : s2 ≡ unlinked s1 (c node.client.0) order.Client key
    pub third : s3 ≡ unlinked s2 r order.Recall key
    pub recall : r1 ≡ unlinked_ends s2 r order.Recall key
    pub gone : linked_at s4 key ≡ None
    pub others : (k : ℕ) → k ≢ key → linked_at s4 k ≡ linked_at s3 k
    pub less : count_by is_some s4 ≤ count_by is_some s3

  -- the ends, and the keys, after that
  abbrev pub out_inodes : List (Option (Linked T)) → (ℕ → Ends) → ℕ → Node T → ℕ → Ends
  out_inodes s i key node = with_ends i node.ino.0 (unlinked_ends s (i node.ino.0) order.Inode key)

  abbrev pub out_clients : List (Option (Linked T)) → (ℕ → Ends) → ℕ → Node T → ℕ → Ends
  out_clients s1 c key node = with_ends c node.client.0 (unlinked_ends s1 (c node.client.0) order.Client key)

  abbrev pub out_keys : List (Option (Linked T)) → List (Option (Linked T)) → List (Option (Linked T)) → ℕ → (ListName → List ℕ) → ListName → List ℕ
  out_keys s s1 s2 key ks = one_less s2 order.Recall key (one_less s1 order.Client key (one_less s order.Inode key ks))

  record StandOut (s : List (Option (Linked T))) (r1 : Ends) (i c : ℕ → Ends) (key : ℕ) (node : Node T) (s1 s2 s3 s4 : List (Option (Linked T))) (ks : ListName → List ℕ) : Type 0 where
    stand : Stand s4 (heads_of r1 (out_inodes s i key node) (out_clients s1 c key node)) nowhere_off key (out_keys s s1 s2 key ks)
    nodes1 : (k : ℕ) → plain_at s1 k ≡ plain_at s k
    nodes2 : (k : ℕ) → plain_at s2 k ≡ plain_at s1 k
    nodes3 : (k : ℕ) → plain_at s3 k ≡ plain_at s2 k

  -- slots without a node that is in no list
  stand_without : (s s' : List (Option (Linked T))) (heads : ListName → Ends) (off : Order → Bool) (key : ℕ) (ks : ListName → List ℕ) → ((o : Order) → off o ≡ true) → linked_at s' key ≡ None → ((k : ℕ) → k ≢ key → linked_at s' k ≡ linked_at s k)
      → Stand s heads off key ks → Stand s' heads nowhere_off key ks
  stand_without s s' heads off key ks all gone others st =
      Stand-alike s s' heads off nowhere_off key key ks
      (λ name k there. ap (option_map (joint_of (order_of name))) (others k (λ same. differs name k there same)))
      (λ name k. members name k (nat_eq key k) refl) st
    where
      differs : (name : ListName) (k : ℕ) → is_among (ks name) k ≡ true → k ≡ key → ⊥
      differs name k there same =
          let c : false ≡ true = sym (and_false (stands s name key)) ∙ ap (λ b. stands s name key && not b) (sym (ap (λ b. b && nat_eq key key) (all (order_of name)) ∙ eq-eqb key key refl)) ∙ sym ((st name).members key) ∙ ap (is_among (ks name)) (sym same) ∙ there in
          cc
        where
          and_false : (a : Bool) → (a && false) ≡ false
          and_false true = refl
          and_false false = refl

      members : (name : ListName) (k : ℕ) (b : Bool) → nat_eq key k ≡ b → (stands s' name k && not (false && b)) ≡ (stands s name k && not (off (order_of name) && b))
      members name k true e =
          ap (λ c. c && true) (ap (λ o. option_map_or (belongs name) (option_map (λ l. l.node) o) false) (ap (linked_at s') (sym (eqb-true key k e)) ∙ gone))
          ∙ sym (ap (λ c. stands s name k && not (c && true)) (all (order_of name)) ∙ and_false (stands s name k))
        where
          and_false : (a : Bool) → (a && false) ≡ false
          and_false true = refl
          and_false false = refl
      members name k false e =
          ap (λ o. option_map_or (belongs name) (option_map (λ l. l.node) o) false && true) (others k (λ same. absurd (let c : nat_eq key k ≡ true = eq-eqb key k (sym same) in cc)))
          ∙ sym (ap (λ c. stands s name k && not c) (and_no (off (order_of name))))
        where
          and_no : (a : Bool) → (a && false) ≡ false
          and_no true = refl
          and_no false = refl

  stand_out : (s : List (Option (Linked T))) (r r1 : Ends) (i c : ℕ → Ends) (key : ℕ) (node : Node T) (s1 s2 s3 s4 : List (Option (Linked T))) (ks : ListName → List ℕ)
      → OutSteps s r r1 i c key node s1 s2 s3 s4 → Stand s (heads_of r i c) nowhere_off key ks → StandOut s r1 i c key node s1 s2 s3 s4 ks
  stand_out s r r1 i c key node s1 s2 s3 s4 ks a st =
      let i1 = out_inodes s i key node in
      let c1 = out_clients s1 c key node in
      let off1 : Order → Bool = with_off nowhere_off order.Inode in
      let off2 : Order → Bool = with_off (with_off nowhere_off order.Inode) order.Client in
      let off3 : Order → Bool = with_off (with_off (with_off nowhere_off order.Inode) order.Client) order.Recall in
      let in_ino : stands s (OfInode node.ino) key ≡ true = ap (λ o. option_map_or (belongs (OfInode node.ino)) o false) a.there ∙ eq-eqb node.ino.0 node.ino.0 refl in
      let w1 : (k : ℕ) → plain_at s1 k ≡ plain_at s k = λ k. ap (λ x. plain_at x k) a.first ∙ (Wrote-out s (heads_of r i c) nowhere_off key ks (OfInode node.ino) st refl in_ino).nodes k in
      let st1 : Stand s1 (heads_of r i1 c) (with_off nowhere_off order.Inode) key (one_less s order.Inode key ks) =
      subst (λ x. Stand x (heads_of r i1 c) (with_off nowhere_off order.Inode) key (one_less s order.Inode key ks)) (sym a.first)
      (taken_out s (heads_of r i c) (heads_of r i1 c) nowhere_off key ks (OfInode node.ino) st refl in_ino (with_ends-same i node.ino.0 (unlinked_ends s (i node.ino.0) order.Inode key)) (with_ends-inode r i c node.ino (unlinked_ends s (i node.ino.0) order.Inode key))) in
      let in_client : stands s1 (OfClient node.client) key ≡ true = ap (λ o. option_map_or (belongs (OfClient node.client)) o false) (w1 key ∙ a.there) ∙ eq-eqb node.client.0 node.client.0 refl in
      let w2 : (k : ℕ) → plain_at s2 k ≡ plain_at s1 k = λ k. ap (λ x. plain_at x k) a.second ∙ (Wrote-out s1 (heads_of r i1 c) (with_off nowhere_off order.Inode) key (one_less s order.Inode key ks) (OfClient node.client) st1 refl in_client).nodes k in
      let st2 : Stand s2 (heads_of r i1 c1) (with_off (with_off nowhere_off order.Inode) order.Client) key (one_less s1 order.Client key (one_less s order.Inode key ks)) =
      subst (λ x. Stand x (heads_of r i1 c1) (with_off (with_off nowhere_off order.Inode) order.Client) key (one_less s1 order.Client key (one_less s order.Inode key ks))) (sym a.second)
      (taken_out s1 (heads_of r i1 c) (heads_of r i1 c1) (with_off nowhere_off order.Inode) key (one_less s order.Inode key ks) (OfClient node.client) st1 refl in_client (with_ends-same c node.client.0 (unlinked_ends s1 (c node.client.0) order.Client key)) (with_ends-client r i1 c node.client (unlinked_ends s1 (c node.client.0) order.Client key))) in
      let in_recall : stands s2 OfRecall key ≡ true = ap (λ o. option_map_or (belongs {T = T} OfRecall) o false) (w2 key ∙ w1 key ∙ a.there) in
      let w3 : (k : ℕ) → plain_at s3 k ≡ plain_at s2 k = λ k. ap (λ x. plain_at x k) a.third ∙ (Wrote-out s2 (heads_of r i1 c1) (with_off (with_off nowhere_off order.Inode) order.Client) key (one_less s1 order.Client key (one_less s order.Inode key ks)) OfRecall st2 refl in_recall).nodes k in
      let st3 : Stand s3 (heads_of r1 i1 c1) (with_off (with_off (with_off nowhere_off order.Inode) order.Client) order.Recall) key (out_keys s s1 s2 key ks) =
      subst (λ x. Stand x (heads_of r1 i1 c1) (with_off (with_off (with_off nowhere_off order.Inode) order.Client) order.Recall) key (out_keys s s1 s2 key ks)) (sym a.third)
      (taken_out s2 (heads_of r i1 c1) (heads_of r1 i1 c1) (with_off (with_off nowhere_off order.Inode) order.Client) key (one_less s1 order.Client key (one_less s order.Inode key ks)) OfRecall st2 refl in_recall a.recall (recall_differs r r1 i1 c1)) in
      record {
        stand = stand_without s3 s4 (heads_of r1 i1 c1) (with_off (with_off (with_off nowhere_off order.Inode) order.Client) order.Recall) key (out_keys s s1 s2 key ks) all_off a.gone a.others st3;
        nodes1 = w1;
        nodes2 = w2;
        nodes3 = w3;
      }
    where
      all_off : (o : Order) → with_off (with_off (with_off nowhere_off order.Inode) order.Client) order.Recall o ≡ true
      all_off order.Inode = refl
      all_off order.Client = refl
      all_off order.Recall = refl

  -- which keys are left
  keys_out : (s : List (Option (Linked T))) (r1 : Ends) (i c : ℕ → Ends) (key : ℕ) (node : Node T) (s1 s2 s3 s4 : List (Option (Linked T))) (ks : ListName → List ℕ) → StandOut s r1 i c key node s1 s2 s3 s4 ks
      → ((name : ListName) → is_among (ks name) key ≡ stands s name key) → (name : ListName) → out_keys s s1 s2 key ks name ≡ keys_without (ks name) key
  keys_out s r1 i c key node s1 s2 s3 s4 ks st among (OfInode ino) = by_test (stands s (OfInode ino) key) (among (OfInode ino))
    where
      by_test : (b : Bool) → is_among (ks (OfInode ino)) key ≡ b → cond b (keys_without (ks (OfInode ino)) key) (ks (OfInode ino)) ≡ keys_without (ks (OfInode ino)) key
      by_test true e = refl
      by_test false e = sym (filter_none key (ks (OfInode ino)) e)
  keys_out s r1 i c key node s1 s2 s3 s4 ks st among (OfClient client) =
      by_test (stands s1 (OfClient client) key) (among (OfClient client) ∙ sym (ap (λ o. option_map_or (belongs (OfClient client)) o false) (st.nodes1 key)))
    where
      by_test : (b : Bool) → is_among (ks (OfClient client)) key ≡ b → cond b (keys_without (ks (OfClient client)) key) (ks (OfClient client)) ≡ keys_without (ks (OfClient client)) key
      by_test true e = refl
      by_test false e = sym (filter_none key (ks (OfClient client)) e)
  keys_out s r1 i c key node s1 s2 s3 s4 ks st among OfRecall =
      by_test (stands s2 OfRecall key) (among OfRecall ∙ sym (ap (λ o. option_map_or (belongs {T = T} OfRecall) o false) (st.nodes2 key ∙ st.nodes1 key)))
    where
      by_test : (b : Bool) → is_among (ks OfRecall) key ≡ b → cond b (keys_without (ks OfRecall) key) (ks OfRecall) ≡ keys_without (ks OfRecall) key
      by_test true e = refl
      by_test false e = sym (filter_none key (ks OfRecall) e)

  -- a node that is there has ends of its lists
  pub inode_has_ends : (s : List (Option (Linked T))) (r : Ends) (i c : Heads) (key : ℕ) (node : Node T) → IsLists (lists_of s r i c) → plain_at s key ≡ Some node → IsSome (ends_at i node.ino.0).first
  inode_has_ends s r i c key node is there =
      let t = lists_of s r i c in
      let st = stand_of t key is.lists (OfInode node.ino) in
      first_some s (ends_of t (OfInode node.ino)) (OfInode node.ino) (keys t (OfInode node.ino)) _ st key
      ((is.lists (OfInode node.ino)).nodes key ∙ ap (λ o. option_map_or (belongs (OfInode node.ino)) o false) there ∙ eq-eqb node.ino.0 node.ino.0 refl)

  pub client_has_ends : (s : List (Option (Linked T))) (r : Ends) (i c : Heads) (key : ℕ) (node : Node T) → IsLists (lists_of s r i c) → plain_at s key ≡ Some node → IsSome (ends_at c node.client.0).first
  client_has_ends s r i c key node is there =
      let t = lists_of s r i c in
      let st = stand_of t key is.lists (OfClient node.client) in
      first_some s (ends_of t (OfClient node.client)) (OfClient node.client) (keys t (OfClient node.client)) _ st key
      ((is.lists (OfClient node.client)).nodes key ∙ ap (λ o. option_map_or (belongs (OfClient node.client)) o false) there ∙ eq-eqb node.client.0 node.client.0 refl)

  pub removed : (s : List (Option (Linked T))) (r r1 : Ends) (i i1 c c1 : Heads) (key : ℕ) (node : Node T) (s1 s2 s3 s4 : List (Option (Linked T)))
      → IsLists (lists_of s r i c) → OutSteps s r r1 (ends_at i) (ends_at c) key node s1 s2 s3 s4
      → ((q : ℕ) → map.get i1 q ≡ cond (nat_eq node.ino.0 q) (kept (unlinked_ends s (ends_at i node.ino.0) order.Inode key)) (map.get i q))
      → ((q : ℕ) → map.get c1 q ≡ cond (nat_eq node.client.0 q) (kept (unlinked_ends s1 (ends_at c node.client.0) order.Client key)) (map.get c q))
      → IsLists (lists_of s4 r1 i1 c1) × Removes (lists_of s r i c) (lists_of s4 r1 i1 c1) key
  removed s r r1 i i1 c c1 key node s1 s2 s3 s4 is a at_i at_c =
      let t = lists_of s r i c in
      let t' = lists_of s4 r1 i1 c1 in
      let st0 : Stand s (heads_of r (ends_at i) (ends_at c)) nowhere_off key (keys t) =
      Stand-heads s (ends_of t) (heads_of r (ends_at i) (ends_at c)) nowhere_off key (keys t) (heads_are s r i c) (stand_of t key is.lists) in
      let st = stand_out s r r1 (ends_at i) (ends_at c) key node s1 s2 s3 s4 (keys t) a st0 in
      let ie = unlinked_ends s (ends_at i node.ino.0) order.Inode key in
      let ce = unlinked_ends s1 (ends_at c node.client.0) order.Client key in
      let whole_i : ends_or_none (kept ie) ≡ ie =
      subst (λ e. ends_or_none (kept e) ≡ e) (with_ends-same (ends_at i) node.ino.0 ie) (kept_is s4 _ (OfInode node.ino) _ _ (st.stand (OfInode node.ino))) in
      let whole_c : ends_or_none (kept ce) ≡ ce =
      subst (λ e. ends_or_none (kept e) ≡ e) (with_ends-same (ends_at c) node.client.0 ce) (kept_is s4 _ (OfClient node.client) _ _ (st.stand (OfClient node.client))) in
      let st' : Stand s4 (ends_of t') nowhere_off key (out_keys s s1 s2 key (keys t)) =
      Stand-heads s4 (heads_of r1 (out_inodes s (ends_at i) key node) (out_clients s1 (ends_at c) key node)) (ends_of t') nowhere_off key (out_keys s s1 s2 key (keys t))
      (heads_known s4 r1 i1 c1 (out_inodes s (ends_at i) key node) (out_clients s1 (ends_at c) key node) (ends_kept i i1 node.ino.0 ie whole_i at_i) (ends_kept c c1 node.client.0 ce whole_c at_c)) st.stand in (
        record {
          lists = list_of t' nowhere_off key (out_keys s s1 s2 key (keys t)) st' (λ o. refl);
          inodes = keeps_less i i1 node.ino.0 ie at_i is.inodes;
          clients = keeps_less c c1 node.client.0 ce at_c is.clients;
          room = fewer;
        },
        record {
          nodes = λ k. left_at k (nat_eq k key) refl ∙ ap (λ o. cond (nat_eq k key) None o) (st.nodes3 k ∙ st.nodes2 k ∙ st.nodes1 k);
          lists = λ name. keys_are t' nowhere_off key (out_keys s s1 s2 key (keys t)) st' (λ o. refl) name
              ∙ keys_out s r1 (ends_at i) (ends_at c) key node s1 s2 s3 s4 (keys t) st (λ n. (is.lists n).nodes key) name;
        },
      )
    where
      left_at : (k : ℕ) (b : Bool) → nat_eq k key ≡ b → plain_at s4 k ≡ cond b None (plain_at s3 k)
      left_at k true e = ap (plain_at s4) (eqb-true k key e) ∙ ap (option_map (λ l. l.node)) a.gone
      left_at k false e = ap (option_map (λ l. l.node)) (a.others k (λ same. absurd (let t : nat_eq k key ≡ true = eq-eqb k key same in cc)))

      fewer : count_by is_some s4 ≤ 65536
      fewer =
          let e1 = ap (count_by is_some) a.first ∙ count-unlinked s (ends_at i node.ino.0) order.Inode key in
          let e2 = ap (count_by is_some) a.second ∙ count-unlinked s1 (ends_at c node.client.0) order.Client key in
          let e3 = ap (count_by is_some) a.third ∙ count-unlinked s2 r order.Recall key in
          let room = is.room in
          let less = a.less in
          omega arith
