-- The lists after a node became the last one in the order of recall, or has another value; and the lists without nodes.
use Rattle.std.proofs.Common.{◌≡◌, ℕ, ◌≤◌, Bool, true, false, not, ◌&&◌, cond, Option, Some, None, IsSome, IsTrue, is_some, List, [], ◌∷◌, ◌++◌, count_by}
use Rattle.std.proofs.Common.{refl, sym, ap, ◌∙◌, arith, nat_eq}
use Rattle.std.specs.Option.{option_map, option_map_or}
use Rattle.std.proofs.lemmas.Bool.{eq-eqb}
use Rattle.cap_arena.specs.declared.nodes.Order.{Order}
use Rattle.cap_arena.specs.declared.nodes.Order.TheVariants as order
use Rattle.cap_arena.specs.declared.nodes.Ends.{Ends}
use Rattle.cap_arena.specs.declared.nodes.Linked.{Linked}
use Rattle.cap_arena.specs.Nodes.{joint_of, with_next, with_previous}
use Rattle.cap_arena.specs.Places.{facing_last, linked_at, moved_ends, moved_slots, next_at, previous_at, unlinked, unlinked_ends}
use Rattle.cap_arena.specs.Heads.{Heads, ends_at, no_ends}
use Rattle.cap_arena.specs.Walks.{is_among}
use Rattle.cap_arena.specs.Lists.{IsLists, ListName, OfClient, OfInode, OfRecall, belongs, ends_of, keys, lists_of, order_of}
use Rattle.cap_arena.specs.Calls.{Touches, keys_without}
use Rattle.cap_arena.proofs.Writes.{Wrote, Wrote-facing, Wrote-next, joint_at, linked_at-facing, plain_at}
use Rattle.cap_arena.proofs.Stands.{Stand, Stand-alike, append_step, one_less, one_more, stands, with_off, with_on}
use Rattle.cap_arena.proofs.HeadMaps.{heads_of, recall_differs}
use Rattle.cap_arena.proofs.Sound.{Stand-heads, count-in, count-next, heads_are, keys_are, last_is_place, list_of, nowhere_off, place_of, stand_of}
use Rattle.cap_arena.proofs.Removals.{Wrote-out, count-unlinked, taken_out}

abbrev recall_off : Order → Bool
recall_off = with_off nowhere_off order.Recall

abbrev recall_on : Order → Bool
recall_on = with_on (with_off nowhere_off order.Recall) order.Recall

recall_on-none : (o : Order) → recall_on o ≡ false
recall_on-none order.Inode = refl
recall_on-none order.Client = refl
recall_on-none order.Recall = refl

module _ {T : Type 0} where
  abbrev moved_keys : List (Option (Linked T)) → List (Option (Linked T)) → ℕ → (ListName → List ℕ) → ListName → List ℕ
  moved_keys s s2 key ks = one_more s2 order.Recall key (one_less s order.Recall key ks)

  record StandMoved (s : List (Option (Linked T))) (r : Ends) (i c : ℕ → Ends) (key : ℕ) (ks : ListName → List ℕ) : Type 0 where
    between : List (Option (Linked T))
    stand : Stand (moved_slots s r key) (heads_of (moved_ends s r key) i c) recall_on key (moved_keys s between key ks)
    nodes2 : (k : ℕ) → plain_at between k ≡ plain_at s k
    nodes3 : (k : ℕ) → plain_at (moved_slots s r key) k ≡ plain_at s k

  stand_moved : (s : List (Option (Linked T))) (r : Ends) (i c : ℕ → Ends) (key : ℕ) (ks : ListName → List ℕ) → Stand s (heads_of r i c) nowhere_off key ks → (l : Linked T) → linked_at s key ≡ Some l → StandMoved s r i c key ks
  stand_moved s r i c key ks st l at =
      let s1 = unlinked s r order.Recall key in
      let r1 = unlinked_ends s r order.Recall key in
      let s2 = facing_last s1 r1 order.Recall key in
      let in_recall : stands s OfRecall key ≡ true = ap (λ o. option_map_or (belongs {T = T} OfRecall) (option_map (λ l. l.node) o) false) at in
      let w1 = Wrote-out s (heads_of r i c) nowhere_off key ks OfRecall st refl in_recall in
      let st1 : Stand (unlinked s r order.Recall key) (heads_of (unlinked_ends s r order.Recall key) i c) recall_off key (one_less s order.Recall key ks) =
      taken_out s (heads_of r i c) (heads_of (unlinked_ends s r order.Recall key) i c) nowhere_off key ks OfRecall st refl in_recall refl (recall_differs r (unlinked_ends s r order.Recall key) i c) in
      let here = place_of (unlinked s r order.Recall key) OfRecall key (ap (λ o. option_map_or (belongs {T = T} OfRecall) o false) (w1.nodes key) ∙ in_recall) in
      let w2 : Wrote (unlinked s r order.Recall key) (facing_last (unlinked s r order.Recall key) (unlinked_ends s r order.Recall key) order.Recall key) order.Recall (Some key) None (Some key) (unlinked_ends s r order.Recall key).last =
      Wrote-facing (unlinked s r order.Recall key) (unlinked_ends s r order.Recall key) order.Recall key here.0 here.1 in
      let st2 : Stand (facing_last (unlinked s r order.Recall key) (unlinked_ends s r order.Recall key) order.Recall key) (heads_of (unlinked_ends s r order.Recall key) i c) recall_off key (one_less s order.Recall key ks) =
      Stand-alike (unlinked s r order.Recall key) (facing_last (unlinked s r order.Recall key) (unlinked_ends s r order.Recall key) order.Recall key) (heads_of (unlinked_ends s r order.Recall key) i c) recall_off recall_off key key (one_less s order.Recall key ks)
      (λ name k there. joints (unlinked s r order.Recall key) (unlinked_ends s r order.Recall key) w2 here.0 here.1 st1 name k there)
      (λ name k. ap (λ o. option_map_or (belongs name) o false && not (recall_off (order_of name) && nat_eq key k)) (w2.nodes k)) st1 in
      let in_still : stands (facing_last (unlinked s r order.Recall key) (unlinked_ends s r order.Recall key) order.Recall key) OfRecall key ≡ true =
      ap (λ o. option_map_or (belongs {T = T} OfRecall) o false) (w2.nodes key ∙ w1.nodes key) ∙ in_recall in
      let last_place = last_is_place (facing_last (unlinked s r order.Recall key) (unlinked_ends s r order.Recall key) order.Recall key) (heads_of (unlinked_ends s r order.Recall key) i c) recall_off key (one_less s order.Recall key ks) st2 OfRecall in
      let w3 = Wrote-next (facing_last (unlinked s r order.Recall key) (unlinked_ends s r order.Recall key) order.Recall key) order.Recall (unlinked_ends s r order.Recall key).last (Some key) (Some key) last_place in
      let self_place : (b : Bool) → nat_eq key key ≡ b → b ≡ true = λ b e. sym e ∙ eq-eqb key key refl in
      record {
        between = facing_last (unlinked s r order.Recall key) (unlinked_ends s r order.Recall key) order.Recall key;
        stand = append_step (facing_last (unlinked s r order.Recall key) (unlinked_ends s r order.Recall key) order.Recall key) (moved_slots s r key) (heads_of (unlinked_ends s r order.Recall key) i c) (heads_of (moved_ends s r key) i c) recall_off key (one_less s order.Recall key ks) OfRecall st2 w3 refl in_still
            (w2.next key ∙ ap (λ b. cond b None (next_at (unlinked s r order.Recall key) no_ends order.Recall (Some key))) (eq-eqb key key refl))
            (w2.previous key ∙ ap (λ b. cond b (unlinked_ends s r order.Recall key).last (previous_at (unlinked s r order.Recall key) no_ends order.Recall (Some key))) (eq-eqb key key refl))
            refl (recall_differs (unlinked_ends s r order.Recall key) (moved_ends s r key) i c);
        nodes2 = λ k. w2.nodes k ∙ w1.nodes k;
        nodes3 = λ k. w3.nodes k ∙ w2.nodes k ∙ w1.nodes k;
      }
    where
      joints : (s1 : List (Option (Linked T))) (r1 : Ends) → Wrote s1 (facing_last s1 r1 order.Recall key) order.Recall (Some key) None (Some key) r1.last → (l1 : Linked T) → linked_at s1 key ≡ Some l1
          → Stand s1 (heads_of r1 i c) recall_off key (one_less s order.Recall key ks)
          → (name : ListName) (k : ℕ) → is_among (one_less s order.Recall key ks name) k ≡ true → joint_at (facing_last s1 r1 order.Recall key) (order_of name) k ≡ joint_at s1 (order_of name) k
      joints s1 r1 w l1 is st1 (OfInode ino) k there = w.others order.Inode refl k
      joints s1 r1 w l1 is st1 (OfClient client) k there = w.others order.Client refl k
      joints s1 r1 w l1 is st1 OfRecall k there = by_test (nat_eq key k) refl
        where
          and_false : (a : Bool) → (a && false) ≡ false
          and_false true = refl
          and_false false = refl

          by_test : (b : Bool) → nat_eq key k ≡ b → joint_at (facing_last s1 r1 order.Recall key) order.Recall k ≡ joint_at s1 order.Recall k
          by_test true e = absurd (let c : false ≡ true = sym (and_false (stands s1 OfRecall k)) ∙ ap (λ b. stands s1 OfRecall k && not b) (sym e) ∙ sym ((st1 OfRecall).members k) ∙ there in cc)
          by_test false e = ap (option_map (joint_of order.Recall)) (linked_at-facing s1 r1 order.Recall key l1 is k e)

  keys_moved : (s s2 : List (Option (Linked T))) (key : ℕ) (ks : ListName → List ℕ) → stands s OfRecall key ≡ true → stands s2 OfRecall key ≡ true → moved_keys s s2 key ks OfRecall ≡ keys_without (ks OfRecall) key ++ key ∷ []
  keys_moved s s2 key ks there still =
      ap (λ b. cond b (one_less s order.Recall key ks OfRecall ++ key ∷ []) (one_less s order.Recall key ks OfRecall)) still
      ∙ ap (λ b. cond b (keys_without (ks OfRecall) key) (ks OfRecall) ++ key ∷ []) there

  -- the node is the last one in the order of recall
  pub moved : (s : List (Option (Linked T))) (r : Ends) (i c : Heads) (key : ℕ) (l : Linked T) → IsLists (lists_of s r i c) → linked_at s key ≡ Some l
      → IsLists (lists_of (moved_slots s r key) (moved_ends s r key) i c) × Touches (lists_of s r i c) (lists_of (moved_slots s r key) (moved_ends s r key) i c) key
  moved s r i c key l is at =
      let t = lists_of s r i c in
      let t' = lists_of (moved_slots s r key) (moved_ends s r key) i c in
      let st0 : Stand s (heads_of r (ends_at i) (ends_at c)) nowhere_off key (keys t) =
      Stand-heads s (ends_of t) (heads_of r (ends_at i) (ends_at c)) nowhere_off key (keys t) (heads_are s r i c) (stand_of t key is.lists) in
      let st = stand_moved s r (ends_at i) (ends_at c) key (keys t) st0 l at in
      let st' : Stand (moved_slots s r key) (ends_of t') recall_on key (moved_keys s st.between key (keys t)) =
      Stand-heads (moved_slots s r key) (heads_of (moved_ends s r key) (ends_at i) (ends_at c)) (ends_of t') recall_on key (moved_keys s st.between key (keys t))
      (λ name. sym (heads_are (moved_slots s r key) (moved_ends s r key) i c name)) st.stand in
      let there : stands s OfRecall key ≡ true = ap (λ o. option_map_or (belongs {T = T} OfRecall) (option_map (λ l. l.node) o) false) at in
      let still : stands st.between OfRecall key ≡ true = ap (λ o. option_map_or (belongs {T = T} OfRecall) o false) (st.nodes2 key) ∙ there in (
        record {
          lists = list_of t' recall_on key (moved_keys s st.between key (keys t)) st' recall_on-none;
          inodes = is.inodes;
          clients = is.clients;
          room = same_count;
        },
        record {
          nodes = st.nodes3;
          recall = keys_are t' recall_on key (moved_keys s st.between key (keys t)) st' recall_on-none OfRecall ∙ keys_moved s st.between key (keys t) there still;
          inodes = λ ino. keys_are t' recall_on key (moved_keys s st.between key (keys t)) st' recall_on-none (OfInode ino);
          clients = λ client. keys_are t' recall_on key (moved_keys s st.between key (keys t)) st' recall_on-none (OfClient client);
        },
      )
    where
      same_count : count_by is_some (moved_slots s r key) ≤ 65536
      same_count =
          let r1 = unlinked_ends s r order.Recall key in
          let s1 = unlinked s r order.Recall key in
          let e1 = count-unlinked s r order.Recall key in
          let e2 = count-in (λ l. with_previous order.Recall (unlinked_ends s r order.Recall key).last (with_next order.Recall None l)) (unlinked s r order.Recall key) key in
          let e3 = count-next (facing_last (unlinked s r order.Recall key) (unlinked_ends s r order.Recall key) order.Recall key) order.Recall (unlinked_ends s r order.Recall key).last (Some key) in
          let room = is.room in
          omega arith

  pub moved_there : (s : List (Option (Linked T))) (r : Ends) (i c : Heads) (key : ℕ) (contains : Bool) → IsLists (lists_of s r i c) → (IsTrue contains → IsSome (linked_at s key)) → contains ≡ true
      → IsLists (lists_of (moved_slots s r key) (moved_ends s r key) i c) × Touches (lists_of s r i c) (lists_of (moved_slots s r key) (moved_ends s r key) i c) key
  moved_there s r i c key false is tells there = absurd (cc)
  moved_there s r i c key true is tells there = by_slot (linked_at s key) refl (tells refl)
    where
      by_slot : (q : Option (Linked T)) → linked_at s key ≡ q → IsSome q → IsLists (lists_of (moved_slots s r key) (moved_ends s r key) i c) × Touches (lists_of s r i c) (lists_of (moved_slots s r key) (moved_ends s r key) i c) key
      by_slot None e some = absurd (cc)
      by_slot (Some l) e some = moved s r i c key l is e
