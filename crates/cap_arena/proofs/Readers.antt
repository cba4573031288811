-- What the calls that change nothing answer.
use Rattle.std.proofs.Common.{◌≡◌, ℕ, Bool, true, false, ◌||◌, cond, Option, Some, None, List, [], ◌∷◌, refl, sym, ap, ◌∙◌, nat_eq, slice_get}
use Rattle.std.specs.Option.{option_and_then, option_map, option_map_or}
use Rattle.std.proofs.lemmas.Bool.{eq-eqb, eqb-true}
use Rattle.cap_arena.specs.declared.nodes.Order.TheVariants as order
use Rattle.cap_arena.specs.declared.nodes.Ends.{Ends}
use Rattle.cap_arena.specs.declared.nodes.Linked.{Linked}
use Rattle.capbits.specs.declared.ids.ClientId.{ClientId}
use Rattle.capbits.specs.declared.ids.Ino.{Ino}
use Rattle.cap_arena.specs.Nodes.{joint_of}
use Rattle.cap_arena.specs.Places.{linked_at, next_at}
use Rattle.cap_arena.specs.Heads.{Heads, ends_at}
use Rattle.cap_arena.specs.Walks.{IsWalk, is_among, key_after}
use Rattle.cap_arena.specs.Lists.{IsLists, ListName, Lists, OfClient, OfInode, OfRecall, belongs, belongs_at, ends_of, keys, lists_of, next_in, node_at}
use Rattle.cap_arena.specs.Lists.{order_of}
use Rattle.cap_arena.proofs.Rings.{first_step}

-- a walk leads from a key to the one after it
walk_after : (step : Option ℕ → Option ℕ) (place : Option ℕ) (ks : List ℕ) (key : ℕ) → IsWalk step place ks → is_among ks key ≡ true → step (Some key) ≡ key_after ks key
walk_after step place [] key walk there = absurd (cc)
walk_after step place (k ∷ ks) key walk there = by_test (nat_eq key k) refl (walk_after step (Some k) ks key walk.1) there
  where
    by_test : (b : Bool) → nat_eq key k ≡ b → (is_among ks key ≡ true → step (Some key) ≡ key_after ks key) → (b || is_among ks key) ≡ true → step (Some key) ≡ cond b (slice_get ks 0) (key_after ks key)
    by_test true same rest there = ap step (ap Some (eqb-true key k same)) ∙ first_step step (Some k) ks walk.1
    by_test false apart rest there = rest there

-- none is after a key that isn't there
none_after : (ks : List ℕ) (key : ℕ) → is_among ks key ≡ false → key_after ks key ≡ None
none_after [] key out = refl
none_after (k ∷ ks) key out = by_test (nat_eq key k) (none_after ks key) out
  where
    by_test : (b : Bool) → (is_among ks key ≡ false → key_after ks key ≡ None) → (b || is_among ks key) ≡ false → cond b (slice_get ks 0) (key_after ks key) ≡ None
    by_test true rest out = absurd (cc)
    by_test false rest out = rest out

module _ {T : Type 0} where
  -- the first node of a list
  first_is : (t : Lists T) → IsLists t → (name : ListName) → (ends_of t name).first ≡ slice_get (keys t name) 0
  first_is t is name = first_step (next_in t name) None (keys t name) (is.lists name).forth

  pub first_of_inode : (s : List (Option (Linked T))) (r : Ends) (i c : Heads) (ino : Ino) → IsLists (lists_of s r i c) → (ends_at i ino.0).first ≡ slice_get (keys (lists_of s r i c) (OfInode ino)) 0
  first_of_inode s r i c ino is = first_is (lists_of s r i c) is (OfInode ino)

  pub first_of_the_client : (s : List (Option (Linked T))) (r : Ends) (i c : Heads) (client : ClientId) → IsLists (lists_of s r i c) → (ends_at c client.0).first ≡ slice_get (keys (lists_of s r i c) (OfClient client)) 0
  first_of_the_client s r i c client is = first_is (lists_of s r i c) is (OfClient client)

  -- the node after one
  next_is : (t : Lists T) → IsLists t → (name : ListName) (key : ℕ) → belongs_at t name key ≡ true → next_at t.slots (ends_of t name) (order_of name) (Some key) ≡ key_after (keys t name) key
  next_is t is name key there = walk_after (next_in t name) None (keys t name) key (is.lists name).forth ((is.lists name).nodes key ∙ there)

  pub next_of_inode : (t : Lists T) (ends : Ends) (key : ℕ) → IsLists t → next_at t.slots ends order.Inode (Some key) ≡ option_and_then (λ node. key_after (keys t (OfInode node.ino)) key) (node_at t key)
  next_of_inode t ends key is = by_slot (linked_at t.slots key) refl
    where
      by_slot : (o : Option (Linked T)) → linked_at t.slots key ≡ o → option_and_then (λ l. (joint_of order.Inode l).next) o ≡ option_and_then (λ node. key_after (keys t (OfInode node.ino)) key) (option_map (λ l. l.node) o)
      by_slot None e = refl
      by_slot (Some l) e =
          sym (ap (λ o. option_and_then (λ l. (joint_of order.Inode l).next) o) e)
          ∙ next_is t is (OfInode l.node.ino) key (ap (λ o. option_map_or (belongs (OfInode l.node.ino)) (option_map (λ l. l.node) o) false) e ∙ eq-eqb l.node.ino.0 l.node.ino.0 refl)

  pub next_of_the_client : (t : Lists T) (ends : Ends) (key : ℕ) → IsLists t → next_at t.slots ends order.Client (Some key) ≡ option_and_then (λ node. key_after (keys t (OfClient node.client)) key) (node_at t key)
  next_of_the_client t ends key is = by_slot (linked_at t.slots key) refl
    where
      by_slot : (o : Option (Linked T)) → linked_at t.slots key ≡ o → option_and_then (λ l. (joint_of order.Client l).next) o ≡ option_and_then (λ node. key_after (keys t (OfClient node.client)) key) (option_map (λ l. l.node) o)
      by_slot None e = refl
      by_slot (Some l) e =
          sym (ap (λ o. option_and_then (λ l. (joint_of order.Client l).next) o) e)
          ∙ next_is t is (OfClient l.node.client) key (ap (λ o. option_map_or (belongs (OfClient l.node.client)) (option_map (λ l. l.node) o) false) e ∙ eq-eqb l.node.client.0 l.node.client.0 refl)

  pub next_of_recall : (t : Lists T) (ends : Ends) (key : ℕ) → IsLists t → next_at t.slots ends order.Recall (Some key) ≡ key_after (keys t OfRecall) key
  next_of_recall t ends key is = by_slot (linked_at t.slots key) refl
    where
      by_slot : (o : Option (Linked T)) → linked_at t.slots key ≡ o → next_at t.slots ends order.Recall (Some key) ≡ key_after (keys t OfRecall) key
      by_slot None e =
          ap (λ o. option_and_then (λ l. (joint_of order.Recall l).next) o) e
          ∙ sym (none_after (keys t OfRecall) key ((is.lists OfRecall).nodes key ∙ ap (λ o. option_map_or (belongs OfRecall) (option_map (λ l. l.node) o) false) e))
      by_slot (Some l) e = next_is t is OfRecall key (ap (λ o. option_map_or (belongs OfRecall) (option_map (λ l. l.node) o) false) e)
