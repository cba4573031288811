-- The rows from a place of a list on.
use Rattle.std.proofs.Common.{◌≡◌, ℕ, Bool, true, false, cond, ◌||◌, Option, Some, None, List, [], ◌∷◌, map, is_some, refl, sym, ap, ◌∙◌, nat_eq, slice_get}
use Rattle.std.specs.List.{AllByRecursion, IsDistinct, list_any}
use Rattle.std.specs.Option.{option_and_then, option_map_or}
use Rattle.std.specs.Cmp.{nat_eq_equiv}
use Rattle.std.proofs.lemmas.Bool.{eq-eqb, eqb-true}
use Rattle.capbits.specs.declared.ids.ClientId.{ClientId}
use Rattle.capbits.specs.declared.ids.Ino.{Ino}
use Rattle.cap_arena.specs.declared.nodes.Node.{Node}
use Rattle.cap_arena.specs.Walks.{is_among, key_after}
use Rattle.cap_arena.specs.Lists.{IsLists, ListName, Lists, OfClient, OfInode, belongs, keys, node_at}
use Rattle.captable.specs.declared.entry.Slot.{Slot}
use Rattle.captable.specs.Nodes.{kept_entry_of, nodes_at, nodes_in, row_of, with_first}
use Rattle.captable.specs.Walks.{IsPlaceIn, kept_from, keys_from, keys_on, rows_from}
use Rattle.captable.proofs.NodesAt.{head_in, rest_in}

-- ---- keys

-- the key after one is a key
pub after-in : (ks : List ℕ) (key : ℕ) → IsPlaceIn ks (key_after ks key)
after-in [] key = tt
after-in (k ∷ ks) key = by_test (nat_eq key k) (after-in ks key)
  where
    wider : (o : Option ℕ) → IsPlaceIn ks o → IsPlaceIn (k ∷ ks) o
    wider None there = tt
    wider (Some j) there = rest_in k ks j there

    first : (js : List ℕ) → IsPlaceIn js (slice_get js 0)
    first [] = tt
    first (j ∷ js) = head_in j js

    by_test : (b : Bool) → IsPlaceIn ks (key_after ks key) → IsPlaceIn (k ∷ ks) (cond b (slice_get ks 0) (key_after ks key))
    by_test true there = wider (slice_get ks 0) (first ks)
    by_test false there = wider (key_after ks key) there

pub apart-from : (k : ℕ) (ks : List ℕ) (j : ℕ) → AllByRecursion (λ q. nat_eq k q ≡ false) ks → is_among ks j ≡ true → nat_eq j k ≡ false
apart-from k [] j apart there = absurd (cc)
apart-from k (q ∷ ks) j apart there = by_test (nat_eq j q) refl there (apart-from k ks j apart.1)
  where
    by_test : (b : Bool) → nat_eq j q ≡ b → (b || is_among ks j) ≡ true → (is_among ks j ≡ true → nat_eq j k ≡ false) → nat_eq j k ≡ false
    by_test true e there rest = ap (λ x. nat_eq x k) (eqb-true j q e) ∙ nat_eq_equiv.symm q k ∙ apart.0
    by_test false e there rest = rest there

-- behind the first key, the keys from a place on are the same
skip-first : (k : ℕ) (ks : List ℕ) (o : Option ℕ) → AllByRecursion (λ q. nat_eq k q ≡ false) ks → IsPlaceIn ks o → keys_from (k ∷ ks) o ≡ keys_from ks o
skip-first k ks None apart there = refl
skip-first k ks (Some j) apart there = ap (λ b. cond b (k ∷ ks) (keys_on ks j)) (apart-from k ks j apart there)

pub from-first : (ks : List ℕ) → keys_from ks (slice_get ks 0) ≡ ks
from-first [] = refl
from-first (k ∷ ks) = ap (λ b. cond b (k ∷ ks) (keys_on ks k)) (eq-eqb k k refl)

pub first-in : (ks : List ℕ) → IsPlaceIn ks (slice_get ks 0)
first-in [] = tt
first-in (k ∷ ks) = head_in k ks

pub keys-next : (ks : List ℕ) (key : ℕ) → IsDistinct nat_eq ks → is_among ks key ≡ true → keys_on ks key ≡ key ∷ keys_from ks (key_after ks key)
unfolding IsDistinct
keys-next [] key once there = absurd (cc)
keys-next (k ∷ ks) key once there = by_test (nat_eq key k) refl there (keys-next ks key once.1) once.0
  where
    by_test : (b : Bool) → nat_eq key k ≡ b → (b || is_among ks key) ≡ true → (is_among ks key ≡ true → keys_on ks key ≡ key ∷ keys_from ks (key_after ks key)) → AllByRecursion (λ q. nat_eq k q ≡ false) ks
        → cond b (k ∷ ks) (keys_on ks key) ≡ key ∷ keys_from (k ∷ ks) (cond b (slice_get ks 0) (key_after ks key))
    by_test true e there rest apart =
        let tail : keys_from (k ∷ ks) (slice_get ks 0) ≡ ks = skip-first k ks (slice_get ks 0) apart (first-in ks) ∙ from-first ks in
        λ i. sym (eqb-true key k e) i ∷ sym tail i
    by_test false e there rest apart = rest there ∙ ap (λ js. key ∷ js) (sym (skip-first k ks (key_after ks key) apart (after-in ks key)))

-- ---- rows

module _ (t : Lists Slot) (is : IsLists t) where
  -- the node, and those behind it
  nodes-next : (name : ListName) (key : ℕ) (n : Node Slot) → node_at t key ≡ Some n → is_among (keys t name) key ≡ true
      → nodes_at (node_at t) (keys_from (keys t name) (Some key)) ≡ n ∷ nodes_at (node_at t) (keys_from (keys t name) (key_after (keys t name) key))
  nodes-next name key n there listed =
      let behind = keys_from (keys t name) (key_after (keys t name) key) in
      ap (nodes_at (node_at t)) (keys-next (keys t name) key (is.lists name).once listed) ∙ ap (λ o. with_first o (nodes_at (node_at t) behind)) there

  -- its row, and theirs
  pub rows-next : (name : ListName) (key : ℕ) (n : Node Slot) → node_at t key ≡ Some n → is_among (keys t name) key ≡ true
      → rows_from t name (Some key) ≡ row_of n ∷ rows_from t name (key_after (keys t name) key)
  rows-next name key n there listed = ap (map row_of) (nodes-next name key n there listed)

  -- and with what is kept beside them
  pub kept-next : (name : ListName) (key : ℕ) (n : Node Slot) → node_at t key ≡ Some n → is_among (keys t name) key ≡ true
      → kept_from t name (Some key) ≡ kept_entry_of n ∷ kept_from t name (key_after (keys t name) key)
  kept-next name key n there listed = ap (map kept_entry_of) (nodes-next name key n there listed)

  -- the node of a key of the list belongs into it
  pub of-list : (name : ListName) (key : ℕ) (n : Node Slot) → node_at t key ≡ Some n → is_among (keys t name) key ≡ true → belongs name n ≡ true
  of-list name key n there listed = sym (ap (λ o. option_map_or (belongs name) o false) there) ∙ sym ((is.lists name).nodes key) ∙ listed

  pub next-of-inode : (ino : Ino) (key : ℕ) (n : Node Slot) → node_at t key ≡ Some n → is_among (keys t (OfInode ino)) key ≡ true
      → option_and_then (λ (node : Node Slot). key_after (keys t (OfInode node.ino)) key) (node_at t key) ≡ key_after (keys t (OfInode ino)) key
  next-of-inode ino key n there listed =
      let same : n.ino.0 ≡ ino.0 = eqb-true n.ino.0 ino.0 (of-list (OfInode ino) key n there listed) in
      ap (λ o. option_and_then (λ (node : Node Slot). key_after (keys t (OfInode node.ino)) key) o) there
      ∙ (λ i. key_after (keys t (OfInode (record { 0 = same i }))) key)

  pub next-of-client : (client : ClientId) (key : ℕ) (n : Node Slot) → node_at t key ≡ Some n → is_among (keys t (OfClient client)) key ≡ true
      → option_and_then (λ (node : Node Slot). key_after (keys t (OfClient node.client)) key) (node_at t key) ≡ key_after (keys t (OfClient client)) key
  next-of-client client key n there listed =
      let same : n.client.0 ≡ client.0 = eqb-true n.client.0 client.0 (of-list (OfClient client) key n there listed) in
      ap (λ o. option_and_then (λ (node : Node Slot). key_after (keys t (OfClient node.client)) key) o) there
      ∙ (λ i. key_after (keys t (OfClient (record { 0 = same i }))) key)

  -- where the key is known to be in the list
  pub next-listed : (client : ClientId) (key : ℕ) → is_among (keys t (OfClient client)) key ≡ true
      → option_and_then (λ (node : Node Slot). key_after (keys t (OfClient node.client)) key) (node_at t key) ≡ key_after (keys t (OfClient client)) key
  next-listed client key listed = by_node (node_at t key) refl
    where
      by_node : (o : Option (Node Slot)) → node_at t key ≡ o → option_and_then (λ (node : Node Slot). key_after (keys t (OfClient node.client)) key) (node_at t key) ≡ key_after (keys t (OfClient client)) key
      by_node None e =
          let none : is_among (keys t (OfClient client)) key ≡ false = (is.lists (OfClient client)).nodes key ∙ ap (λ o. option_map_or (belongs (OfClient client)) o false) e in
          absurd (cc)
      by_node (Some n) e = next-of-client client key n e listed

  -- a list with a first key has a row
  pub some-first : (name : ListName) → is_some (slice_get (keys t name) 0) ≡ list_any (λ _. true) (map row_of (nodes_in t name))
  some-first name = by_keys (keys t name) (is.lists name).nodes
    where
      by_keys : (ks : List ℕ) → ((key : ℕ) → is_among ks key ≡ option_map_or (belongs name) (node_at t key) false) → is_some (slice_get ks 0) ≡ list_any (λ _. true) (map row_of (nodes_at (node_at t) ks))
      by_keys [] nodes = refl
      by_keys (key ∷ ks) nodes = by_node (node_at t key) (sym (nodes key) ∙ head_in key ks)
        where
          by_node : (o : Option (Node Slot)) → option_map_or (belongs name) o false ≡ true → true ≡ list_any (λ _. true) (map row_of (with_first o (nodes_at (node_at t) ks)))
          by_node None none = absurd (cc)
          by_node (Some n) there = refl
