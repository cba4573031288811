-- The key of a holder's node, where it is looked for along the list of the inode.
use Rattle.std.proofs.Common.{◌≡◌, ◌<◌, ◌&&◌, ℕ, Bool, true, false, Option, Some, None, ◌∷◌, length, slice_get, refl, sym, ap, subst, ◌∙◌, arith}
use Rattle.std.specs.Prelude.{◌==◌, IfNone}
use Rattle.std.specs.Option.{option_and_then, option_map, option_map_or}
use Rattle.std.proofs.lemmas.Bool.{and_from, and_parts, eq-eqb}
use Rattle.cap_arena.specs.declared.nodes.Node.{Node}
use Rattle.cap_arena.specs.Walks.{is_among, key_after}
use Rattle.cap_arena.specs.Lists.{IsLists, Lists, OfInode, belongs, keys, node_at}
use Rattle.captable.specs.declared.entry.Holder.{Holder}
use Rattle.captable.specs.declared.entry.Slot.{Slot}
use Rattle.captable.specs.Table.{same}
use Rattle.captable.specs.Nodes.{IsKeyOf, holder_of, is_key_of}
use Rattle.captable.specs.Walks.{IsPlaceIn, keys_from, keys_on}
use Rattle.captable.specs.Places.{NoneDueIn}
use Rattle.captable.proofs.Tables.{same-is}
use Rattle.captable.proofs.Orders.{on-in}
use Rattle.captable.proofs.WalkOn.{from-first, keys-next, next-of-inode}
use Rattle.captable.proofs.KeysNotDue.{none_due-next}

-- whose node it is
pub key-is : (t : Lists Slot) (h : Holder) (key : ℕ) → is_key_of t h key ≡ true → IsKeyOf t h key
key-is t h key is = by_node (node_at t key) is
  where
    by_node : (o : Option (Node Slot)) → option_map_or (λ (node : Node Slot). same h (holder_of node)) o false ≡ true → option_map holder_of o ≡ Some h
    by_node None e = absurd (cc)
    by_node (Some n) e = ap Some (sym (same-is h (holder_of n) e))

-- ---- from a place on

-- whether the key is the holder's, and comes from the place on
abbrev pub is_sought : Lists Slot → Holder → Option ℕ → ℕ → Bool
is_sought t h from key = is_among (keys_from (keys t (OfInode h.ino)) from) key && is_key_of t h key

-- no key from the place on is passed over on the way to this one
abbrev pub NoneBefore : Lists Slot → Holder → Option ℕ → Option ℕ → Type 0
NoneBefore t h from place = NoneDueIn (keys t (OfInode h.ino)) (is_sought t h from) place

module _ (t : Lists Slot) (h : Holder) (from : Option ℕ) where
  -- where the walk begins
  pub none-yet : IsPlaceIn (keys t (OfInode h.ino)) from → NoneBefore t h from from
  none-yet there = record { placed = there; later = λ key listed is. (and_parts _ _ is).0 }

  -- where it ends
  pub none-behind : (place : Option ℕ) → NoneBefore t h from place
      → IfNone place ((key : ℕ) → is_among (keys_from (keys t (OfInode h.ino)) from) key ≡ true → is_key_of t h key ≡ false)
  none-behind (Some i) none_due = tt
  none-behind None none_due = λ key there. by_test key there (is_key_of t h key) refl
    where
      from-in : (key : ℕ) (place : Option ℕ) → is_among (keys_from (keys t (OfInode h.ino)) place) key ≡ true → is_among (keys t (OfInode h.ino)) key ≡ true
      from-in key None there = absurd (cc)
      from-in key (Some i) there = on-in (keys t (OfInode h.ino)) i key there

      by_test : (key : ℕ) → is_among (keys_from (keys t (OfInode h.ino)) from) key ≡ true → (b : Bool) → is_key_of t h key ≡ b → b ≡ false
      by_test key there false e = refl
      by_test key there true e = absurd (let none = none_due.later key (from-in key from there) (and_from _ _ there e) in cc)

  module _ (sound : IsLists t) (place : Option ℕ) (key : ℕ) (at : place ≡ Some key) (none_due : NoneBefore t h from place)
      (next : Option ℕ) (next_is : next ≡ option_and_then (λ (node : Node Slot). key_after (keys t (OfInode node.ino)) key) (node_at t key)) where
    here : NoneBefore t h from (Some key)
    here = subst (NoneBefore t h from) at none_due

    listed : is_among (keys t (OfInode h.ino)) key ≡ true
    listed = here.placed

    next-key : next ≡ key_after (keys t (OfInode h.ino)) key
    next-key = next_is ∙ by_node (node_at t key) refl
      where
        by_node : (o : Option (Node Slot)) → node_at t key ≡ o
            → option_and_then (λ (node : Node Slot). key_after (keys t (OfInode node.ino)) key) (node_at t key) ≡ key_after (keys t (OfInode h.ino)) key
        by_node None e =
            let none : is_among (keys t (OfInode h.ino)) key ≡ false = (sound.lists (OfInode h.ino)).nodes key ∙ ap (λ o. option_map_or (belongs (OfInode h.ino)) o false) e in
            absurd (let there : is_among (keys t (OfInode h.ino)) key ≡ true = listed in cc)
        by_node (Some n) e = next-of-inode t sound h.ino key n e listed

    -- a node of another holder is passed over
    pub step-on : is_key_of t h key ≡ false → NoneBefore t h from next
    step-on other =
        let not_sought : is_sought t h from key ≡ false = ap (λ b. is_among (keys_from (keys t (OfInode h.ino)) from) key && b) other ∙ and_no (is_among (keys_from (keys t (OfInode h.ino)) from) key) in
        subst (NoneBefore t h from) (sym next-key)
        (none_due-next (keys t (OfInode h.ino)) (is_sought t h from) key (sound.lists (OfInode h.ino)).once not_sought here)
      where
        and_no : (b : Bool) → (b && false) ≡ false
        and_no true = refl
        and_no false = refl

    pub step-less : length (keys_from (keys t (OfInode h.ino)) next) < length (keys_from (keys t (OfInode h.ino)) place)
    step-less =
        let ks = keys t (OfInode h.ino) in
        let start : length (keys_from ks place) ≡ length (keys_on ks key) = ap (λ o. length (keys_from ks o)) at in
        let step : length (keys_on ks key) ≡ length (key ∷ keys_from ks (key_after ks key)) = ap length (keys-next ks key (sound.lists (OfInode h.ino)).once listed) in
        let behind : length (keys_from ks next) ≡ length (keys_from ks (key_after ks key)) = ap (λ o. length (keys_from ks o)) next-key in
        omega (arith, start, step, behind)

-- ---- from the first on

-- where no key from the first on is the holder's, none is
pub none-at-all : (t : Lists Slot) → IsLists t → (h : Holder) (first : Option ℕ) → first ≡ slice_get (keys t (OfInode h.ino)) 0 → (found : Option ℕ)
    → IfNone found ((key : ℕ) → is_among (keys_from (keys t (OfInode h.ino)) first) key ≡ true → is_key_of t h key ≡ false)
    → IfNone found ((key : ℕ) → is_key_of t h key ≡ false)
none-at-all t sound h first is (Some i) none = none
none-at-all t sound h first is None none = λ key. by_test key (is_key_of t h key) refl
  where
    -- the holder's key is one of the inode's list
    own : (key : ℕ) → IsKeyOf t h key → is_among (keys t (OfInode h.ino)) key ≡ true
    own key is = (sound.lists (OfInode h.ino)).nodes key ∙ by_node (node_at t key) is
      where
        by_node : (o : Option (Node Slot)) → option_map holder_of o ≡ Some h → option_map_or (belongs (OfInode h.ino)) o false ≡ true
        by_node None e = absurd (cc)
        by_node (Some n) e = let own : holder_of n ≡ h = cc in ap (λ (k : Holder). k.ino.0 == h.ino.0) own ∙ eq-eqb h.ino.0 h.ino.0 refl

    by_test : (key : ℕ) → (b : Bool) → is_key_of t h key ≡ b → b ≡ false
    by_test key false e = refl
    by_test key true e =
        let all : keys_from (keys t (OfInode h.ino)) first ≡ keys t (OfInode h.ino) = ap (keys_from (keys t (OfInode h.ino))) is ∙ from-first (keys t (OfInode h.ino)) in
        let other : is_key_of t h key ≡ false = none key (ap (λ ks. is_among ks key) all ∙ own key (key-is t h key e)) in
        absurd (cc)
