-- The first holders in the order of recall, and their entries, which are asked one after another.
use Rattle.std.proofs.Common.{◌≡◌, ℕ, ◌<◌, ◌≤◌, false, Option, Some, None, IsSome, List, [], ◌∷◌, ◌++◌, map, take, length, slice_get, sym, ap, subst, ◌∙◌}
use Rattle.std.proofs.Common.{arith, append_assoc, append-nil, zero, suc}
use Rattle.std.specs.List.{AllByRecursion, IsDistinct, fold}
use Rattle.std.specs.Option.{option_map}
use Rattle.std.proofs.lemmas.List.{take_all, take_at}
use Rattle.cap_arena.specs.declared.nodes.Node.{Node}
use Rattle.cap_arena.specs.Walks.{key_after}
use Rattle.cap_arena.specs.Lists.{IsLists, Lists, OfRecall, keys, node_at}
use Rattle.captable.specs.declared.entry.Holder.{Holder}
use Rattle.captable.specs.declared.entry.Slot.{Slot}
use Rattle.captable.specs.Table.{IsTable, Table, same}
use Rattle.captable.specs.Calls.{recalled}
use Rattle.captable.specs.Many.{asking, changed_by}
use Rattle.captable.specs.Nodes.{holder_of, nodes_at, nodes_in, with_first}
use Rattle.captable.specs.Walks.{IsPlaceIn, keys_from, keys_on}
use Rattle.captable.proofs.Keeping.{all_have}
use Rattle.captable.proofs.OneByOne.{fold-changed_by}
use Rattle.captable.proofs.WalkOn.{after-in, first-in, from-first, keys-next}

abbrev holders_at : Lists Slot → List ℕ → List Holder
holders_at t ks = map holder_of (nodes_at (node_at t) ks)

-- these are the first holders in the order of recall, and the place comes next
pub record AreFirst (t : Lists Slot) (named : List Holder) (place : Option ℕ) : Type 0 where
  pub there : IsPlaceIn (keys t OfRecall) place
  pub whole : named ++ holders_at t (keys_from (keys t OfRecall) place) ≡ holders_at t (keys t OfRecall)

-- before the first one
pub first-none : {t : Lists Slot} {named : List Holder} {place : Option ℕ} → named ≡ [] → place ≡ slice_get (keys t OfRecall) 0 → AreFirst t named place
first-none {t} {named} {place} none is =
    let ks : List ℕ = keys t OfRecall in
    record {
      there = subst (IsPlaceIn ks) (sym is) (first-in ks);
      whole = ap (λ hs. hs ++ holders_at t (keys_from ks place)) none ∙ ap (holders_at t) (ap (keys_from ks) is ∙ from-first ks);
    }

module _ {t : Lists Slot} (sound : IsLists t) {named : List Holder} {place : Option ℕ} {key : ℕ} (at : place ≡ Some key) (first : AreFirst t named place) where
  here : AreFirst t named (Some key)
  here = subst (AreFirst t named) at first

  from-key : keys_on (keys t OfRecall) key ≡ key ∷ keys_from (keys t OfRecall) (key_after (keys t OfRecall) key)
  from-key = keys-next (keys t OfRecall) key (sound.lists OfRecall).once here.there

  -- there is a node
  pub first-there : option_map holder_of (node_at t key) ≡ None → ⊥
  first-there none = by_node (node_at t key) (all_have t sound OfRecall key here.there) none
    where
      by_node : (o : Option (Node Slot)) → IsSome o → option_map holder_of o ≡ None → ⊥
      by_node None some e = absurd (cc)
      by_node (Some n) some e = absurd (cc)

  -- one more
  pub first-more : (h : Holder) → option_map holder_of (node_at t key) ≡ Some h → {next : Option ℕ} → next ≡ key_after (keys t OfRecall) key → AreFirst t (named ++ h ∷ []) next
  first-more h found {next} next_is =
      let ks : List ℕ = keys t OfRecall in
      let behind : List ℕ = keys_from ks (key_after ks key) in
      let step : holders_at t (keys_on ks key) ≡ h ∷ holders_at t behind = ap (holders_at t) from-key ∙ by_node (node_at t key) behind found in
      subst (AreFirst t (named ++ h ∷ [])) (sym next_is) (record {
        there = after-in ks key;
        whole = append_assoc named (h ∷ []) (holders_at t behind) ∙ ap (λ hs. named ++ hs) (sym step) ∙ here.whole;
      })
    where
      by_node : (o : Option (Node Slot)) (ks : List ℕ) → option_map holder_of o ≡ Some h → map holder_of (with_first o (nodes_at (node_at t) ks)) ≡ h ∷ holders_at t ks
      by_node None ks e = absurd (cc)
      by_node (Some n) ks e = let is : holder_of n ≡ h = cc in ap (λ x. x ∷ holders_at t ks) is

  -- fewer are left
  pub first-less : {next : Option ℕ} → next ≡ key_after (keys t OfRecall) key → length (keys_from (keys t OfRecall) next) < length (keys_from (keys t OfRecall) place)
  first-less {next} next_is =
      let ks : List ℕ = keys t OfRecall in
      let start : length (keys_from ks place) ≡ length (keys_on ks key) = ap (λ o. length (keys_from ks o)) at in
      let behind : length (keys_from ks next) ≡ length (keys_from ks (key_after ks key)) = ap (λ o. length (keys_from ks o)) next_is in
      omega (arith, start, ap length from-key, behind)

module _ {t : Lists Slot} {named : List Holder} {place : Option ℕ} (first : AreFirst t named place) (n : ℕ) where
  -- enough
  pub first-full : length named ≡ n → named ≡ take n (map holder_of (nodes_in t OfRecall))
  first-full full = sym (take_at named (holders_at t (keys_from (keys t OfRecall) place)) n full) ∙ ap (take n) first.whole

  -- no more
  pub first-all : place ≡ None → length named ≤ n → named ≡ take n (map holder_of (nodes_in t OfRecall))
  first-all end few =
      let whole : named ≡ holders_at t (keys t OfRecall) = sym (append-nil named) ∙ (subst (AreFirst t named) end first).whole in
      sym (take_all n named few) ∙ ap (take n) whole

apart-take : (k : Holder) (n : ℕ) (hs : List Holder) → AllByRecursion (λ h. same k h ≡ false) hs → AllByRecursion (λ h. same k h ≡ false) (take n hs)
apart-take k zero hs all = tt
apart-take k (suc n) [] all = tt
apart-take k (suc n) (h ∷ hs) all = (all.0, apart-take k n hs all.1)

distinct-take : (n : ℕ) (hs : List Holder) → IsDistinct same hs → IsDistinct same (take n hs)
unfolding IsDistinct
distinct-take zero hs once = tt
distinct-take (suc n) [] once = tt
distinct-take (suc n) (h ∷ hs) once = (apart-take h n hs once.0, distinct-take n hs once.1)

-- the first ones are asked
pub fold-asked : (t : Table) (n : ℕ) → IsTable t → fold (changed_by asking) t (take n t.recall) ≡ recalled t n
fold-asked t n is = fold-changed_by asking t (take n t.recall) is (distinct-take n t.recall is.one_recall)
