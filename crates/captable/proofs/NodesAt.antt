-- The nodes of some keys: what is found among them, and what a change of one node makes of them.
use Rattle.std.proofs.Common.{◌≡◌, ℕ, Bool, true, false, not, cond, ◌||◌, Option, Some, None, IsSome, List, [], ◌∷◌, ◌++◌, map, filter, length, refl, sym, ap}
use Rattle.std.proofs.Common.{subst, ◌∙◌, nat_eq, slice_get, suc}
use Rattle.std.specs.List.{AllByRecursion, IsDistinct, find}
use Rattle.std.specs.Option.{option_and_then, option_map}
use Rattle.std.specs.Cmp.{nat_eq_equiv}
use Rattle.std.proofs.lemmas.Bool.{eq-eqb, eqb-true, or_right}
use Rattle.cap_arena.specs.declared.nodes.Node.{Node}
use Rattle.cap_arena.specs.Walks.{is_among, key_after}
use Rattle.cap_arena.specs.Calls.{keys_without}
use Rattle.captable.specs.declared.entry.Holder.{Holder}
use Rattle.captable.specs.declared.entry.Entry.{Entry}
use Rattle.captable.specs.declared.entry.Slot.{Slot}
use Rattle.captable.specs.Table.{is_row_of, same}
use Rattle.captable.specs.Calls.{newer_in}
use Rattle.captable.specs.Nodes.{holder_of, node_with_entry, nodes_at, row_of, with_first}
use Rattle.captable.specs.Walks.{IsPlaceIn}

-- the node of a holder
abbrev pub is_held_by : Holder → Node Slot → Bool
is_held_by h m = same h (holder_of m)

-- the holder has this key alone
pub record IsHeld (at : ℕ → Option (Node Slot)) (h : Holder) (key : ℕ) (node : Node Slot) : Type 0 where
  pub there : at key ≡ Some node
  pub alone : (k : ℕ) (m : Node Slot) → at k ≡ Some m → is_held_by h m ≡ nat_eq key k

-- the holder has no key
abbrev pub IsFree : (ℕ → Option (Node Slot)) → Holder → Type 0
IsFree at h = (k : ℕ) (m : Node Slot) → at k ≡ Some m → is_held_by h m ≡ false

-- each of these keys has a node
abbrev pub AllHave : (ℕ → Option (Node Slot)) → List ℕ → Type 0
AllHave at ks = (k : ℕ) → is_among ks k ≡ true → IsSome (at k)

pub head_in : (k : ℕ) (ks : List ℕ) → is_among (k ∷ ks) k ≡ true
head_in k ks = ap (λ b. b || is_among ks k) (eq-eqb k k refl)

pub rest_in : (k : ℕ) (ks : List ℕ) (j : ℕ) → is_among ks j ≡ true → is_among (k ∷ ks) j ≡ true
rest_in k ks j there = or_right (nat_eq j k) (is_among ks j) there

-- the first key is a place in the list, and so is the end
pub place-first : (ks : List ℕ) (o : Option ℕ) → o ≡ slice_get ks 0 → IsPlaceIn ks o
place-first [] None first = tt
place-first [] (Some k) first = absurd (cc)
place-first (k ∷ ks) None first = tt
place-first (k ∷ ks) (Some j) first = (let same : j ≡ k = cc in ap (is_among (k ∷ ks)) same ∙ head_in k ks)

first-append : (o : Option (Node Slot)) (xs ys : List (Node Slot)) → with_first o (xs ++ ys) ≡ with_first o xs ++ ys
first-append None xs ys = refl
first-append (Some m) xs ys = refl

pub nodes-append : (at : ℕ → Option (Node Slot)) (ks js : List ℕ) → nodes_at at (ks ++ js) ≡ nodes_at at ks ++ nodes_at at js
nodes-append at [] js = refl
nodes-append at (k ∷ ks) js = ap (with_first (at k)) (nodes-append at ks js) ∙ first-append (at k) (nodes_at at ks) (nodes_at at js)

-- keys that lead to the same
pub nodes-same : (at at' : ℕ → Option (Node Slot)) (ks : List ℕ) → ((k : ℕ) → is_among ks k ≡ true → at' k ≡ at k) → nodes_at at' ks ≡ nodes_at at ks
nodes-same at at' [] alike = refl
nodes-same at at' (k ∷ ks) alike =
    let first : at' k ≡ at k = alike k (head_in k ks) in
    let rest : nodes_at at' ks ≡ nodes_at at ks = nodes-same at at' ks (λ j there. alike j (rest_in k ks j there)) in
    λ i. with_first (first i) (rest i)

pub length-nodes : (at : ℕ → Option (Node Slot)) (ks : List ℕ) → AllHave at ks → length (nodes_at at ks) ≡ length ks
length-nodes at [] have = refl
length-nodes at (k ∷ ks) have = by_node (at k) (have k (head_in k ks)) (length-nodes at ks (λ j there. have j (rest_in k ks j there)))
  where
    by_node : (o : Option (Node Slot)) → IsSome o → length (nodes_at at ks) ≡ length ks → length (with_first o (nodes_at at ks)) ≡ suc (length ks)
    by_node None some rest = absurd (cc)
    by_node (Some m) some rest = ap suc rest

-- the first holder
pub first-held : (at : ℕ → Option (Node Slot)) (ks : List ℕ) → AllHave at ks → slice_get (map holder_of (nodes_at at ks)) 0 ≡ option_and_then (λ k. option_map holder_of (at k)) (slice_get ks 0)
first-held at [] have = refl
first-held at (k ∷ ks) have = by_node (at k) refl
  where
    by_node : (o : Option (Node Slot)) → at k ≡ o → slice_get (map holder_of (with_first (at k) (nodes_at at ks))) 0 ≡ option_map holder_of (at k)
    by_node None e = absurd (let some : IsSome (at k) = have k (head_in k ks) in cc)
    by_node (Some m) e = ap (λ o. slice_get (map holder_of (with_first o (nodes_at at ks))) 0) e ∙ sym (ap (option_map holder_of) e)

module _ (at : ℕ → Option (Node Slot)) (h : Holder) (key : ℕ) (n : Node Slot) (held : IsHeld at h key n) where
  -- ---- lookups

  pub find-held : (ks : List ℕ) → is_among ks key ≡ true → find (is_row_of h) (map row_of (nodes_at at ks)) ≡ Some (row_of n)
  find-held [] there = absurd (cc)
  find-held (k ∷ ks) there = by_key (nat_eq key k) refl (at k) refl there (find-held ks)
    where
      by_key : (b : Bool) → nat_eq key k ≡ b → (o : Option (Node Slot)) → at k ≡ o → (b || is_among ks key) ≡ true
          → (is_among ks key ≡ true → find (is_row_of h) (map row_of (nodes_at at ks)) ≡ Some (row_of n)) → find (is_row_of h) (map row_of (with_first (at k) (nodes_at at ks))) ≡ Some (row_of n)
      by_key true is o e there rest =
          let same_key : key ≡ k = eqb-true key k is in
          let node : at k ≡ Some n = ap at (sym same_key) ∙ held.there in
          ap (λ o. find (is_row_of h) (map row_of (with_first o (nodes_at at ks)))) node
          ∙ ap (λ b. cond b (Some (row_of n)) (find (is_row_of h) (map row_of (nodes_at at ks)))) (held.alone k n node ∙ is)
      by_key false is None e there rest = ap (λ o. find (is_row_of h) (map row_of (with_first o (nodes_at at ks)))) e ∙ rest there
      by_key false is (Some m) e there rest =
          ap (λ o. find (is_row_of h) (map row_of (with_first o (nodes_at at ks)))) e
          ∙ ap (λ b. cond b (Some (row_of m)) (find (is_row_of h) (map row_of (nodes_at at ks)))) (held.alone k m e ∙ is)
          ∙ rest there

  -- ---- changes

  -- without the node
  pub nodes-removed : (at' : ℕ → Option (Node Slot)) → ((k : ℕ) → nat_eq key k ≡ false → at' k ≡ at k) → (ks : List ℕ)
      → nodes_at at' (keys_without ks key) ≡ filter (λ m. not (is_held_by h m)) (nodes_at at ks)
  nodes-removed at' others [] = refl
  nodes-removed at' others (k ∷ ks) = by_key (nat_eq key k) refl (at k) refl (nodes-removed at' others ks)
    where
      by_key : (b : Bool) → nat_eq key k ≡ b → (o : Option (Node Slot)) → at k ≡ o → nodes_at at' (keys_without ks key) ≡ filter (λ m. not (is_held_by h m)) (nodes_at at ks)
          → nodes_at at' (cond (not b) (k ∷ keys_without ks key) (keys_without ks key)) ≡ filter (λ m. not (is_held_by h m)) (with_first (at k) (nodes_at at ks))
      by_key true is None e rest = rest ∙ sym (ap (λ o. filter (λ m. not (is_held_by h m)) (with_first o (nodes_at at ks))) e)
      by_key true is (Some m) e rest =
          let kept = filter (λ m. not (is_held_by h m)) (nodes_at at ks) in
          rest ∙ sym (ap (λ o. filter (λ m. not (is_held_by h m)) (with_first o (nodes_at at ks))) e ∙ ap (λ b. cond (not b) (m ∷ kept) kept) (held.alone k m e ∙ is))
      by_key false is None e rest =
          ap (λ o. with_first o (nodes_at at' (keys_without ks key))) (others k is ∙ e) ∙ rest
          ∙ sym (ap (λ o. filter (λ m. not (is_held_by h m)) (with_first o (nodes_at at ks))) e)
      by_key false is (Some m) e rest =
          let kept = filter (λ m. not (is_held_by h m)) (nodes_at at ks) in
          ap (λ o. with_first o (nodes_at at' (keys_without ks key))) (others k is ∙ e) ∙ ap (λ ms. m ∷ ms) rest
          ∙ sym (ap (λ o. filter (λ m. not (is_held_by h m)) (with_first o (nodes_at at ks))) e ∙ ap (λ b. cond (not b) (m ∷ kept) kept) (held.alone k m e ∙ is))

  -- the node alone
  nodes-others : (ks : List ℕ) → AllByRecursion (λ k. nat_eq key k ≡ false) ks → filter (is_held_by h) (nodes_at at ks) ≡ []
  nodes-others [] apart = refl
  nodes-others (k ∷ ks) apart = by_node (at k) refl (nodes-others ks apart.1)
    where
      by_node : (o : Option (Node Slot)) → at k ≡ o → filter (is_held_by h) (nodes_at at ks) ≡ [] → filter (is_held_by h) (with_first (at k) (nodes_at at ks)) ≡ []
      by_node None e rest = ap (λ o. filter (is_held_by h) (with_first o (nodes_at at ks))) e ∙ rest
      by_node (Some m) e rest =
          ap (λ o. filter (is_held_by h) (with_first o (nodes_at at ks))) e
          ∙ ap (λ b. cond b (m ∷ filter (is_held_by h) (nodes_at at ks)) (filter (is_held_by h) (nodes_at at ks))) (held.alone k m e ∙ apart.0) ∙ rest

  pub nodes-one : (ks : List ℕ) → IsDistinct nat_eq ks → is_among ks key ≡ true → filter (is_held_by h) (nodes_at at ks) ≡ n ∷ []
  unfolding IsDistinct
  nodes-one [] once there = absurd (cc)
  nodes-one (k ∷ ks) once there = by_key (nat_eq key k) refl (at k) refl there once.0 (nodes-one ks once.1)
    where
      by_key : (b : Bool) → nat_eq key k ≡ b → (o : Option (Node Slot)) → at k ≡ o → (b || is_among ks key) ≡ true → AllByRecursion (λ j. nat_eq k j ≡ false) ks
          → (is_among ks key ≡ true → filter (is_held_by h) (nodes_at at ks) ≡ n ∷ []) → filter (is_held_by h) (with_first (at k) (nodes_at at ks)) ≡ n ∷ []
      by_key true is o e there apart rest =
          let same_key : key ≡ k = eqb-true key k is in
          let node : at k ≡ Some n = ap at (sym same_key) ∙ held.there in
          let none : filter (is_held_by h) (nodes_at at ks) ≡ [] = nodes-others ks (subst (λ q. AllByRecursion (λ j. nat_eq q j ≡ false) ks) (sym same_key) apart) in
          ap (λ o. filter (is_held_by h) (with_first o (nodes_at at ks))) node
          ∙ ap (λ b. cond b (n ∷ filter (is_held_by h) (nodes_at at ks)) (filter (is_held_by h) (nodes_at at ks))) (held.alone k n node ∙ is) ∙ ap (λ ms. n ∷ ms) none
      by_key false is None e there apart rest = ap (λ o. filter (is_held_by h) (with_first o (nodes_at at ks))) e ∙ rest there
      by_key false is (Some m) e there apart rest =
          ap (λ o. filter (is_held_by h) (with_first o (nodes_at at ks))) e
          ∙ ap (λ b. cond b (m ∷ filter (is_held_by h) (nodes_at at ks)) (filter (is_held_by h) (nodes_at at ks))) (held.alone k m e ∙ is) ∙ rest there

  -- the holder after one
  pub newer-held : (ks : List ℕ) → AllHave at ks → newer_in (map holder_of (nodes_at at ks)) h ≡ option_and_then (λ k. option_map holder_of (at k)) (key_after ks key)
  newer-held [] have = refl
  newer-held (k ∷ ks) have = by_key (nat_eq key k) refl (at k) refl (newer-held ks (λ j there. have j (rest_in k ks j there)))
    where
      after : (js : List ℕ) → AllHave at js → slice_get (map holder_of (nodes_at at js)) 0 ≡ option_and_then (λ k. option_map holder_of (at k)) (slice_get js 0)
      after js all = first-held at js all

      by_key : (b : Bool) → nat_eq key k ≡ b → (o : Option (Node Slot)) → at k ≡ o → newer_in (map holder_of (nodes_at at ks)) h ≡ option_and_then (λ k. option_map holder_of (at k)) (key_after ks key)
          → newer_in (map holder_of (with_first (at k) (nodes_at at ks))) h ≡ option_and_then (λ k. option_map holder_of (at k)) (cond b (slice_get ks 0) (key_after ks key))
      by_key b is None e rest = absurd (let some : IsSome (at k) = have k (head_in k ks) in cc)
      by_key true is (Some m) e rest =
          ap (λ o. newer_in (map holder_of (with_first o (nodes_at at ks))) h) e
          ∙ ap (λ b. cond b (slice_get (map holder_of (nodes_at at ks)) 0) (newer_in (map holder_of (nodes_at at ks)) h)) (held.alone k m e ∙ is)
          ∙ after ks (λ j there. have j (rest_in k ks j there))
      by_key false is (Some m) e rest =
          ap (λ o. newer_in (map holder_of (with_first o (nodes_at at ks))) h) e
          ∙ ap (λ b. cond b (slice_get (map holder_of (nodes_at at ks)) 0) (newer_in (map holder_of (nodes_at at ks)) h)) (held.alone k m e ∙ is)
          ∙ rest

-- the node is another
abbrev pub change_in : Holder → (Node Slot → Node Slot) → Node Slot → Node Slot
change_in h g m = cond (is_held_by h m) (g m) m

-- it has another entry
abbrev pub set_in : Holder → Entry → Node Slot → Node Slot
set_in h e = change_in h (node_with_entry e)

pub nodes-changed : (at at' : ℕ → Option (Node Slot)) (h : Holder) (key : ℕ) (n : Node Slot) (g : Node Slot → Node Slot) → IsHeld at h key n
    → ((k : ℕ) → at' k ≡ cond (nat_eq k key) (option_map g (at k)) (at k)) → (ks : List ℕ) → nodes_at at' ks ≡ map (change_in h g) (nodes_at at ks)
nodes-changed at at' h key n g held set [] = refl
nodes-changed at at' h key n g held set (k ∷ ks) = by_node (at k) refl (nodes-changed at at' h key n g held set ks)
  where
    split : (b : Bool) (m : Node Slot) → with_first (cond b (Some (g m)) (Some m)) (nodes_at at' ks) ≡ cond b (g m) m ∷ nodes_at at' ks
    split true m = refl
    split false m = refl

    either : (b : Bool) (o : Option (Node Slot)) → cond b o o ≡ o
    either true o = refl
    either false o = refl

    by_node : (o : Option (Node Slot)) → at k ≡ o → nodes_at at' ks ≡ map (change_in h g) (nodes_at at ks) → with_first (at' k) (nodes_at at' ks) ≡ map (change_in h g) (with_first (at k) (nodes_at at ks))
    by_node None e rest =
        ap (λ o. with_first o (nodes_at at' ks)) (set k ∙ ap (λ o. cond (nat_eq k key) (option_map g o) o) e ∙ either (nat_eq k key) None) ∙ rest
        ∙ sym (ap (λ o. map (change_in h g) (with_first o (nodes_at at ks))) e)
    by_node (Some m) e rest =
        ap (λ o. with_first o (nodes_at at' ks)) (set k ∙ ap (λ o. cond (nat_eq k key) (option_map g o) o) e) ∙ split (nat_eq k key) m
        ∙ ap (λ b. cond b (g m) m ∷ nodes_at at' ks) (nat_eq_equiv.symm k key ∙ sym (held.alone k m e)) ∙ ap (λ ms. change_in h g m ∷ ms) rest
        ∙ sym (ap (λ o. map (change_in h g) (with_first o (nodes_at at ks))) e)

pub nodes-set : (at at' : ℕ → Option (Node Slot)) (h : Holder) (key : ℕ) (n : Node Slot) (x : Entry) → IsHeld at h key n
    → ((k : ℕ) → at' k ≡ cond (nat_eq k key) (option_map (node_with_entry x) (at k)) (at k)) → (ks : List ℕ) → nodes_at at' ks ≡ map (set_in h x) (nodes_at at ks)
nodes-set at at' h key n x held set ks = nodes-changed at at' h key n (node_with_entry x) held set ks

-- ---- a holder with no key

module _ (at : ℕ → Option (Node Slot)) (h : Holder) (free : IsFree at h) where
  pub find-free : (ks : List ℕ) → find (is_row_of h) (map row_of (nodes_at at ks)) ≡ None
  find-free [] = refl
  find-free (k ∷ ks) = by_node (at k) refl (find-free ks)
    where
      by_node : (o : Option (Node Slot)) → at k ≡ o → find (is_row_of h) (map row_of (nodes_at at ks)) ≡ None → find (is_row_of h) (map row_of (with_first (at k) (nodes_at at ks))) ≡ None
      by_node None e rest = ap (λ o. find (is_row_of h) (map row_of (with_first o (nodes_at at ks)))) e ∙ rest
      by_node (Some m) e rest =
          ap (λ o. find (is_row_of h) (map row_of (with_first o (nodes_at at ks)))) e
          ∙ ap (λ b. cond b (Some (row_of m)) (find (is_row_of h) (map row_of (nodes_at at ks)))) (free k m e) ∙ rest

  pub newer-free : (ks : List ℕ) → newer_in (map holder_of (nodes_at at ks)) h ≡ None
  newer-free [] = refl
  newer-free (k ∷ ks) = by_node (at k) refl (newer-free ks)
    where
      by_node : (o : Option (Node Slot)) → at k ≡ o → newer_in (map holder_of (nodes_at at ks)) h ≡ None → newer_in (map holder_of (with_first (at k) (nodes_at at ks))) h ≡ None
      by_node None e rest = ap (λ o. newer_in (map holder_of (with_first o (nodes_at at ks))) h) e ∙ rest
      by_node (Some m) e rest =
          ap (λ o. newer_in (map holder_of (with_first o (nodes_at at ks))) h) e
          ∙ ap (λ b. cond b (slice_get (map holder_of (nodes_at at ks)) 0) (newer_in (map holder_of (nodes_at at ks)) h)) (free k m e) ∙ rest
