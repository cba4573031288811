-- The places that are kept, after a change of the nodes or of the places.
use Rattle.std.proofs.Common.{◌≡◌, ◌<◌, ℕ, Bool, true, false, cond, Option, Some, None, [], ◌∷◌, ◌++◌, refl, sym, ap, subst, ◌∙◌, arith, length, nat_eq}
use Rattle.std.specs.Option.{option_and_then, option_map, option_map_or}
use Rattle.std.proofs.lemmas.Bool.{eq-eqb, eqb-true}
use Rattle.capbits.specs.declared.ids.ClientId.{ClientId}
use Rattle.cap_arena.specs.declared.nodes.Node.{Node}
use Rattle.cap_arena.specs.Walks.{is_among, key_after}
use Rattle.cap_arena.specs.Calls.{Adds, Removes, Touches, keys_without}
use Rattle.cap_arena.specs.Lists.{IsLists, Lists, OfClient, belongs, keys, node_at}
use Rattle.captable.specs.declared.entry.Entry.{Entry}
use Rattle.captable.specs.declared.entry.ClientView.{ClientView}
use Rattle.captable.specs.declared.entry.Slot.{Slot}
use Rattle.captable.specs.Calls.{is_due_entry}
use Rattle.captable.specs.Nodes.{KeepsSets, SetsEntry, node_with_entry, node_with_sets}
use Rattle.captable.specs.Walks.{keys_from, keys_on}
use Rattle.captable.specs.Places.{AreInOrder, NoneDueBeforeAny, NoneDueBefore, NoneDueIn, is_before, is_due_at, lowered, moved_on, number_at, same_client}
use Rattle.captable.proofs.WalkOn.{keys-next, next-listed, of-list}
use Rattle.captable.proofs.Keeping.{is_in}
use Rattle.captable.proofs.KeysNotDue.{none_due-fewer, none_due-left, none_due-lowered, none_due-moved, none_due-next, none_due-wider}

-- whether a node's entry is due
abbrev due_of : Option (Node Slot) → Bool
due_of o = option_map_or (λ (node : Node Slot). is_due_entry node.value.entry) o false

pub clients-same : (a b : ClientId) → same_client a b ≡ true → a ≡ b
clients-same a b e = λ i. record { 0 = eqb-true a.0 b.0 e i }

-- a node of one client is in the list of no other
pub elsewhere : (t : Lists Slot) → IsLists t → (key : ℕ) (n : Node Slot) → node_at t key ≡ Some n → (client q : ClientId) → n.client ≡ client → same_client client q ≡ false → is_among (keys t (OfClient q)) key ≡ true → ⊥
elsewhere t sound key n there client q of other listed =
    let own : same_client n.client q ≡ true = of-list t sound (OfClient q) key n there listed in
    let same : same_client client q ≡ true = ap (λ c. same_client c q) (sym of) ∙ own in
    absurd (cc)

-- what a place became
changed-place : (f : Option ℕ → Option ℕ) (o : Option (Option ℕ)) (place : Option ℕ) → option_map f o ≡ Some place → (was : Option ℕ) × (o ≡ Some was) × (f was ≡ place)
changed-place f None place e = absurd (cc)
changed-place f (Some was) place e = (was, refl, let is : f was ≡ place = cc in is)

-- ---- another place

-- one client has another place, before which none is due
pub none_due-put : (places places' : ClientId → Option (Option ℕ)) (t : Lists Slot) (client : ClientId) (at : Option ℕ)
    → ((q : ClientId) → places' q ≡ cond (same_client client q) (option_map (λ _. at) (places q)) (places q)) → NoneDueBefore t client at → NoneDueBeforeAny t places → NoneDueBeforeAny t places'
none_due-put places places' t client at updates own all q place e = by_test (same_client client q) refl (sym (updates q) ∙ e)
  where
    by_test : (b : Bool) → same_client client q ≡ b → cond b (option_map (λ _. at) (places q)) (places q) ≡ Some place → NoneDueBefore t q place
    by_test true same e =
        let is : at ≡ place = (changed-place (λ _. at) (places q) place e).2 in
        subst (NoneDueBefore t q) is (subst (λ c. NoneDueBefore t c at) (clients-same client q same) own)
    by_test false other e = all q place e

-- ---- another entry

module _ (t t' : Lists Slot) (key : ℕ) (x : Entry) (sets : SetsEntry t t' key x) (places : ClientId → Option (Option ℕ)) (all : NoneDueBeforeAny t places) where
  due-others : (k : ℕ) → nat_eq k key ≡ false → is_due_at t' k ≡ true → is_due_at t k ≡ true
  due-others k other is = sym (ap due_of (sets.nodes k ∙ ap (λ b. cond b (option_map (node_with_entry x) (node_at t k)) (node_at t k)) other)) ∙ is

  -- which is not due
  pub none_due-set : is_due_entry x ≡ false → NoneDueBeforeAny t' places
  none_due-set not_due client place e =
      subst (λ ks. NoneDueIn ks (is_due_at t') place) (sym (sets.lists (OfClient client)))
      (none_due-fewer (keys t (OfClient client)) (is_due_at t) (is_due_at t') place (λ k there is. was k is (nat_eq k key) refl) (all client place e))
    where
      none : (o : Option (Node Slot)) → due_of (option_map (node_with_entry x) o) ≡ false
      none None = refl
      none (Some m) = not_due

      was : (k : ℕ) → is_due_at t' k ≡ true → (b : Bool) → nat_eq k key ≡ b → is_due_at t k ≡ true
      was k is true e =
          let out : is_due_at t' k ≡ false = ap due_of (sets.nodes k ∙ ap (λ b. cond b (option_map (node_with_entry x) (node_at t k)) (node_at t k)) e) ∙ none (node_at t k) in
          absurd (cc)
      was k is false e = due-others k e is

  -- which is due: the place of its client is lowered
  pub none_due-due : (sound : IsLists t) (order : (client : ClientId) → AreInOrder (number_at t') (keys t' (OfClient client))) (client : ClientId) (n : Node Slot) → node_at t key ≡ Some n → n.client ≡ client
      → (places' : ClientId → Option (Option ℕ)) → ((q : ClientId) → places' q ≡ cond (same_client client q) (option_map (lowered t' key) (places q)) (places q))
      → NoneDueBeforeAny t' places'
  none_due-due sound order client n there of places' updates q place e = by_client (same_client client q) refl (sym (updates q) ∙ e)
    where
      others : same_client client q ≡ false → (k : ℕ) → is_among (keys t (OfClient q)) k ≡ true → is_due_at t' k ≡ true → (b : Bool) → nat_eq k key ≡ b → is_due_at t k ≡ true
      others other k listed is true same =
          absurd (elsewhere t sound key n there client q of other (ap (is_among (keys t (OfClient q))) (sym (eqb-true k key same)) ∙ listed))
      others other k listed is false apart = due-others k apart is

      by_client : (b : Bool) → same_client client q ≡ b → cond b (option_map (lowered t' key) (places q)) (places q) ≡ Some place → NoneDueBefore t' q place
      by_client false other e =
          subst (λ ks. NoneDueIn ks (is_due_at t') place) (sym (sets.lists (OfClient q)))
          (none_due-fewer (keys t (OfClient q)) (is_due_at t) (is_due_at t') place (λ k listed is. others other k listed is (nat_eq k key) refl) (all q place e))
      by_client true same e =
          let o = changed-place (lowered t' key) (places q) place e in
          let own : belongs (OfClient q) n ≡ true = ap (λ c. same_client c q) of ∙ same in
          let listed : is_among (keys t (OfClient q)) key ≡ true = is_in t sound (OfClient q) key n there own in
          let ordered : AreInOrder (number_at t') (keys t (OfClient q)) = subst (AreInOrder (number_at t')) (sets.lists (OfClient q)) (order q) in
          let none_due : NoneDueIn (keys t (OfClient q)) (is_due_at t') (lowered t' key o.0) =
          none_due-lowered (keys t (OfClient q)) (is_due_at t) (is_due_at t') (number_at t') key o.0 (sound.lists (OfClient q)).once ordered listed due-others (is_before t' key) refl (λ j. refl) (all q o.0 o.1) in
          subst (λ ks. NoneDueIn ks (is_due_at t') place) (sym (sets.lists (OfClient q))) (subst (NoneDueIn (keys t (OfClient q)) (is_due_at t')) o.2 none_due)

-- ---- one node more, whose entry is not due

pub none_due-added : (t t' : Lists Slot) (key : ℕ) (x : Node Slot) → Adds t t' key x → is_due_entry x.value.entry ≡ false → (places : ClientId → Option (Option ℕ)) → NoneDueBeforeAny t places → NoneDueBeforeAny t' places
none_due-added t t' key x adds not_due places all client place e =
    subst (λ ks. NoneDueIn ks (is_due_at t') place) (sym (adds.lists (OfClient client))) (by_test (belongs (OfClient client) x))
  where
    same : (k : ℕ) → nat_eq k key ≡ false → is_due_at t' k ≡ is_due_at t k
    same k other = ap due_of (adds.nodes k ∙ ap (λ b. cond b (Some x) (node_at t k)) other)

    own : (k : ℕ) → nat_eq k key ≡ true → is_due_at t' k ≡ false
    own k is = ap due_of (adds.nodes k ∙ ap (λ b. cond b (Some x) (node_at t k)) is) ∙ not_due

    was : (k : ℕ) → is_due_at t' k ≡ true → (b : Bool) → nat_eq k key ≡ b → is_due_at t k ≡ true
    was k is true e = absurd (let out : is_due_at t' k ≡ false = own k e in cc)
    was k is false e = sym (same k e) ∙ is

    by_test : (b : Bool) → NoneDueIn (cond b (keys t (OfClient client) ++ key ∷ []) (keys t (OfClient client))) (is_due_at t') place
    by_test true = none_due-wider (keys t (OfClient client)) (is_due_at t) (is_due_at t') key place (own key (eq-eqb key key refl)) same (all client place e)
    by_test false = none_due-fewer (keys t (OfClient client)) (is_due_at t) (is_due_at t') place (λ k there is. was k is (nat_eq k key) refl) (all client place e)

-- ---- one node less

pub none_due-removed : (t t' : Lists Slot) (key : ℕ) → Removes t t' key → IsLists t → (client : ClientId) (n : Node Slot) → node_at t key ≡ Some n → n.client ≡ client
    → (next : Option ℕ) → next ≡ key_after (keys t (OfClient client)) key
    → (places places' : ClientId → Option (Option ℕ)) → ((q : ClientId) → places' q ≡ cond (same_client client q) (option_map (moved_on key next) (places q)) (places q))
    → NoneDueBeforeAny t places → NoneDueBeforeAny t' places'
none_due-removed t t' key removes sound client n there of next next_is places places' updates all q place e =
    subst (λ ks. NoneDueIn ks (is_due_at t') place) (sym (removes.lists (OfClient q))) (by_client (same_client client q) refl (sym (updates q) ∙ e))
  where
    gone : (k : ℕ) → nat_eq k key ≡ true → is_due_at t' k ≡ false
    gone k is = ap due_of (removes.nodes k ∙ ap (λ b. cond b None (node_at t k)) is)

    was : (k : ℕ) → is_due_at t' k ≡ true → (b : Bool) → nat_eq k key ≡ b → is_due_at t k ≡ true
    was k is true e = absurd (let out : is_due_at t' k ≡ false = gone k e in cc)
    was k is false e = sym (ap due_of (removes.nodes k ∙ ap (λ b. cond b None (node_at t k)) e)) ∙ is

    before : (p : Option ℕ) → places q ≡ Some p → NoneDueIn (keys t (OfClient q)) (is_due_at t') p
    before p e = none_due-fewer (keys t (OfClient q)) (is_due_at t) (is_due_at t') p (λ k listed is. was k is (nat_eq k key) refl) (all q p e)

    -- the place of another client is not the node's
    apart : same_client client q ≡ false → (p : Option ℕ) → NoneDueIn (keys t (OfClient q)) (is_due_at t') p → (i : ℕ) → p ≡ Some i → nat_eq key i ≡ false
    apart other p none_due i is = by_test (nat_eq key i) refl
      where
        listed : is_among (keys t (OfClient q)) i ≡ true
        listed = (subst (NoneDueIn (keys t (OfClient q)) (is_due_at t')) is none_due).placed

        by_test : (b : Bool) → nat_eq key i ≡ b → b ≡ false
        by_test true e = absurd (elsewhere t sound key n there client q of other (ap (is_among (keys t (OfClient q))) (eqb-true key i e) ∙ listed))
        by_test false e = refl

    by_client : (b : Bool) → same_client client q ≡ b → cond b (option_map (moved_on key next) (places q)) (places q) ≡ Some place
        → NoneDueIn (keys_without (keys t (OfClient q)) key) (is_due_at t') place
    by_client false other e = none_due-left (keys t (OfClient q)) (is_due_at t') key place (apart other place (before place e)) (before place e)
    by_client true same e =
        let o = changed-place (moved_on key next) (places q) place e in
        let next_of : next ≡ key_after (keys t (OfClient q)) key = next_is ∙ ap (λ c. key_after (keys t (OfClient c)) key) (clients-same client q same) in
        let is : moved_on key (key_after (keys t (OfClient q)) key) o.0 ≡ place = ap (λ m. moved_on key m o.0) (sym next_of) ∙ o.2 in
        subst (NoneDueIn (keys_without (keys t (OfClient q)) key) (is_due_at t')) is
        (none_due-moved (keys t (OfClient q)) (is_due_at t') key o.0 (sound.lists (OfClient q)).once (gone key (eq-eqb key key refl)) (before o.0 o.1))

-- ---- a node that comes last in the order of recall

pub none_due-touched : (t t' : Lists Slot) (key : ℕ) → Touches t t' key → (places : ClientId → Option (Option ℕ)) → NoneDueBeforeAny t places → NoneDueBeforeAny t' places
none_due-touched t t' key touches places all client place e =
    subst (λ ks. NoneDueIn ks (is_due_at t') place) (sym (touches.clients client))
    (none_due-fewer (keys t (OfClient client)) (is_due_at t) (is_due_at t') place (λ k there is. sym (ap due_of (touches.nodes k)) ∙ is) (all client place e))

-- ---- other sets beside an entry

pub none_due-stays : (t t' : Lists Slot) (key : ℕ) (s : ClientView) → KeepsSets t t' key s → (places : ClientId → Option (Option ℕ)) → NoneDueBeforeAny t places → NoneDueBeforeAny t' places
none_due-stays t t' key s keeps places all client place e =
    subst (λ ks. NoneDueIn ks (is_due_at t') place) (sym (keeps.lists (OfClient client)))
    (none_due-fewer (keys t (OfClient client)) (is_due_at t) (is_due_at t') place (λ k there is. sym (ap due_of (keeps.nodes k) ∙ by_test (nat_eq k key) (node_at t k)) ∙ is) (all client place e))
  where
    by_test : (b : Bool) (o : Option (Node Slot)) → due_of (cond b (option_map (node_with_sets s) o) o) ≡ due_of o
    by_test true None = refl
    by_test true (Some m) = refl
    by_test false o = refl

-- ---- a step over an entry that is not due

module _ (t : Lists Slot) (client : ClientId) (place : Option ℕ) (key : ℕ) (at : place ≡ Some key) (sound : IsLists t) (none_due : NoneDueBefore t client place)
    (next : Option ℕ) (next_is : next ≡ option_and_then (λ (node : Node Slot). key_after (keys t (OfClient node.client)) key) (node_at t key)) where
  none_due-here : NoneDueBefore t client (Some key)
  none_due-here = subst (NoneDueBefore t client) at none_due

  next-key : next ≡ key_after (keys t (OfClient client)) key
  next-key = next_is ∙ next-listed t sound client key none_due-here.placed

  pub step-none_due : is_due_at t key ≡ false → NoneDueBefore t client next
  step-none_due not_due = subst (NoneDueBefore t client) (sym next-key) (none_due-next (keys t (OfClient client)) (is_due_at t) key (sound.lists (OfClient client)).once not_due none_due-here)

  pub step-nearer : length (keys_from (keys t (OfClient client)) next) < length (keys_from (keys t (OfClient client)) place)
  step-nearer =
      let ks = keys t (OfClient client) in
      let here : length (keys_from ks place) ≡ length (keys_on ks key) = ap (λ o. length (keys_from ks o)) at in
      let step : length (keys_on ks key) ≡ length (key ∷ keys_from ks (key_after ks key)) = ap length (keys-next ks key (sound.lists (OfClient client)).once none_due-here.placed) in
      let behind : length (keys_from ks next) ≡ length (keys_from ks (key_after ks key)) = ap (λ o. length (keys_from ks o)) next-key in
      omega (arith, here, step, behind)
