-- Who has a place, after a change of the nodes or of the places.
use Rattle.std.proofs.Common.{◌≡◌, ℕ, Bool, true, false, not, cond, ◌||◌, Option, Some, None, List, [], ◌∷◌, ◌++◌, refl, sym, ap, subst, ◌∙◌, nat_eq}
use Rattle.std.proofs.Common.{slice_get, is_some}
use Rattle.std.specs.Option.{option_map}
use Rattle.capbits.specs.declared.ids.ClientId.{ClientId}
use Rattle.cap_arena.specs.declared.nodes.Node.{Node}
use Rattle.cap_arena.specs.Walks.{is_among}
use Rattle.cap_arena.specs.Calls.{Adds, Removes, Touches, keys_without}
use Rattle.cap_arena.specs.Lists.{IsLists, Lists, OfClient, belongs, empty, keys, node_at}
use Rattle.captable.specs.declared.entry.Entry.{Entry}
use Rattle.captable.specs.declared.entry.Slot.{Slot}
use Rattle.captable.specs.Nodes.{SetsEntry}
use Rattle.captable.specs.Places.{ArePlaced, NoneDueBeforeAny, NoneDueBefore, NoneDueIn, is_due_at, same_client}
use Rattle.captable.proofs.Polled.{begun_at, left}
use Rattle.captable.proofs.NodesAt.{rest_in}
use Rattle.captable.proofs.Keeping.{is_in}
use Rattle.captable.proofs.NotDue.{clients-same, elsewhere}

-- whether a list has a first key
abbrev has_first : List ℕ → Bool
has_first ks = is_some (slice_get ks 0)

-- a place that changed is one still
pub still : {V : Type 0} (f : V → V) (b : Bool) (o : Option V) → is_some (cond b (option_map f o) o) ≡ is_some o
still f true None = refl
still f true (Some place) = refl
still f false o = refl

pub has-first : (ks : List ℕ) (key : ℕ) → is_among ks key ≡ true → has_first ks ≡ true
has-first [] key there = absurd (cc)
has-first (k ∷ ks) key there = refl

has-more : (ks : List ℕ) (key : ℕ) → has_first (ks ++ key ∷ []) ≡ true
has-more [] key = refl
has-more (k ∷ ks) key = refl

-- none is due before the end where there is no key
pub none_due-end : (ks : List ℕ) (due : ℕ → Bool) → false ≡ has_first ks → NoneDueIn ks due None
none_due-end [] due first = record { placed = tt; later = λ key there is. there }
none_due-end (k ∷ ks) due first = absurd (cc)

-- a key that is not among them takes nothing away
without-other : (ks : List ℕ) (key : ℕ) → (is_among ks key ≡ true → ⊥) → keys_without ks key ≡ ks
without-other [] key none = refl
without-other (k ∷ ks) key none = by_test (nat_eq key k) refl (without-other ks key (λ there. none (rest_in k ks key there)))
  where
    by_test : (b : Bool) → nat_eq key k ≡ b → keys_without ks key ≡ ks → cond (not b) (k ∷ keys_without ks key) (keys_without ks key) ≡ k ∷ ks
    by_test true e rest = absurd (none (ap (λ b. b || is_among ks key) e))
    by_test false e rest = ap (λ js. k ∷ js) rest

-- ---- the same lists

pub placed-alike : {V : Type 0} (t t' : Lists Slot) (places places' : ClientId → Option V) → ((q : ClientId) → keys t' (OfClient q) ≡ keys t (OfClient q))
    → ((q : ClientId) → is_some (places' q) ≡ is_some (places q)) → ArePlaced t places → ArePlaced t' places'
placed-alike t t' places places' lists alike all q = alike q ∙ all q ∙ ap has_first (sym (lists q))

pub placed-set : {V : Type 0} (t t' : Lists Slot) (key : ℕ) (x : Entry) → SetsEntry t t' key x → (client : ClientId) (f : V → V) (places places' : ClientId → Option V)
    → ((q : ClientId) → places' q ≡ cond (same_client client q) (option_map f (places q)) (places q)) → ArePlaced t places → ArePlaced t' places'
placed-set t t' key x sets client f places places' updates all =
    placed-alike t t' places places' (λ q. sets.lists (OfClient q)) (λ q. ap is_some (updates q) ∙ still f (same_client client q) (places q)) all

pub placed-touched : {V : Type 0} (t t' : Lists Slot) (key : ℕ) → Touches t t' key → (places : ClientId → Option V) → ArePlaced t places → ArePlaced t' places
placed-touched t t' key touches places all = placed-alike t t' places places (λ q. touches.clients q) (λ q. refl) all

pub ArePlaced-empty : {V : Type 0} (t : Lists Slot) (places : ClientId → Option V) → t ≡ empty → ((q : ClientId) → places q ≡ None) → ArePlaced t places
ArePlaced-empty t places nodes none client =
    ap is_some (none client) ∙ ap (λ (t : Lists Slot). has_first (keys t (OfClient client))) (sym nodes)

-- ---- the same places

pub none_due-same : (t : Lists Slot) (places places' : ClientId → Option (Option ℕ)) → ((q : ClientId) → places' q ≡ places q) → NoneDueBeforeAny t places → NoneDueBeforeAny t places'
none_due-same t places places' same all q place e = all q place (sym (same q) ∙ e)

pub placed-same : {V : Type 0} (t : Lists Slot) (places places' : ClientId → Option V) → ((q : ClientId) → places' q ≡ places q) → ArePlaced t places → ArePlaced t places'
placed-same t places places' same all q = ap is_some (same q) ∙ all q

-- ---- one node more

module _ (t : Lists Slot) (client : ClientId) (places places' : ClientId → Option (Option ℕ))
    (updates : (q : ClientId) → places' q ≡ cond (same_client client q) (begun_at None (places q)) (places q)) where
  -- before whose client's place none is due: it is the one that it had, or the end of an empty list
  pub none_due-begun : ArePlaced t places → NoneDueBeforeAny t places → NoneDueBeforeAny t places'
  none_due-begun placed all q place e = by_test (same_client client q) (sym (updates q) ∙ e)
    where
      own : (o : Option (Option ℕ)) → places q ≡ o → begun_at None o ≡ Some place → NoneDueBefore t q place
      own None was e = let is : None ≡ place = cc in subst (NoneDueBefore t q) is (none_due-end (keys t (OfClient q)) (is_due_at t) (sym (ap is_some was) ∙ placed q))
      own (Some p) was e = all q place (was ∙ e)

      by_test : (b : Bool) → cond b (begun_at None (places q)) (places q) ≡ Some place → NoneDueBefore t q place
      by_test true e = own (places q) refl e
      by_test false e = all q place e

-- what is kept of the node's client is there then
pub placed-begun : {V : Type 0} (t : Lists Slot) (client : ClientId) (g : Option V → Option V) → ((o : Option V) → is_some (g o) ≡ true) → (places places' : ClientId → Option V)
    → ((q : ClientId) → places' q ≡ cond (same_client client q) (g (places q)) (places q))
    → (t' : Lists Slot) (key : ℕ) (x : Node Slot) → Adds t t' key x → x.client ≡ client → ArePlaced t places → ArePlaced t' places'
placed-begun t client g there places places' updates t' key x adds of all q =
    ap is_some (updates q) ∙ by_test (same_client client q) ∙ ap has_first (sym (adds.lists (OfClient q) ∙ ap (λ c. cond (same_client c q) (keys t (OfClient q) ++ key ∷ []) (keys t (OfClient q))) of))
  where
    by_test : (b : Bool) → is_some (cond b (g (places q)) (places q)) ≡ has_first (cond b (keys t (OfClient q) ++ key ∷ []) (keys t (OfClient q)))
    by_test true = there (places q) ∙ sym (has-more (keys t (OfClient q)) key)
    by_test false = all q

pub begun-there : {V : Type 0} (v : V) (o : Option V) → is_some (begun_at v o) ≡ true
begun-there v None = refl
begun-there v (Some p) = refl

-- ---- one node less

module _ (t : Lists Slot) (client : ClientId) (first : Option ℕ) (moved places' : ClientId → Option (Option ℕ))
    (ends : (q : ClientId) → places' q ≡ cond (same_client client q) (left first (moved q)) (moved q)) where
  -- the places that are left are as they were
  pub none_due-ended : NoneDueBeforeAny t moved → NoneDueBeforeAny t places'
  none_due-ended all q place e = by_test (same_client client q) first (sym (ends q) ∙ e)
    where
      by_test : (b : Bool) (o : Option ℕ) → cond b (left o (moved q)) (moved q) ≡ Some place → NoneDueBefore t q place
      by_test true None e = absurd (cc)
      by_test true (Some k) e = all q place e
      by_test false o e = all q place e

pub placed-removed : {V : Type 0} (t : Lists Slot) (client : ClientId) (first : Option ℕ) (moved places' : ClientId → Option V)
    → ((q : ClientId) → places' q ≡ cond (same_client client q) (left first (moved q)) (moved q))
    → (was : Lists Slot) (key : ℕ) → Removes was t key → IsLists was → (n : Node Slot) → node_at was key ≡ Some n → n.client ≡ client → first ≡ slice_get (keys t (OfClient client)) 0
    → (f : V → V) (places : ClientId → Option V) → ((q : ClientId) → moved q ≡ cond (same_client client q) (option_map f (places q)) (places q))
    → ArePlaced was places → ArePlaced t places'
placed-removed t client first moved places' ends was key removes sound n there of first_is f places moves all q = ap is_some (ends q) ∙ by_test (same_client client q) refl
  where
    had : is_some (moved q) ≡ has_first (keys was (OfClient q))
    had = ap is_some (moves q) ∙ still f (same_client client q) (places q) ∙ all q

    own : (o : Option ℕ) → is_some (moved q) ≡ true → is_some (left o (moved q)) ≡ is_some o
    own None has = refl
    own (Some k) has = has

    by_test : (b : Bool) → same_client client q ≡ b → is_some (cond b (left first (moved q)) (moved q)) ≡ has_first (keys t (OfClient q))
    by_test true same =
        let mine : belongs (OfClient q) n ≡ true = ap (λ c. same_client c q) of ∙ same in
        let has : is_some (moved q) ≡ true = had ∙ has-first (keys was (OfClient q)) key (is_in was sound (OfClient q) key n there mine) in
        own first has ∙ ap is_some first_is ∙ ap (λ c. has_first (keys t (OfClient c))) (clients-same client q same)
    by_test false other =
        had ∙ ap has_first (sym (removes.lists (OfClient q) ∙ without-other (keys was (OfClient q)) key (λ listed. elsewhere was sound key n there client q of other listed)))
