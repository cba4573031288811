-- What is kept of a table's parts, after a change of one node.
use Rattle.std.proofs.Common.{◌≡◌, ℕ, ◌+◌, ◌<◌, ◌≤◌, Bool, true, false, not, cond, ◌||◌, Option, Some, None, IsSome, List, [], ◌∷◌, ◌++◌, map, filter, length}
use Rattle.std.proofs.Common.{refl, sym, ap, subst, ◌∙◌, arith, nat_eq, suc}
use Rattle.std.specs.List.{AllByRecursion, IsDistinct}
use Rattle.std.specs.Option.{option_map, option_map_or}
use Rattle.std.proofs.lemmas.List.{map-append}
use Rattle.std.proofs.lemmas.Bool.{eq-eqb, eqb-true}
use Rattle.cap_arena.specs.declared.nodes.Node.{Node}
use Rattle.cap_arena.specs.Walks.{is_among}
use Rattle.cap_arena.specs.Lists.{IsLists, ListName, Lists, OfRecall, belongs, keys, node_at}
use Rattle.captable.specs.declared.entry.Holder.{Holder}
use Rattle.captable.specs.declared.entry.Entry.{Entry}
use Rattle.captable.specs.declared.entry.EntryRow.{EntryRow}
use Rattle.captable.specs.declared.entry.Slot.{Slot}
use Rattle.captable.specs.Table.{IsTable, is_row_of, same}
use Rattle.captable.specs.Calls.{change_rows, changed, moved_last, new_entry, opened, touched, without}
use Rattle.captable.specs.Nodes.{IsKeyOf, by_number, has_number, holder_of, is_key_of, node_with_entry, nodes_at, nodes_in, row_of, table_by, with_first}
use Rattle.captable.specs.Linked.{AreBelow, IsLinked}
use Rattle.captable.specs.Places.{number_at}
use Rattle.captable.proofs.Tables.{same_equiv}
use Rattle.captable.proofs.OneByOne.{if_passing, one_at_once}
use Rattle.captable.proofs.NodesAt.{AllHave, IsFree, IsHeld, is_held_by, set_in}
use Rattle.captable.proofs.Numbers.{by_number-filter, by_number-map, by_number-next, by_number-same, number-moved}

-- ---- lists of nodes, as lists of rows

pub filter-mapped : {X Y : Type 0} (p : Y → Bool) (g : X → Y) (xs : List X) → filter p (map g xs) ≡ map g (filter (λ x. p (g x)) xs)
filter-mapped p g [] = refl
filter-mapped p g (x ∷ xs) =
    let rest = filter-mapped p g xs in
    elim (p (g x)) as (λ b. cond b (g x ∷ filter p (map g xs)) (filter p (map g xs)) ≡ map g (cond b (x ∷ filter (λ x. p (g x)) xs) (filter (λ x. p (g x)) xs)))
    [ true ↦ ap (λ ys. g x ∷ ys) rest | false ↦ rest ]

pub map-mapped : {X Y Z : Type 0} (g : Y → Z) (f : X → Y) (g' : Z → Z) (f' : X → Z) → ((x : X) → g (f x) ≡ g' (f' x)) → (xs : List X) → map g (map f xs) ≡ map g' (map f' xs)
map-mapped g f g' f' same [] = refl
map-mapped g f g' f' same (x ∷ xs) = λ i. same x i ∷ map-mapped g f g' f' same xs i

-- ---- one more node

pub table-added : (ns : List (Node Slot)) (x : Node Slot) (made : ℕ) → x.value.entry ≡ new_entry → x.value.number ≡ made → AreBelow made ns
    → table_by (ns ++ x ∷ []) (made + 1) ≡ opened (table_by ns made) (holder_of x)
table-added ns x made entry number below =
    let next : made + 1 ≡ suc made = omega arith in
    let rows : map row_of (by_number (made + 1) (ns ++ x ∷ [])) ≡ map row_of (by_number made ns) ++ record { holder = holder_of x; entry = new_entry } ∷ [] =
    ap (λ m. map row_of (by_number m (ns ++ x ∷ []))) next ∙ ap (map row_of) (by_number-next ns x made number below) ∙ map-append row_of (by_number made ns) (x ∷ [])
    ∙ ap (λ (e : Entry). map row_of (by_number made ns) ++ record { holder = holder_of x; entry = e } ∷ []) entry in
    let recall : map holder_of (ns ++ x ∷ []) ≡ map holder_of ns ++ holder_of x ∷ [] = map-append holder_of ns (x ∷ []) in
    λ i. record { rows = rows i; recall = recall i; made = made + 1 }

-- ---- one node less

pub table-removed : (ns : List (Node Slot)) (h : Holder) (made : ℕ) → table_by (filter (λ m. not (is_held_by h m)) ns) made ≡ without (table_by ns made) h
table-removed ns h made =
    let rows : map row_of (by_number made (filter (λ m. not (is_held_by h m)) ns)) ≡ filter (λ row. not (is_row_of h row)) (map row_of (by_number made ns)) =
    ap (map row_of) (by_number-filter (λ m. not (is_held_by h m)) made ns) ∙ sym (filter-mapped (λ row. not (is_row_of h row)) row_of (by_number made ns)) in
    let recall : map holder_of (filter (λ m. not (is_held_by h m)) ns) ≡ filter (λ k. not (same h k)) (map holder_of ns) = sym (filter-mapped (λ k. not (same h k)) holder_of ns) in
    λ i. record { rows = rows i; recall = recall i; made = made }

-- ---- another entry

pub keeps_number : (h : Holder) (x : Entry) (m : Node Slot) → (set_in h x m).value.number ≡ m.value.number
keeps_number h x m = elim (is_held_by h m) as (λ b. (cond b (node_with_entry x m) m).value.number ≡ m.value.number) [ true ↦ refl | false ↦ refl ]

keeps_holder : (h : Holder) (x : Entry) (m : Node Slot) → holder_of (set_in h x m) ≡ holder_of m
keeps_holder h x m = elim (is_held_by h m) as (λ b. holder_of (cond b (node_with_entry x m) m) ≡ holder_of m) [ true ↦ refl | false ↦ refl ]

-- a row of the holder, with the entry
abbrev pub row_in : Holder → Entry → EntryRow → EntryRow
row_in h x row = if_passing (λ _. x) (is_row_of h) row

row-set : (h : Holder) (x : Entry) (m : Node Slot) → row_of (set_in h x m) ≡ row_in h x (row_of m)
row-set h x m = elim (is_held_by h m) as (λ b. row_of (cond b (node_with_entry x m) m) ≡ cond b (record (row_of m) { entry = x }) (row_of m)) [ true ↦ refl | false ↦ refl ]

pub rows-set : (h : Holder) (x : Entry) (ns : List (Node Slot)) → map row_of (map (set_in h x) ns) ≡ map (row_in h x) (map row_of ns)
rows-set h x ns = map-mapped row_of (set_in h x) (row_in h x) row_of (row-set h x) ns

holders-set : (h : Holder) (x : Entry) (ns : List (Node Slot)) → map holder_of (map (set_in h x) ns) ≡ map holder_of ns
holders-set h x [] = refl
holders-set h x (m ∷ ns) = λ i. keeps_holder h x m i ∷ holders-set h x ns i

pub rows-changed : (ns : List (Node Slot)) (h : Holder) (x : Entry) (made : ℕ) → map row_of (by_number made (map (set_in h x) ns)) ≡ map (row_in h x) (map row_of (by_number made ns))
rows-changed ns h x made = ap (map row_of) (by_number-map (set_in h x) (keeps_number h x) made ns) ∙ rows-set h x (by_number made ns)

pub table-set : (ns : List (Node Slot)) (h : Holder) (x : Entry) (made : ℕ) → IsTable (table_by ns made) → table_by (map (set_in h x) ns) made ≡ changed (table_by ns made) h (λ _. x)
table-set ns h x made is =
    let rows : map row_of (by_number made (map (set_in h x) ns)) ≡ change_rows (map row_of (by_number made ns)) h (λ _. x) =
    rows-changed ns h x made ∙ sym (one_at_once (λ _. x) h (map row_of (by_number made ns)) is.one_row) in
    λ i. record { rows = rows i; recall = holders-set h x ns i; made = made }

-- ---- a node that comes last

pub table-touched : (ns : List (Node Slot)) (h : Holder) (made : ℕ) → ((number : ℕ) → length (filter (has_number number) ns) ≤ 1)
    → table_by (filter (λ m. not (is_held_by h m)) ns ++ filter (is_held_by h) ns) made ≡ touched (table_by ns made) h
table-touched ns h made once =
    let kept = filter (λ m. not (is_held_by h m)) ns in
    let own = filter (is_held_by h) ns in
    let rows : map row_of (by_number made (kept ++ own)) ≡ map row_of (by_number made ns) =
    ap (map row_of) (by_number-same made (kept ++ own) ns (λ number. number-moved (is_held_by h) ns number (once number))) in
    let recall : map holder_of (kept ++ own) ≡ moved_last (map holder_of ns) h =
    map-append holder_of kept own ∙ (λ i. sym (filter-mapped (λ k. not (same h k)) holder_of ns) i ++ sym (filter-mapped (same h) holder_of ns) i) in
    λ i. record { rows = rows i; recall = recall i; made = made }

-- ---- which keys are in a list

belongs-none : (name : ListName) (o : Option (Node Slot)) → o ≡ None → option_map_or (belongs name) o false ≡ false
belongs-none name o e = ap (λ o. option_map_or (belongs name) o false) e

pub not_in : (t : Lists Slot) → IsLists t → (name : ListName) (key : ℕ) → node_at t key ≡ None → is_among (keys t name) key ≡ false
not_in t is name key none = (is.lists name).nodes key ∙ belongs-none name (node_at t key) none

pub is_in : (t : Lists Slot) → IsLists t → (name : ListName) (key : ℕ) (n : Node Slot) → node_at t key ≡ Some n → belongs name n ≡ true → is_among (keys t name) key ≡ true
is_in t is name key n there of = (is.lists name).nodes key ∙ ap (λ o. option_map_or (belongs name) o false) there ∙ of

pub all_have : (t : Lists Slot) → IsLists t → (name : ListName) → AllHave (node_at t) (keys t name)
all_have t is name key there = by_node (node_at t key) (sym ((is.lists name).nodes key) ∙ there)
  where
    by_node : (o : Option (Node Slot)) → option_map_or (belongs name) o false ≡ true → IsSome o
    by_node None e = absurd (cc)
    by_node (Some n) e = refl

-- ---- the keys of holders

-- what is true of the holders of some keys is true of that of each
holder-among : (P : Holder → Type 0) (at : ℕ → Option (Node Slot)) (ks : List ℕ) (q : ℕ) (m : Node Slot) → at q ≡ Some m
    → AllByRecursion P (map holder_of (nodes_at at ks)) → is_among ks q ≡ true → P (holder_of m)
holder-among P at [] q m is all there = absurd (cc)
holder-among P at (k ∷ ks) q m is all there = by_key (nat_eq q k) refl (at k) refl there (holder-among P at ks q m is)
  where
    first : (o : Option (Node Slot)) → at k ≡ o → AllByRecursion P (map holder_of (with_first o (nodes_at at ks)))
    first o e = subst (λ o. AllByRecursion P (map holder_of (with_first o (nodes_at at ks)))) e all

    by_key : (b : Bool) → nat_eq q k ≡ b → (o : Option (Node Slot)) → at k ≡ o → (b || is_among ks q) ≡ true
        → (AllByRecursion P (map holder_of (nodes_at at ks)) → is_among ks q ≡ true → P (holder_of m)) → P (holder_of m)
    by_key false apart None e there rest = rest (first None e) there
    by_key false apart (Some n) e there rest = rest (first (Some n) e).1 there
    by_key true same o e there rest = (first (Some m) (ap at (sym (eqb-true q k same)) ∙ is)).0

-- behind a key there is no node of its holder
distinct-first : (at : ℕ → Option (Node Slot)) (ks : List ℕ) (x : Node Slot) → IsDistinct same (map holder_of (x ∷ nodes_at at ks)) → AllByRecursion (λ h. same (holder_of x) h ≡ false) (map holder_of (nodes_at at ks))
unfolding IsDistinct
distinct-first at ks x once = once.0

distinct-rest : (at : ℕ → Option (Node Slot)) (ks : List ℕ) (o : Option (Node Slot)) → IsDistinct same (map holder_of (with_first o (nodes_at at ks))) → IsDistinct same (map holder_of (nodes_at at ks))
unfolding IsDistinct
distinct-rest at ks None once = once
distinct-rest at ks (Some x) once = once.1

-- one holder has one of these keys
one-key : (at : ℕ → Option (Node Slot)) (ks : List ℕ) → IsDistinct same (map holder_of (nodes_at at ks)) → (q r : ℕ) (m n : Node Slot) → at q ≡ Some m → at r ≡ Some n
    → same (holder_of m) (holder_of n) ≡ true → is_among ks q ≡ true → is_among ks r ≡ true → q ≡ r
one-key at [] once q r m n is_q is_r alike there_q there_r = absurd (cc)
one-key at (k ∷ ks) once q r m n is_q is_r alike there_q there_r =
    both (nat_eq q k) (nat_eq r k) refl refl there_q there_r (one-key at ks (distinct-rest at ks (at k) once) q r m n is_q is_r alike)
  where
    -- a key behind the first one has another holder
    behind : (x y : ℕ) (v w : Node Slot) → nat_eq x k ≡ true → at x ≡ Some v → at y ≡ Some w → is_among ks y ≡ true → same (holder_of v) (holder_of w) ≡ false
    behind x y v w is at_x at_y there =
        let first : at k ≡ Some v = ap at (sym (eqb-true x k is)) ∙ at_x in
        let apart = distinct-first at ks v (subst (λ o. IsDistinct same (map holder_of (with_first o (nodes_at at ks)))) first once) in
        holder-among (λ h. same (holder_of v) h ≡ false) at ks y w at_y apart there

    both : (a b : Bool) → nat_eq q k ≡ a → nat_eq r k ≡ b → (a || is_among ks q) ≡ true → (b || is_among ks r) ≡ true
        → (is_among ks q ≡ true → is_among ks r ≡ true → q ≡ r) → q ≡ r
    both true true e f in_q in_r found = eqb-true q k e ∙ sym (eqb-true r k f)
    both true false e f in_q in_r found = absurd (let other : same (holder_of m) (holder_of n) ≡ false = behind q r m n e is_q is_r in_r in cc)
    both false true e f in_q in_r found =
        absurd (let other : same (holder_of n) (holder_of m) ≡ false = behind r q n m f is_r is_q in_q in
        let turned : same (holder_of n) (holder_of m) ≡ true = same_equiv.symm (holder_of n) (holder_of m) ∙ alike in cc)
    both false false e f in_q in_r found = found in_q in_r

module _ (t : Lists Slot) (made : ℕ) (is : IsLinked t made) where
  node-of : (k : Holder) (o : Option (Node Slot)) → option_map holder_of o ≡ Some k → (n : Node Slot) × (o ≡ Some n) × (holder_of n ≡ k)
  node-of k None e = absurd (cc)
  node-of k (Some n) e = (n, refl, let is : holder_of n ≡ k = cc in is)

  listed : (q : ℕ) (m : Node Slot) → node_at t q ≡ Some m → is_among (keys t OfRecall) q ≡ true
  listed q m there = is_in t is.sound OfRecall q m there refl

  -- a holder's key has its node, and no other key has
  pub held : (k : Holder) (key : ℕ) → IsKeyOf t k key → (n : Node Slot) × IsHeld (node_at t) k key n × (holder_of n ≡ k)
  held k key found =
      let o = node-of k (node_at t key) found in
      (o.0, record { there = o.1; alone = λ q m e. alone q m e (is_held_by k m) refl (nat_eq key q) refl o.0 o.1 o.2 }, o.2)
    where
      alone : (q : ℕ) (m : Node Slot) → node_at t q ≡ Some m → (a : Bool) → is_held_by k m ≡ a → (b : Bool) → nat_eq key q ≡ b → (n : Node Slot) → node_at t key ≡ Some n → holder_of n ≡ k → a ≡ b
      alone q m e true mine true eq n there own = refl
      alone q m e false out false eq n there own = refl
      alone q m e true mine false eq n there own =
          let alike : same (holder_of n) (holder_of m) ≡ true = ap (λ h. same h (holder_of m)) own ∙ mine in
          let same_key : key ≡ q = one-key (node_at t) (keys t OfRecall) is.table.one_recall key q n m there e alike (listed key n there) (listed q m e) in
          absurd (let c : nat_eq key q ≡ true = eq-eqb key q same_key in cc)
      alone q m e false out true eq n there own =
          let same_key : key ≡ q = eqb-true key q eq in
          let there_too : node_at t q ≡ Some n = ap (node_at t) (sym same_key) ∙ there in
          let same_node : m ≡ n = cc in
          absurd (let c : same k (holder_of m) ≡ true = ap (λ h. same k h) (ap holder_of same_node ∙ own) ∙ same_equiv.refl k in cc)

-- a holder without a key has no node
pub free : (t : Lists Slot) (k : Holder) → ((key : ℕ) → is_key_of t k key ≡ false) → IsFree (node_at t) k
free t k none q m e = sym (ap (λ o. option_map_or (λ (node : Node Slot). same k (holder_of node)) o false) e) ∙ none q

-- ---- numbers of nodes

abbrev number_of : Option (Node Slot) → ℕ
number_of o = option_map_or (λ (node : Node Slot). node.value.number) o 0

below-first : (end : ℕ) (o : Option (Node Slot)) (ns : List (Node Slot)) → AreBelow end (with_first o ns) → IsSome o → number_of o < end
below-first end None ns below some = absurd (cc)
below-first end (Some m) ns below some = below.0

below-rest : (end : ℕ) (o : Option (Node Slot)) (ns : List (Node Slot)) → AreBelow end (with_first o ns) → AreBelow end ns
below-rest end None ns below = below
below-rest end (Some m) ns below = below.1

below-at : (at : ℕ → Option (Node Slot)) (ks : List ℕ) (end : ℕ) → AreBelow end (nodes_at at ks) → (k : ℕ) → is_among ks k ≡ true → IsSome (at k) → number_of (at k) < end
below-at at [] end below k there some = absurd (cc)
below-at at (q ∷ ks) end below k there some = by_test (nat_eq k q) refl there (below-at at ks end (below-rest end (at q) (nodes_at at ks) below) k)
  where
    by_test : (b : Bool) → nat_eq k q ≡ b → (b || is_among ks k) ≡ true → (is_among ks k ≡ true → IsSome (at k) → number_of (at k) < end) → number_of (at k) < end
    by_test true e there rest =
        let is : k ≡ q = eqb-true k q e in
        subst (λ x. number_of (at x) < end) (sym is) (below-first end (at q) (nodes_at at ks) below (subst (λ x. IsSome (at x)) is some))
    by_test false e there rest = rest there some

-- the node of each key of a list has a number below the next one
pub number-below : (t : Lists Slot) → IsLists t → (end : ℕ) → AreBelow end (nodes_in t OfRecall) → (name : ListName) (k : ℕ) → is_among (keys t name) k ≡ true → number_at t k < end
number-below t is end below name k there = below-at (node_at t) (keys t OfRecall) end below k ((is.lists OfRecall).nodes k ∙ each (node_at t k) some) some
  where
    some : IsSome (node_at t k)
    some = all_have t is name k there

    each : (o : Option (Node Slot)) → IsSome o → option_map_or (belongs {T = Slot} OfRecall) o false ≡ true
    each None some = absurd (cc)
    each (Some n) some = refl
