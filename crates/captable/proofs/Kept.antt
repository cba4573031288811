-- What is kept beside the entries: where it is found, and a table's parts where other sets are kept.
use Rattle.std.specs.Prelude.{◌==◌}
use Rattle.std.proofs.Common.{◌≡◌, ℕ, ◌<◌, ◌≤◌, Bool, true, false, not, cond, Option, Some, None, unwrap_or, List, [], ◌∷◌, ◌++◌, map, filter, length, refl}
use Rattle.std.proofs.Common.{sym, ap, subst, ◌∙◌, arith, nat_eq, zero, suc}
use Rattle.std.specs.List.{AllByRecursion, IsDistinct, find}
use Rattle.std.specs.Option.{option_map, option_map_or}
use Rattle.std.proofs.lemmas.Bool.{eqb-false, eqb-true}
use Rattle.capbits.specs.declared.ids.ClientId.{ClientId}
use Rattle.cap_arena.specs.declared.nodes.Node.{Node}
use Rattle.cap_arena.specs.Lists.{IsLists, ListName, Lists, OfClient, OfInode, OfRecall, keys, node_at}
use Rattle.captable.specs.declared.entry.Holder.{Holder}
use Rattle.captable.specs.declared.entry.EntryRow.{EntryRow}
use Rattle.captable.specs.declared.entry.ClientView.{ClientView}
use Rattle.captable.specs.declared.entry.Slot.{Slot}
use Rattle.captable.specs.Table.{IsTable, Table, is_row_of, same}
use Rattle.captable.specs.Calls.{is_of_client, is_of_inode}
use Rattle.captable.specs.Kept.{AreBeside, KeptRow, KeptTable, is_kept_of, keeping, kept_entry, kept_without, kept_without_client, no_sets, sets_beside}
use Rattle.captable.specs.Walks.{first_holder}
use Rattle.captable.specs.Nodes.{IsKeyOf, KeepsSets, both_of, by_number, has_number, holder_of, is_key_of, kept_by, kept_entry_of, kept_of, kept_row_of}
use Rattle.captable.specs.Nodes.{node_with_sets, nodes_at, nodes_in, row_of, table_by, table_of, with_first}
use Rattle.captable.specs.Linked.{AreBelow, IsLinked}
use Rattle.captable.specs.Places.{AreInOrder, number_at}
use Rattle.captable.proofs.Beside.{keep_in, sets-kept, sets-number, sets-rows, sets-table}
use Rattle.captable.proofs.Changes.{no_entry}
use Rattle.captable.proofs.Absent.{all-stay, no-holder, other-client}
use Rattle.captable.proofs.Keeping.{filter-mapped, held, is_in}
use Rattle.captable.proofs.NodesAt.{is_held_by, nodes-changed, nodes-one}
use Rattle.captable.proofs.Numbers.{below-map, by_number-append, by_number-filter, once-map}
use Rattle.captable.proofs.Orders.{order-same}
use Rattle.captable.proofs.Reading.{entry-none}
use Rattle.captable.proofs.Searches.{filter-filter_kept}
use Rattle.captable.proofs.Tables.{same-is}

-- ---- what is found

find-mapped : {X Y : Type 0} (p : Y → Bool) (g : X → Y) (xs : List X) → find p (map g xs) ≡ option_map g (find (λ x. p (g x)) xs)
find-mapped p g [] = refl
find-mapped p g (x ∷ xs) =
    elim (p (g x)) as (λ b. cond b (Some (g x)) (find p (map g xs)) ≡ option_map g (cond b (Some x) (find (λ x. p (g x)) xs)))
    [ true ↦ refl | false ↦ find-mapped p g xs ]

-- the one that passes a test is found
find-one : {X : Type 0} (p : X → Bool) (xs : List X) (x : X) → filter p xs ≡ x ∷ [] → find p xs ≡ Some x
find-one p [] x one = absurd (cc)
find-one p (y ∷ ys) x one =
    elim (p y) as (λ b. cond b (y ∷ filter p ys) (filter p ys) ≡ x ∷ [] → cond b (Some y) (find p ys) ≡ Some x)
    [ true ↦ λ one. (let same : y ≡ x = cc in ap Some same) | false ↦ λ one. find-one p ys x one ] one

by_number-none : (m : ℕ) → by_number m [] ≡ []
by_number-none zero = refl
by_number-none (suc m) = ap (λ ns. ns ++ []) (by_number-none m)

-- a node by itself, whose number is below the end
by_number-one : (m : ℕ) (x : Node Slot) → x.value.number < m → by_number m (x ∷ []) ≡ x ∷ []
by_number-one zero x below = absurd (omega arith)
by_number-one (suc m) x below = by_test (nat_eq x.value.number m) refl (by_number-one m x)
  where
    by_test : (b : Bool) → nat_eq x.value.number m ≡ b → (x.value.number < m → by_number m (x ∷ []) ≡ x ∷ []) → by_number m (x ∷ []) ++ cond (nat_eq x.value.number m) (x ∷ []) [] ≡ x ∷ []
    by_test true e alone =
        let is : x.value.number ≡ m = eqb-true x.value.number m e in
        let before : by_number m (x ∷ []) ≡ [] = by_number-append m [] x (omega (arith, is)) ∙ by_number-none m in
        λ i. before i ++ cond (e i) (x ∷ []) []
    by_test false e alone =
        let differ = eqb-false x.value.number m e in
        let before : by_number m (x ∷ []) ≡ x ∷ [] = alone (omega (arith, differ)) in
        λ i. before i ++ cond (e i) (x ∷ []) []

below-one : (p : Node Slot → Bool) (ns : List (Node Slot)) (x : Node Slot) (end : ℕ) → filter p ns ≡ x ∷ [] → AreBelow end ns → x.value.number < end
below-one p [] x end one below = absurd (cc)
below-one p (n ∷ ns) x end one below =
    elim (p n) as (λ b. cond b (n ∷ filter p ns) (filter p ns) ≡ x ∷ [] → x.value.number < end)
    [ true ↦ λ one. (let same : n ≡ x = cc in subst (λ (m : Node Slot). m.value.number < end) same below.0) | false ↦ λ one. below-one p ns x end one below.1 ] one

-- ---- the sets of a holder, changed

-- nothing is kept of the holder
kept-stays : (kept : List KeptRow) (h : Holder) (f : ClientView → ClientView) → find (is_kept_of h) kept ≡ None → keeping kept h f ≡ kept
kept-stays [] h f none = refl
kept-stays (row ∷ kept) h f none =
    elim (is_kept_of h row) as (λ b. cond b (Some row) (find (is_kept_of h) kept) ≡ None → cond b (record row { sets = f row.sets }) row ∷ keeping kept h f ≡ row ∷ kept)
    [ true ↦ λ none. absurd (cc) | false ↦ λ none. ap (λ rest. row ∷ rest) (kept-stays kept h f none) ] none

pub nobody-kept : (kept : List KeptRow) (h : Holder) (f : ClientView → ClientView) → sets_beside kept h ≡ None → kept ≡ keeping kept h f
nobody-kept kept h f none = sym (kept-stays kept h f (no_row (find (is_kept_of h) kept) none))
  where
    no_row : (o : Option KeptRow) → option_map (λ (row : KeptRow). row.sets) o ≡ None → o ≡ None
    no_row None e = refl
    no_row (Some row) e = absurd (cc)

-- behind a row there is none of its holder
none-behind : (row : KeptRow) (kept : List KeptRow) (h : Holder) → is_kept_of h row ≡ true → AllByRecursion (λ k. same row.holder k ≡ false) (map (λ (r : KeptRow). r.holder) kept) → find (is_kept_of h) kept ≡ None
none-behind row [] h own apart = refl
none-behind row (r ∷ kept) h own apart =
    ap (λ k. cond (same k r.holder) (Some r) (find (is_kept_of h) kept)) (same-is h row.holder own)
    ∙ ap (λ b. cond b (Some r) (find (is_kept_of h) kept)) apart.0 ∙ none-behind row kept h own apart.1

-- the sets that were found, changed by f, are kept
pub found-kept : (kept : List KeptRow) (h : Holder) (s : ClientView) (f : ClientView → ClientView) → IsDistinct same (map (λ (row : KeptRow). row.holder) kept) → sets_beside kept h ≡ Some s
    → keeping kept h (λ _. f s) ≡ keeping kept h f
unfolding IsDistinct
found-kept [] h s f once there = refl
found-kept (row ∷ kept) h s f once there = by_test (is_kept_of h row) refl there (found-kept kept h s f once.1)
  where
    by_test : (b : Bool) → is_kept_of h row ≡ b → option_map (λ (r : KeptRow). r.sets) (cond b (Some row) (find (is_kept_of h) kept)) ≡ Some s
        → (sets_beside kept h ≡ Some s → keeping kept h (λ _. f s) ≡ keeping kept h f) → keeping (row ∷ kept) h (λ _. f s) ≡ keeping (row ∷ kept) h f
    by_test true own there later =
        let own_sets : row.sets ≡ s = cc in
        let none = none-behind row kept h own once.0 in
        let rest : keeping kept h (λ _. f s) ≡ keeping kept h f = kept-stays kept h (λ _. f s) none ∙ sym (kept-stays kept h f none) in
        λ i. cond (is_kept_of h row) (record row { sets = f (sym own_sets i) }) row ∷ rest i
    by_test false other there later = ap (λ rest. cond (is_kept_of h row) (record row { sets = f s }) row ∷ rest) (later there)
        ∙ ap (λ b. cond b (record row { sets = f s }) row ∷ keeping kept h f) other ∙ sym (ap (λ b. cond b (record row { sets = f row.sets }) row ∷ keeping kept h f) other)

-- what is kept of a client goes with each of its holders
pub kept-without-one : (kept : List KeptRow) (client : ClientId) (k : Holder) → (k.client.0 == client.0) ≡ true → kept_without_client (kept_without kept k) client ≡ kept_without_client kept client
kept-without-one kept client k of = filter-filter_kept (λ row. not (row.holder.client.0 == client.0)) (λ row. not (is_kept_of k row)) (λ row stays. other-client client k of row.holder stays) kept

-- where it has no entry, nothing is kept of it
pub kept-of-nobody : (t : KeptTable) (client : ClientId) → AreBeside t → first_holder (filter (is_of_client client) t.entries.rows) ≡ None → kept_without_client t.kept client ≡ t.kept
kept-of-nobody t client beside none =
    let p : Holder → Bool = λ h. h.client.0 == client.0 in
    all-stay (λ (row : KeptRow). p row.holder) t.kept
    (no_rows (filter (λ (row : KeptRow). p row.holder) t.kept) (sym (filter-mapped p (λ (row : KeptRow). row.holder) t.kept) ∙ ap (filter p) beside ∙ no-holder t.entries client none))
  where
    no_rows : (rows : List KeptRow) → map (λ (row : KeptRow). row.holder) rows ≡ [] → rows ≡ []
    no_rows [] e = refl
    no_rows (row ∷ rows) e = absurd (cc)

-- each holder's sets are kept once
pub kept-once : (t : KeptTable) → IsTable t.entries → AreBeside t → IsDistinct same (map (λ (row : KeptRow). row.holder) t.kept)
kept-once t is beside = subst (IsDistinct same) (sym beside) is.one_row

module _ (t : Lists Slot) (made : ℕ) (is : IsLinked t made) where
  pub are_beside : AreBeside (both_of t made)
  are_beside = same_holders (by_number made (nodes_in t OfRecall))
    where
      same_holders : (ns : List (Node Slot)) → map (λ (row : KeptRow). row.holder) (map kept_row_of ns) ≡ map (λ (row : EntryRow). row.holder) (map row_of ns)
      same_holders [] = refl
      same_holders (n ∷ ns) = ap (λ hs. holder_of n ∷ hs) (same_holders ns)

  -- a holder's key has the node beside whose entry they stand
  pub sets-found : (h : Holder) (key : ℕ) (n : Node Slot) → IsKeyOf t h key → node_at t key ≡ Some n → sets_beside (kept_of t made) h ≡ Some n.value.sets
  sets-found h key n found there =
      let o = held t made is h key found in
      let same_node : o.0 ≡ n = (let own = o.1.there in cc) in
      let ns = nodes_in t OfRecall in
      let one : filter (is_held_by h) ns ≡ o.0 ∷ [] =
      nodes-one (node_at t) h key o.0 o.1 (keys t OfRecall) (is.sound.lists OfRecall).once (is_in t is.sound OfRecall key o.0 o.1.there refl) in
      let only : filter (is_held_by h) (by_number made ns) ≡ o.0 ∷ [] =
      sym (by_number-filter (is_held_by h) made ns) ∙ ap (by_number made) one ∙ by_number-one made o.0 (below-one (is_held_by h) ns o.0 made one is.below) in
      ap (option_map (λ (row : KeptRow). row.sets)) (find-mapped (is_kept_of h) kept_row_of (by_number made ns) ∙ ap (option_map kept_row_of) (find-one (is_held_by h) (by_number made ns) o.0 only))
      ∙ ap (λ (m : Node Slot). Some m.value.sets) same_node

  -- the entries of some nodes, each with what is kept beside it
  pub kept-entries : (ks : List ℕ) → map kept_entry_of (nodes_at (node_at t) ks) ≡ map (kept_entry (kept_of t made)) (map row_of (nodes_at (node_at t) ks))
  kept-entries [] = refl
  kept-entries (key ∷ ks) = by_node (node_at t key) refl (kept-entries ks)
    where
      by_node : (o : Option (Node Slot)) → node_at t key ≡ o
          → map kept_entry_of (nodes_at (node_at t) ks) ≡ map (kept_entry (kept_of t made)) (map row_of (nodes_at (node_at t) ks))
          → map kept_entry_of (with_first o (nodes_at (node_at t) ks)) ≡ map (kept_entry (kept_of t made)) (map row_of (with_first o (nodes_at (node_at t) ks)))
      by_node None e rest = rest
      by_node (Some n) e rest =
          let own = sets-found (holder_of n) key n (ap (option_map holder_of) e) e in
          λ i. record { row = row_of n; sets = unwrap_or (sym own i) no_sets } ∷ rest i

  -- nothing is kept of who has no entry
  none-kept : (h : Holder) → ((key : ℕ) → is_key_of t h key ≡ false) → find (is_kept_of h) (kept_of t made) ≡ None
  none-kept h none =
      let ns = by_number made (nodes_in t OfRecall) in
      let row : find (is_row_of h) (map row_of ns) ≡ None = no_entry (find (is_row_of h) (map row_of ns)) (entry-none t made is h none) in
      find-mapped (is_kept_of h) kept_row_of ns ∙ ap (option_map kept_row_of) (unfound (find (is_held_by h) ns) (sym (find-mapped (is_row_of h) row_of ns) ∙ row))
    where
      unfound : (o : Option (Node Slot)) → option_map row_of o ≡ None → o ≡ None
      unfound None e = refl
      unfound (Some n) e = absurd (cc)

  pub sets-none : (h : Holder) → ((key : ℕ) → is_key_of t h key ≡ false) → sets_beside (kept_of t made) h ≡ None
  sets-none h none = ap (option_map (λ (row : KeptRow). row.sets)) (none-kept h none)

  pub kept-without-none : (h : Holder) → ((key : ℕ) → is_key_of t h key ≡ false) → kept_without (kept_of t made) h ≡ kept_of t made
  kept-without-none h none = all-stay (is_kept_of h) (kept_of t made) (unfiltered (is_kept_of h) (kept_of t made) (none-kept h none))
    where
      unfiltered : (p : KeptRow → Bool) (rows : List KeptRow) → find p rows ≡ None → filter p rows ≡ []
      unfiltered p [] e = refl
      unfiltered p (row ∷ rows) e =
          elim (p row) as (λ b. cond b (Some row) (find p rows) ≡ None → cond b (row ∷ filter p rows) (filter p rows) ≡ [])
          [ true ↦ λ e. absurd (cc) | false ↦ λ e. unfiltered p rows e ] e

  pub keeping-nobody : (h : Holder) (f : ClientView → ClientView) → ((key : ℕ) → is_key_of t h key ≡ false) → kept_of t made ≡ keeping (kept_of t made) h f
  keeping-nobody h f none = sym (kept-stays (kept_of t made) h f (none-kept h none))

-- ---- other sets beside an entry

module _ (t t' : Lists Slot) (made : ℕ) (h : Holder) (key : ℕ) (s : ClientView) (is : IsLinked t made) (found : IsKeyOf t h key) (keeps : KeepsSets t t' key s) where
  nodes-now : (name : ListName) → nodes_in t' name ≡ map (keep_in h s) (nodes_in t name)
  nodes-now name =
      let o = held t made is h key found in
      ap (nodes_at (node_at t')) (keeps.lists name) ∙ nodes-changed (node_at t) (node_at t') h key o.0 (node_with_sets s) o.1 keeps.nodes (keys t name)

  pub table-kept : table_of t' made ≡ table_of t made
  table-kept = ap (λ ns. table_by ns made) (nodes-now OfRecall) ∙ sets-table (nodes_in t OfRecall) h s made

  pub sets-put : kept_of t' made ≡ keeping (kept_of t made) h (λ _. s)
  sets-put = ap (λ ns. kept_by ns made) (nodes-now OfRecall) ∙ sets-kept (nodes_in t OfRecall) h s made

  list-now : (name : ListName) → map row_of (nodes_in t' name) ≡ map row_of (nodes_in t name)
  list-now name = ap (map row_of) (nodes-now name) ∙ sets-rows h s (nodes_in t name)

  number-stays : (k : ℕ) → number_at t' k ≡ number_at t k
  number-stays k = ap (λ o. option_map_or (λ (node : Node Slot). node.value.number) o 0) (keeps.nodes k) ∙ by_test (nat_eq k key) (node_at t k)
    where
      by_test : (b : Bool) (o : Option (Node Slot)) → option_map_or (λ (node : Node Slot). node.value.number) (cond b (option_map (node_with_sets s) o) o) 0 ≡ option_map_or (λ (node : Node Slot). node.value.number) o 0
      by_test true None = refl
      by_test true (Some m) = refl
      by_test false o = refl

  pub IsLinked-stays : IsLists t' → IsLinked t' made
  IsLinked-stays sound =
      record {
        sound = sound;
        table = subst IsTable (sym table-kept) is.table;
        below = subst (AreBelow made) (sym (nodes-now OfRecall)) (below-map (keep_in h s) (sets-number h s) (nodes_in t OfRecall) made is.below);
        once = λ number. subst (λ ns. length (filter (has_number number) ns) ≤ 1) (sym (nodes-now OfRecall)) (once-map (keep_in h s) (sets-number h s) (nodes_in t OfRecall) is.once number);
        inodes = λ ino. list-now (OfInode ino) ∙ is.inodes ino ∙ ap (λ (u : Table). filter (is_of_inode ino) u.rows) (sym table-kept);
        clients = λ client. list-now (OfClient client) ∙ is.clients client ∙ ap (λ (u : Table). filter (is_of_client client) u.rows) (sym table-kept);
        ordered = λ client.
            subst (AreInOrder (number_at t')) (sym (keeps.lists (OfClient client))) (order-same (number_at t) (number_at t') (keys t (OfClient client)) (λ k there. number-stays k) (is.ordered client));
      }
