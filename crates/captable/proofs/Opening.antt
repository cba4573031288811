-- A table's parts, where a node was added.
use Rattle.std.proofs.Common.{◌≡◌, ℕ, ◌+◌, ◌<◌, ◌≤◌, Bool, true, false, cond, Some, None, [], ◌∷◌, ◌++◌, map, filter, length, refl, sym, ap, subst, ◌∙◌, arith}
use Rattle.std.proofs.Common.{nat_eq, suc, append-nil}
use Rattle.std.specs.Option.{option_map_or}
use Rattle.std.proofs.lemmas.Bool.{eq-eqb, eqb-true}
use Rattle.std.proofs.lemmas.List.{map-append}
use Rattle.std.proofs.lemmas.List.Elements.{filter-append}
use Rattle.capbits.specs.Refusal.{first_failing}
use Rattle.capbits.specs.declared.ids.ClientId.{ClientId}
use Rattle.cap_arena.specs.declared.nodes.Node.{Node}
use Rattle.cap_arena.specs.Walks.{is_among}
use Rattle.cap_arena.specs.Calls.{Adds}
use Rattle.cap_arena.specs.Lists.{IsLists, ListName, Lists, OfClient, OfInode, OfRecall, belongs, keys, node_at}
use Rattle.captable.specs.declared.entry.EntryRow.{EntryRow}
use Rattle.captable.specs.declared.entry.Slot.{Slot}
use Rattle.captable.specs.Table.{IsTable, Table, entry_at, same}
use Rattle.captable.specs.Calls.{is_of_client, is_of_inode, new_entry, opened}
use Rattle.captable.specs.Kept.{kept_more, no_sets}
use Rattle.captable.specs.Tests.{open_tests}
use Rattle.captable.specs.Nodes.{has_number, holder_of, kept_by, kept_of, nodes_at, nodes_in, row_of, table_by, table_of, with_first}
use Rattle.captable.specs.Linked.{AreBelow, IsLinked}
use Rattle.captable.specs.Places.{AreInOrder, number_at}
use Rattle.captable.proofs.Orders.{order-same, order-wider}
use Rattle.captable.proofs.Tables.{IsTable-opened}
use Rattle.captable.proofs.NodesAt.{nodes-append, nodes-same}
use Rattle.captable.proofs.Numbers.{below-append, below-more, once-next}
use Rattle.captable.proofs.Beside.{kept-added}
use Rattle.captable.proofs.Keeping.{not_in, number-below, table-added}

module _ (t t' : Lists Slot) (made : ℕ) (key : ℕ) (x : Node Slot) (is : IsLinked t made) (adds : Adds t t' key x)
    (entry : x.value.entry ≡ new_entry) (number : x.value.number ≡ made) (new : entry_at (table_of t made) (holder_of x) ≡ None) where
  -- the nodes that were there
  node-before : (name : ListName) (k : ℕ) → is_among (keys t name) k ≡ true → node_at t' k ≡ node_at t k
  node-before name k there = alike (nat_eq k key) refl
    where
      alike : (b : Bool) → nat_eq k key ≡ b → node_at t' k ≡ node_at t k
      alike false e = adds.nodes k ∙ ap (λ b. cond b (Some x) (node_at t k)) e
      alike true e =
          let same_key : k ≡ key = eqb-true k key e in
          let out : is_among (keys t name) key ≡ false = not_in t is.sound name key adds.was_free in
          absurd (let c : is_among (keys t name) key ≡ true = ap (is_among (keys t name)) (sym same_key) ∙ there in cc)

  nodes-before : (name : ListName) → nodes_at (node_at t') (keys t name) ≡ nodes_in t name
  nodes-before name = nodes-same (node_at t) (node_at t') (keys t name) (node-before name)

  own-node : node_at t' key ≡ Some x
  own-node = adds.nodes key ∙ ap (λ b. cond b (Some x) (node_at t key)) (eq-eqb key key refl)

  nodes-more : (name : ListName) → nodes_in t' name ≡ nodes_in t name ++ cond (belongs name x) (x ∷ []) []
  nodes-more name = ap (nodes_at (node_at t')) (adds.lists name) ∙ by_test (belongs name x)
    where
      by_test : (b : Bool) → nodes_at (node_at t') (cond b (keys t name ++ key ∷ []) (keys t name)) ≡ nodes_in t name ++ cond b (x ∷ []) []
      by_test true = nodes-append (node_at t') (keys t name) (key ∷ []) ∙ (λ i. nodes-before name i ++ with_first (own-node i) [])
      by_test false = nodes-before name ∙ sym (append-nil (nodes_in t name))

  pub table-more : table_of t' (made + 1) ≡ opened (table_of t made) (holder_of x)
  table-more = ap (λ ns. table_by ns (made + 1)) (nodes-more OfRecall) ∙ table-added (nodes_in t OfRecall) x made entry number is.below

  pub kept-more : x.value.sets ≡ no_sets → kept_of t' (made + 1) ≡ kept_more (kept_of t made) (holder_of x)
  kept-more sets = ap (λ ns. kept_by ns (made + 1)) (nodes-more OfRecall) ∙ kept-added (nodes_in t OfRecall) x made sets number is.below

  list-more : (name : ListName) (q : EntryRow → Bool) → q (row_of x) ≡ belongs name x → map row_of (nodes_in t name) ≡ filter q (table_of t made).rows
      → map row_of (nodes_in t' name) ≡ filter q (table_of t' (made + 1)).rows
  list-more name q same was =
      ap (map row_of) (nodes-more name) ∙ map-append row_of (nodes_in t name) (cond (belongs name x) (x ∷ []) []) ∙ (λ i. was i ++ last (belongs name x) i)
      ∙ ap (λ b. filter q (table_of t made).rows ++ cond b (row_of x ∷ []) []) (sym same) ∙ sym (filter-append q (table_of t made).rows (row_of x ∷ []))
      ∙ ap (λ e. filter q ((table_of t made).rows ++ record { holder = holder_of x; entry = e } ∷ [])) entry ∙ ap (λ (u : Table). filter q u.rows) (sym table-more)
    where
      last : (b : Bool) → map row_of (cond b (x ∷ []) []) ≡ cond b (row_of x ∷ []) []
      last true = refl
      last false = refl

  -- numbers rise
  ordered-more : (client : ClientId) → AreInOrder (number_at t') (keys t' (OfClient client))
  ordered-more client = subst (AreInOrder (number_at t')) (sym (adds.lists (OfClient client))) (by_test (belongs (OfClient client) x))
    where
      stays : (k : ℕ) → is_among (keys t (OfClient client)) k ≡ true → number_at t' k ≡ number_at t k
      stays k there = ap (λ o. option_map_or (λ (node : Node Slot). node.value.number) o 0) (node-before (OfClient client) k there)

      own : number_at t' key ≡ made
      own = ap (λ o. option_map_or (λ (node : Node Slot). node.value.number) o 0) own-node ∙ number

      less : (k : ℕ) → is_among (keys t (OfClient client)) k ≡ true → number_at t' k < number_at t' key
      less k there = omega (arith, stays k there, own, number-below t is.sound made is.below (OfClient client) k there)

      by_test : (b : Bool) → AreInOrder (number_at t') (cond b (keys t (OfClient client) ++ key ∷ []) (keys t (OfClient client)))
      by_test true = order-wider (number_at t') (keys t (OfClient client)) key less (order-same (number_at t) (number_at t') (keys t (OfClient client)) stays (is.ordered client))
      by_test false = order-same (number_at t) (number_at t') (keys t (OfClient client)) stays (is.ordered client)

  pub IsLinked-more : IsLists t' → first_failing (open_tests (table_of t made)) ≡ None → IsLinked t' (made + 1)
  IsLinked-more sound passed =
      let next : made + 1 ≡ suc made = omega arith in
      record {
        sound = sound;
        table = subst IsTable (sym table-more) (IsTable-opened (table_of t made) (holder_of x) new passed is.table);
        below = subst (AreBelow (made + 1)) (sym (nodes-more OfRecall)) (rw next (below-append (nodes_in t OfRecall) (x ∷ []) (suc made) (below-more (nodes_in t OfRecall) made is.below) (omega (arith, number), tt)));
        once = λ a. subst (λ ns. length (filter (has_number a) ns) ≤ 1) (sym (nodes-more OfRecall)) (once-next (nodes_in t OfRecall) x made number is.below is.once a);
        inodes = λ ino. list-more (OfInode ino) (is_of_inode ino) refl (is.inodes ino);
        clients = λ client. list-more (OfClient client) (is_of_client client) refl (is.clients client);
        ordered = λ client. ordered-more client;
      }
