-- A table's parts, where a node was taken out.
use Rattle.std.proofs.Common.{◌≡◌, ℕ, ◌≤◌, Bool, false, not, cond, None, map, filter, length, sym, ap, subst, ◌∙◌, nat_eq}
use Rattle.std.specs.Option.{option_map_or}
use Rattle.std.specs.Cmp.{nat_eq_equiv}
use Rattle.capbits.specs.declared.ids.ClientId.{ClientId}
use Rattle.cap_arena.specs.declared.nodes.Node.{Node}
use Rattle.cap_arena.specs.Calls.{Removes, keys_without}
use Rattle.cap_arena.specs.Lists.{IsLists, ListName, Lists, OfClient, OfInode, OfRecall, keys, node_at}
use Rattle.captable.specs.declared.entry.Holder.{Holder}
use Rattle.captable.specs.declared.entry.EntryRow.{EntryRow}
use Rattle.captable.specs.declared.entry.Slot.{Slot}
use Rattle.captable.specs.Table.{IsTable, Table, is_row_of}
use Rattle.captable.specs.Calls.{is_of_client, is_of_inode, without}
use Rattle.captable.specs.Kept.{kept_without}
use Rattle.captable.specs.Nodes.{IsKeyOf, has_number, kept_by, kept_of, nodes_at, nodes_in, row_of, table_by, table_of}
use Rattle.captable.specs.Linked.{AreBelow, IsLinked}
use Rattle.captable.specs.Places.{AreInOrder, number_at}
use Rattle.captable.proofs.Orders.{left-apart, order-left, order-same}
use Rattle.captable.proofs.Tables.{IsTable-without}
use Rattle.captable.proofs.Searches.{filter-filter}
use Rattle.captable.proofs.NodesAt.{is_held_by, nodes-removed}
use Rattle.captable.proofs.Numbers.{below-filter, once-filter}
use Rattle.captable.proofs.Beside.{kept-removed}
use Rattle.captable.proofs.Keeping.{filter-mapped, held, table-removed}

module _ (t t' : Lists Slot) (made : ℕ) (h : Holder) (key : ℕ) (is : IsLinked t made) (found : IsKeyOf t h key) (removes : Removes t t' key) where
  nodes-left : (name : ListName) → nodes_in t' name ≡ filter (λ m. not (is_held_by h m)) (nodes_in t name)
  nodes-left name =
      let o = held t made is h key found in
      ap (nodes_at (node_at t')) (removes.lists name)
      ∙ nodes-removed (node_at t) h key o.0 o.1 (node_at t') (λ k apart. removes.nodes k ∙ ap (λ b. cond b None (node_at t k)) (nat_eq_equiv.symm k key ∙ apart)) (keys t name)

  pub table-left : table_of t' made ≡ without (table_of t made) h
  table-left = ap (λ ns. table_by ns made) (nodes-left OfRecall) ∙ table-removed (nodes_in t OfRecall) h made

  pub kept-left : kept_of t' made ≡ kept_without (kept_of t made) h
  kept-left = ap (λ ns. kept_by ns made) (nodes-left OfRecall) ∙ kept-removed (nodes_in t OfRecall) h made

  list-left : (name : ListName) (q : EntryRow → Bool) → map row_of (nodes_in t name) ≡ filter q (table_of t made).rows → map row_of (nodes_in t' name) ≡ filter q (table_of t' made).rows
  list-left name q was =
      ap (map row_of) (nodes-left name) ∙ sym (filter-mapped (λ row. not (is_row_of h row)) row_of (nodes_in t name)) ∙ ap (filter (λ row. not (is_row_of h row))) was
      ∙ sym (filter-filter q (λ row. not (is_row_of h row)) (table_of t made).rows) ∙ ap (λ (u : Table). filter q u.rows) (sym table-left)

  ordered-left : (client : ClientId) → AreInOrder (number_at t') (keys t' (OfClient client))
  ordered-left client =
      let ks = keys t (OfClient client) in
      subst (AreInOrder (number_at t')) (sym (removes.lists (OfClient client)))
      (order-same (number_at t) (number_at t') (keys_without ks key) (λ k there. number-stays k (nat_eq_equiv.symm k key ∙ left-apart ks key k there)) (order-left (number_at t) ks key (is.ordered client)))
    where
      number-stays : (k : ℕ) → nat_eq k key ≡ false → number_at t' k ≡ number_at t k
      number-stays k apart = ap (λ o. option_map_or (λ (node : Node Slot). node.value.number) o 0) (removes.nodes k ∙ ap (λ b. cond b None (node_at t k)) apart)

  pub IsLinked-left : IsLists t' → IsLinked t' made
  IsLinked-left sound =
      record {
        sound = sound;
        table = subst IsTable (sym table-left) (IsTable-without (table_of t made) h is.table);
        below = subst (AreBelow made) (sym (nodes-left OfRecall)) (below-filter (λ m. not (is_held_by h m)) (nodes_in t OfRecall) made is.below);
        once = λ number. subst (λ ns. length (filter (has_number number) ns) ≤ 1) (sym (nodes-left OfRecall)) (once-filter (λ m. not (is_held_by h m)) (nodes_in t OfRecall) is.once number);
        inodes = λ ino. list-left (OfInode ino) (is_of_inode ino) (is.inodes ino);
        clients = λ client. list-left (OfClient client) (is_of_client client) (is.clients client);
        ordered = λ client. ordered-left client;
      }
