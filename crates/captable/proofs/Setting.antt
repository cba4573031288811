-- A table's parts, where an entry was changed.
use Rattle.std.proofs.Common.{◌≡◌, ℕ, ◌≤◌, Bool, true, false, cond, Option, Some, None, map, filter, length, refl, sym, ap, subst, ◌∙◌, nat_eq}
use Rattle.std.specs.Option.{option_map, option_map_or}
use Rattle.cap_arena.specs.declared.nodes.Node.{Node}
use Rattle.cap_arena.specs.Lists.{IsLists, ListName, Lists, OfClient, OfInode, OfRecall, keys, node_at}
use Rattle.captable.specs.declared.entry.Holder.{Holder}
use Rattle.captable.specs.declared.entry.Entry.{Entry}
use Rattle.captable.specs.declared.entry.EntryRow.{EntryRow}
use Rattle.captable.specs.declared.entry.Slot.{Slot}
use Rattle.captable.specs.Table.{IsTable, is_row_of}
use Rattle.captable.specs.Calls.{changed, is_of_client, is_of_inode}
use Rattle.captable.specs.Nodes.{IsKeyOf, SetsEntry, has_number, kept_by, kept_of, node_with_entry, nodes_at, nodes_in, row_of, table_by, table_of}
use Rattle.captable.specs.Linked.{AreBelow, IsLinked}
use Rattle.captable.specs.Places.{AreInOrder, number_at}
use Rattle.captable.proofs.Orders.{order-same}
use Rattle.captable.proofs.Tables.{IsTable-changed}
use Rattle.captable.proofs.Searches.{filter-map}
use Rattle.captable.proofs.OneByOne.{same_holder}
use Rattle.captable.proofs.NodesAt.{nodes-set, set_in}
use Rattle.captable.proofs.Beside.{kept-entry}
use Rattle.captable.proofs.Numbers.{below-map, once-map}
use Rattle.captable.proofs.Keeping.{held, keeps_number, row_in, rows-changed, rows-set, table-set}

module _ (t t' : Lists Slot) (made : ℕ) (h : Holder) (key : ℕ) (x : Entry) (is : IsLinked t made) (found : IsKeyOf t h key)
    (sets : SetsEntry t t' key x) where
  nodes-now : (name : ListName) → nodes_in t' name ≡ map (set_in h x) (nodes_in t name)
  nodes-now name =
      let o = held t made is h key found in
      ap (nodes_at (node_at t')) (sets.lists name) ∙ nodes-set (node_at t) (node_at t') h key o.0 x o.1 sets.nodes (keys t name)

  pub table-put : table_of t' made ≡ changed (table_of t made) h (λ _. x)
  table-put = ap (λ ns. table_by ns made) (nodes-now OfRecall) ∙ table-set (nodes_in t OfRecall) h x made is.table

  pub kept-put : kept_of t' made ≡ kept_of t made
  kept-put = ap (λ ns. kept_by ns made) (nodes-now OfRecall) ∙ kept-entry (nodes_in t OfRecall) h x made

  rows-now : (table_of t' made).rows ≡ map (row_in h x) (table_of t made).rows
  rows-now = ap (λ ns. (table_by ns made).rows) (nodes-now OfRecall) ∙ rows-changed (nodes_in t OfRecall) h x made

  -- the rows of one list, which keeps a test of holders
  list-now : (name : ListName) (q : EntryRow → Bool) → ((row : EntryRow) → q (row_in h x row) ≡ q row) → map row_of (nodes_in t name) ≡ filter q (table_of t made).rows
      → map row_of (nodes_in t' name) ≡ filter q (table_of t' made).rows
  list-now name q keeps was =
      ap (map row_of) (nodes-now name) ∙ rows-set h x (nodes_in t name) ∙ ap (map (row_in h x)) was ∙ sym (filter-map q (row_in h x) keeps (table_of t made).rows) ∙ ap (filter q) (sym rows-now)

  number-stays : (k : ℕ) → number_at t' k ≡ number_at t k
  number-stays k = ap (λ o. option_map_or (λ (node : Node Slot). node.value.number) o 0) (sets.nodes k) ∙ by_test (nat_eq k key) (node_at t k)
    where
      by_test : (b : Bool) (o : Option (Node Slot)) → option_map_or (λ (node : Node Slot). node.value.number) (cond b (option_map (node_with_entry x) o) o) 0 ≡ option_map_or (λ (node : Node Slot). node.value.number) o 0
      by_test true None = refl
      by_test true (Some m) = refl
      by_test false o = refl

  pub IsLinked-put : IsLists t' → IsLinked t' made
  IsLinked-put sound =
      record {
        sound = sound;
        table = subst IsTable (sym table-put) (IsTable-changed (table_of t made) h (λ _. x) is.table);
        below = subst (AreBelow made) (sym (nodes-now OfRecall)) (below-map (set_in h x) (keeps_number h x) (nodes_in t OfRecall) made is.below);
        once = λ number. subst (λ ns. length (filter (has_number number) ns) ≤ 1) (sym (nodes-now OfRecall)) (once-map (set_in h x) (keeps_number h x) (nodes_in t OfRecall) is.once number);
        inodes = λ ino. list-now (OfInode ino) (is_of_inode ino) (λ row. ap (λ (k : Holder). is_of_inode ino (record row { holder = k })) (same_holder (λ _. x) row (is_row_of h row))) (is.inodes ino);
        clients = λ client. list-now (OfClient client) (is_of_client client) (λ row. ap (λ (k : Holder). is_of_client client (record row { holder = k })) (same_holder (λ _. x) row (is_row_of h row))) (is.clients client);
        ordered = λ client.
            subst (AreInOrder (number_at t')) (sym (sets.lists (OfClient client))) (order-same (number_at t) (number_at t') (keys t (OfClient client)) (λ k there. number-stays k) (is.ordered client));
      }
