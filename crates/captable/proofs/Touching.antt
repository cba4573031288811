-- A table's parts, where a node became the last one in the order of recall.
use Rattle.std.proofs.Common.{◌≡◌, ℕ, ◌≤◌, not, List, [], ◌∷◌, ◌++◌, map, filter, length, refl, sym, ap, subst, ◌∙◌}
use Rattle.std.specs.Option.{option_map_or}
use Rattle.cap_arena.specs.declared.nodes.Node.{Node}
use Rattle.cap_arena.specs.Calls.{Touches, keys_without}
use Rattle.cap_arena.specs.Lists.{IsLists, ListName, Lists, OfClient, OfInode, OfRecall, keys, node_at}
use Rattle.captable.specs.declared.entry.Holder.{Holder}
use Rattle.captable.specs.declared.entry.Slot.{Slot}
use Rattle.captable.specs.Table.{IsTable, Table, same}
use Rattle.captable.specs.Calls.{is_of_client, is_of_inode, touched}
use Rattle.captable.specs.Nodes.{IsKeyOf, has_number, kept_by, kept_of, nodes_at, nodes_in, row_of, table_by, table_of, with_first}
use Rattle.captable.specs.Linked.{AreBelow, IsLinked}
use Rattle.captable.specs.Places.{AreInOrder, number_at}
use Rattle.captable.proofs.Orders.{order-same}
use Rattle.captable.proofs.Moves.{IsTable-touched}
use Rattle.captable.proofs.NodesAt.{is_held_by, nodes-append, nodes-one, nodes-removed, nodes-same}
use Rattle.captable.proofs.Numbers.{below-append, below-filter, number-moved}
use Rattle.captable.proofs.Beside.{kept-touched}
use Rattle.captable.proofs.Keeping.{held, is_in, table-touched}

module _ (t t' : Lists Slot) (made : ℕ) (h : Holder) (key : ℕ) (is : IsLinked t made) (found : IsKeyOf t h key) (touches : Touches t t' key) where
  -- the nodes in the order of recall, this one last
  moved : List (Node Slot)
  moved = filter (λ m. not (is_held_by h m)) (nodes_in t OfRecall) ++ filter (is_held_by h) (nodes_in t OfRecall)

  recall-now : nodes_in t' OfRecall ≡ moved
  unfolding moved
  recall-now =
      let ks = keys t OfRecall in
      let o = held t made is h key found in
      let last : nodes_at (node_at t) (key ∷ []) ≡ filter (is_held_by h) (nodes_in t OfRecall) =
      ap (λ q. with_first q []) o.1.there ∙ sym (nodes-one (node_at t) h key o.0 o.1 ks (is.sound.lists OfRecall).once (is_in t is.sound OfRecall key o.0 o.1.there refl)) in
      let others : nodes_at (node_at t) (keys_without ks key) ≡ filter (λ m. not (is_held_by h m)) (nodes_in t OfRecall) = nodes-removed (node_at t) h key o.0 o.1 (node_at t) (λ k e. refl) ks in
      ap (nodes_at (node_at t')) touches.recall ∙ nodes-same (node_at t) (node_at t') (keys_without ks key ++ key ∷ []) (λ k there. touches.nodes k)
      ∙ nodes-append (node_at t) (keys_without ks key) (key ∷ []) ∙ (λ i. others i ++ last i)

  pub table-moved : table_of t' made ≡ touched (table_of t made) h
  unfolding moved
  table-moved = ap (λ ns. table_by ns made) recall-now ∙ table-touched (nodes_in t OfRecall) h made is.once

  pub kept-moved : kept_of t' made ≡ kept_of t made
  unfolding moved
  kept-moved = ap (λ ns. kept_by ns made) recall-now ∙ kept-touched (nodes_in t OfRecall) h made is.once

  nodes-stay : (name : ListName) → keys t' name ≡ keys t name → nodes_in t' name ≡ nodes_in t name
  nodes-stay name same = ap (nodes_at (node_at t')) same ∙ nodes-same (node_at t) (node_at t') (keys t name) (λ k there. touches.nodes k)

  below-now : AreBelow made moved
  unfolding moved
  below-now =
      below-append (filter (λ m. not (is_held_by h m)) (nodes_in t OfRecall)) (filter (is_held_by h) (nodes_in t OfRecall)) made
      (below-filter (λ m. not (is_held_by h m)) (nodes_in t OfRecall) made is.below) (below-filter (is_held_by h) (nodes_in t OfRecall) made is.below)

  once-now : (number : ℕ) → length (filter (has_number number) moved) ≤ 1
  unfolding moved
  once-now number = rw (number-moved (is_held_by h) (nodes_in t OfRecall) number (is.once number)) (is.once number)

  pub IsLinked-touched : IsLists t' → IsLinked t' made
  IsLinked-touched sound =
      record {
        sound = sound;
        table = subst IsTable (sym table-moved) (IsTable-touched (table_of t made) h is.table);
        below = subst (AreBelow made) (sym recall-now) below-now;
        once = λ number. subst (λ ns. length (filter (has_number number) ns) ≤ 1) (sym recall-now) (once-now number);
        inodes = λ ino. ap (map row_of) (nodes-stay (OfInode ino) (touches.inodes ino)) ∙ is.inodes ino ∙ ap (λ (u : Table). filter (is_of_inode ino) u.rows) (sym table-moved);
        clients = λ client. ap (map row_of) (nodes-stay (OfClient client) (touches.clients client)) ∙ is.clients client ∙ ap (λ (u : Table). filter (is_of_client client) u.rows) (sym table-moved);
        ordered = λ client.
            subst (AreInOrder (number_at t')) (sym (touches.clients client))
            (order-same (number_at t) (number_at t') (keys t (OfClient client)) (λ k there. ap (λ o. option_map_or (λ (node : Node Slot). node.value.number) o 0) (touches.nodes k)) (is.ordered client));
      }
