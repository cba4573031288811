-- What the parts of a table answer.
use Rattle.std.proofs.Common.{◌≡◌, ℕ, true, false, Option, Some, None, IsSome, is_some, List, [], ◌∷◌, filter, map, length, slice_get, refl, sym, ap, ◌∙◌}
use Rattle.std.proofs.Common.{nat_le, suc}
use Rattle.std.specs.Prelude.{◌==◌}
use Rattle.std.specs.List.{find}
use Rattle.std.specs.Option.{option_and_then, option_map}
use Rattle.std.proofs.lemmas.Bool.{eq-eqb}
use Rattle.cap_arena.specs.declared.nodes.Node.{Node}
use Rattle.capbits.specs.declared.refusal.Refusal.TheVariants.{Limit}
use Rattle.capbits.specs.Refusal.{first_failing, refused_if}
use Rattle.cap_arena.specs.Walks.{key_after}
use Rattle.cap_arena.specs.Calls.{add_tests}
use Rattle.cap_arena.specs.Lists.{ListName, Lists, OfClient, OfInode, OfRecall, count, keys, node_at}
use Rattle.cap_arena.proofs.Counts.{length-recall}
use Rattle.captable.specs.declared.entry.Holder.{Holder}
use Rattle.captable.specs.declared.entry.EntryRow.{EntryRow}
use Rattle.captable.specs.declared.entry.Slot.{Slot}
use Rattle.captable.specs.Table.{entry_at, entry_of, holders_of_rows, is_row_of}
use Rattle.captable.specs.Calls.{entries_on, is_of_client, is_of_inode, newer_in}
use Rattle.captable.specs.Tests.{open_tests}
use Rattle.captable.specs.Nodes.{AreLists, IsKeyOf, by_number, holder_of, is_key_of, nodes_in, row_of, table_of}
use Rattle.captable.specs.Walks.{first_holder}
use Rattle.captable.specs.Linked.{IsLinked}
use Rattle.captable.proofs.Tables.{same-is}
use Rattle.captable.proofs.Searches.{find-filter_kept}
use Rattle.captable.proofs.Numbers.{length-by_number}
use Rattle.captable.proofs.NodesAt.{find-free, find-held, first-held, length-nodes, newer-free, newer-held}
use Rattle.captable.proofs.Keeping.{all_have, free, held, is_in}

length-mapped : {X Y : Type 0} (f : X → Y) (xs : List X) → length (map f xs) ≡ length xs
length-mapped f [] = refl
length-mapped f (x ∷ xs) = ap suc (length-mapped f xs)

module _ (t : Lists Slot) (made : ℕ) (is : IsLinked t made) where
  -- the row of a holder is found among those on its inode
  on_inode : (h : Holder) → find (is_row_of h) (table_of t made).rows ≡ find (is_row_of h) (map row_of (nodes_in t (OfInode h.ino)))
  on_inode h =
      sym (find-filter_kept (is_row_of h) (is_of_inode h.ino) (λ row own. ap (λ (k : Holder). k.ino.0 == h.ino.0) (sym (same-is h row.holder own)) ∙ eq-eqb h.ino.0 h.ino.0 refl) (table_of t made).rows)
      ∙ ap (find (is_row_of h)) (sym (is.inodes h.ino))

  pub entry-found : (h : Holder) (key : ℕ) (n : Node Slot) → IsKeyOf t h key → node_at t key ≡ Some n → entry_at (table_of t made) h ≡ Some n.value.entry
  entry-found h key n found there =
      let o = held t made is h key found in
      let same_node : o.0 ≡ n = (let own = o.1.there in cc) in
      let of : (n.ino.0 == h.ino.0) ≡ true = ap (λ (k : Holder). k.ino.0 == h.ino.0) (sym (ap holder_of same_node) ∙ o.2) ∙ eq-eqb h.ino.0 h.ino.0 refl in
      ap entry_of (on_inode h ∙ find-held (node_at t) h key o.0 o.1 (keys t (OfInode h.ino)) (is_in t is.sound (OfInode h.ino) key n there of) ∙ ap (λ m. Some (row_of m)) same_node)

  pub entry-none : (h : Holder) → ((key : ℕ) → is_key_of t h key ≡ false) → entry_at (table_of t made) h ≡ None
  entry-none h none = ap entry_of (on_inode h ∙ find-free (node_at t) h (free t h none) (keys t (OfInode h.ino)))

  -- a key that is kept has a node
  pub no_hole : (h : Holder) (key : ℕ) → IsKeyOf t h key → node_at t key ≡ None → ⊥
  no_hole h key found none = let o = held t made is h key found in (let own = o.1.there in absurd (cc))

  pub newer-found : (h : Holder) (key : ℕ) → IsKeyOf t h key → newer_in (table_of t made).recall h ≡ option_and_then (λ k. option_map holder_of (node_at t k)) (key_after (keys t OfRecall) key)
  newer-found h key found =
      let o = held t made is h key found in
      newer-held (node_at t) h key o.0 o.1 (keys t OfRecall) (all_have t is.sound OfRecall)

  -- ---- the holders of a list's rows

  module _ (name : ListName) (rows : List EntryRow) (are : map row_of (nodes_in t name) ≡ rows) where
    holders-in : map holder_of (nodes_in t name) ≡ holders_of_rows rows
    holders-in = sym (of_rows (nodes_in t name)) ∙ ap holders_of_rows are
      where
        of_rows : (ns : List (Node Slot)) → holders_of_rows (map row_of ns) ≡ map holder_of ns
        of_rows [] = refl
        of_rows (n ∷ ns) = ap (λ hs. holder_of n ∷ hs) (of_rows ns)

    -- that of the first node
    pub first-in : (o : Option ℕ) → o ≡ slice_get (keys t name) 0 → option_and_then (λ k. option_map holder_of (node_at t k)) o ≡ first_holder rows
    first-in o first =
        ap (λ o. option_and_then (λ k. option_map holder_of (node_at t k)) o) first ∙ sym (first-held (node_at t) (keys t name) (all_have t is.sound name))
        ∙ ap (λ hs. slice_get hs 0) holders-in

    next-in : (h : Holder) (key : ℕ) → IsKeyOf t h key → newer_in (holders_of_rows rows) h ≡ option_and_then (λ k. option_map holder_of (node_at t k)) (key_after (keys t name) key)
    next-in h key found =
        let o = held t made is h key found in
        ap (λ hs. newer_in hs h) (sym holders-in) ∙ newer-held (node_at t) h key o.0 o.1 (keys t name) (all_have t is.sound name)

    -- where the holder has no node
    pub none-next : (h : Holder) → ((key : ℕ) → is_key_of t h key ≡ false) → newer_in (holders_of_rows rows) h ≡ None
    none-next h none = ap (λ hs. newer_in hs h) (sym holders-in) ∙ newer-free (node_at t) h (free t h none) (keys t name)

  -- the holder after one, in the list of its node
  pub next-on : (h : Holder) (key : ℕ) → IsKeyOf t h key → newer_in (holders_of_rows (entries_on (table_of t made) h.ino)) h
      ≡ option_and_then (λ k. option_map holder_of (node_at t k)) (option_and_then (λ (node : Node Slot). key_after (keys t (OfInode node.ino)) key) (node_at t key))
  next-on h key found =
      let o = held t made is h key found in
      next-in (OfInode h.ino) (entries_on (table_of t made) h.ino) (is.inodes h.ino) h key found
      ∙ sym (ap (λ q. option_and_then (λ k. option_map holder_of (node_at t k)) (option_and_then (λ (node : Node Slot). key_after (keys t (OfInode node.ino)) key) q)) o.1.there
      ∙ ap (λ (k : Holder). option_and_then (λ q. option_map holder_of (node_at t q)) (key_after (keys t (OfInode k.ino)) key)) o.2)

  pub next-of : (h : Holder) (key : ℕ) → IsKeyOf t h key → newer_in (holders_of_rows (filter (is_of_client h.client) (table_of t made).rows)) h
      ≡ option_and_then (λ k. option_map holder_of (node_at t k)) (option_and_then (λ (node : Node Slot). key_after (keys t (OfClient node.client)) key) (node_at t key))
  next-of h key found =
      let o = held t made is h key found in
      next-in (OfClient h.client) (filter (is_of_client h.client) (table_of t made).rows) (is.clients h.client) h key found
      ∙ sym (ap (λ q. option_and_then (λ k. option_map holder_of (node_at t k)) (option_and_then (λ (node : Node Slot). key_after (keys t (OfClient node.client)) key) q)) o.1.there
      ∙ ap (λ (k : Holder). option_and_then (λ q. option_map holder_of (node_at t q)) (key_after (keys t (OfClient k.client)) key)) o.2)

  pub newer-none : (h : Holder) → ((key : ℕ) → is_key_of t h key ≡ false) → newer_in (table_of t made).recall h ≡ None
  newer-none h none = newer-free (node_at t) h (free t h none) (keys t OfRecall)

  pub are_lists : AreLists (table_of t made) t
  are_lists = record { recall = refl; inodes = is.inodes; clients = is.clients; nodes = λ key n there. entry-found (holder_of n) key n (ap (option_map holder_of) there) there }

  pub node-there : (h : Holder) (key : ℕ) → IsKeyOf t h key → IsSome (node_at t key)
  node-there h key found = let o = held t made is h key found in ap is_some o.1.there

  -- as many entries as nodes
  length-rows : length (table_of t made).rows ≡ count t
  length-rows =
      length-mapped row_of (by_number made (nodes_in t OfRecall)) ∙ length-by_number made (nodes_in t OfRecall) is.below
      ∙ length-nodes (node_at t) (keys t OfRecall) (all_have t is.sound OfRecall) ∙ length-recall t is.sound

  -- one more is refused alike
  pub refused-alike : first_failing (add_tests t) ≡ first_failing (open_tests (table_of t made))
  refused-alike = ap (λ n. first_failing (refused_if (nat_le 65536 n) Limit ∷ [])) (sym length-rows)
