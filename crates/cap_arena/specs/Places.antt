-- Places in a list: that of a node, by its key, and the place where the list begins, which is where it ends too.
use Rattle.std.specs.Prelude.{List, None, Option, Some, option_and_then, slice_index_or, slice_set, ℕ}
use Rattle.cap_arena.specs.declared.nodes.Order.{Order}
use Rattle.cap_arena.specs.declared.nodes.Order.TheVariants as order
use Rattle.cap_arena.specs.declared.nodes.Ends.{Ends}
use Rattle.cap_arena.specs.declared.nodes.Linked.{Linked}
use Rattle.cap_arena.specs.Nodes.{joint_of, with_next, with_previous}

module _ {T : Type 0} where
  -- the node with a key
  abbrev pub linked_at : List (Option (Linked T)) → ℕ → Option (Linked T)
  linked_at slots key = slice_index_or slots key None

  -- the node after one, and the one before it
  abbrev pub next_key : List (Option (Linked T)) → Order → ℕ → Option ℕ
  next_key slots o key = option_and_then (λ l. (joint_of o l).next) (linked_at slots key)

  abbrev pub previous_key : List (Option (Linked T)) → Order → ℕ → Option ℕ
  previous_key slots o key = option_and_then (λ l. (joint_of o l).previous) (linked_at slots key)

  -- where the place leads: from the beginning to the first node, and from a node to the one after it
  abbrev pub next_at : List (Option (Linked T)) → Ends → Order → Option ℕ → Option ℕ
  next_at slots ends o None = ends.first
  next_at slots ends o (Some key) = next_key slots o key

  -- where the place leads backwards: from the end to the last node, and from a node to the one before it
  abbrev pub previous_at : List (Option (Linked T)) → Ends → Order → Option ℕ → Option ℕ
  previous_at slots ends o None = ends.last
  previous_at slots ends o (Some key) = previous_key slots o key

  -- ---- writes of one link

  -- the nodes, where f changed this one
  abbrev pub changed_in : (Linked T → Linked T) → List (Option (Linked T)) → ℕ → Option (Linked T) → List (Option (Linked T))
  changed_in f slots key None = slots
  changed_in f slots key (Some l) = slice_set slots key (Some (f l))

  -- the nodes, where `to` comes next after the place
  abbrev pub with_next_at : List (Option (Linked T)) → Order → Option ℕ → Option ℕ → List (Option (Linked T))
  with_next_at slots o None to = slots
  with_next_at slots o (Some key) to = changed_in (with_next o to) slots key (linked_at slots key)

  -- the nodes, where `to` comes before the place
  abbrev pub with_previous_at : List (Option (Linked T)) → Order → Option ℕ → Option ℕ → List (Option (Linked T))
  with_previous_at slots o None to = slots
  with_previous_at slots o (Some key) to = changed_in (with_previous o to) slots key (linked_at slots key)

-- the ends of the list, where `to` comes next after the place
abbrev pub with_first_at : Ends → Option ℕ → Option ℕ → Ends
with_first_at ends None to = record ends { first = to }
with_first_at ends (Some key) to = ends

-- the ends of the list, where `to` comes before the place
abbrev pub with_last_at : Ends → Option ℕ → Option ℕ → Ends
with_last_at ends None to = record ends { last = to }
with_last_at ends (Some key) to = ends

-- the ends of the list, with one more node at its end
abbrev pub appended_ends : Ends → ℕ → Ends
appended_ends ends key = with_last_at (with_first_at ends ends.last (Some key)) None (Some key)

module _ {T : Type 0} where
  -- the nodes, where the places on both sides of the node lead to each other
  abbrev pub unlinked : List (Option (Linked T)) → Ends → Order → ℕ → List (Option (Linked T))
  unlinked slots ends o key =
      let previous = previous_at slots ends o (Some key) in
      let next = next_at slots ends o (Some key) in
      with_previous_at (with_next_at slots o previous next) o next previous

  -- the ends of the list, where the places on both sides of the node lead to each other
  abbrev pub unlinked_ends : List (Option (Linked T)) → Ends → Order → ℕ → Ends
  unlinked_ends slots ends o key =
      let previous = previous_at slots ends o (Some key) in
      let next = next_at slots ends o (Some key) in
      with_last_at (with_first_at ends previous next) next previous

  -- the nodes, where the node has the last one of the list before it, and none after it
  abbrev pub facing_last : List (Option (Linked T)) → Ends → Order → ℕ → List (Option (Linked T))
  facing_last slots ends o key = changed_in (λ l. with_previous o ends.last (with_next o None l)) slots key (linked_at slots key)

  -- the nodes, and the ends, where the node is the last one in the order of recall
  abbrev pub moved_slots : List (Option (Linked T)) → Ends → ℕ → List (Option (Linked T))
  moved_slots slots ends key =
      let between = unlinked_ends slots ends order.Recall key in
      with_next_at (facing_last (unlinked slots ends order.Recall key) between order.Recall key) order.Recall between.last (Some key)

  abbrev pub moved_ends : List (Option (Linked T)) → Ends → ℕ → Ends
  moved_ends slots ends key = appended_ends (unlinked_ends slots ends order.Recall key) key
