-- What a contract sees of the nodes in their lists.
use Rattle.std.specs.Prelude.{◌≡◌, ◌≤◌, ℕ, Bool, true, false, ◌==◌, List, [], ◌∷◌, Option, Some, None, IsSome, nat_eq, is_some, zero, suc, count_by, reverse}
use Rattle.std.specs.Prelude.{length}
use Rattle.std.specs.Ordering.{nat_cmp}
use Rattle.std.specs.List.{IsDistinct}
use Rattle.std.specs.Option.{option_map, option_map_or}
use Rattle.std.specs.FinMap as map
use Rattle.capbits.specs.declared.ids.ClientId.{ClientId}
use Rattle.capbits.specs.declared.ids.Ino.{Ino}
use Rattle.cap_arena.specs.declared.nodes.Ends.{Ends}
use Rattle.cap_arena.specs.declared.nodes.Linked.{Linked}
use Rattle.cap_arena.specs.declared.nodes.Node.{Node}
use Rattle.cap_arena.specs.declared.nodes.Order.{Order}
use Rattle.cap_arena.specs.declared.nodes.Order.TheVariants as order
use Rattle.cap_arena.specs.Places.{linked_at, next_at, previous_at}
use Rattle.cap_arena.specs.Heads.{Heads, ends_or_none, no_ends}
use Rattle.cap_arena.specs.Walks.{IsWalk, is_among}

-- each node with its links, or nothing, at each key from 0 on, and where each list begins and ends
pub record Lists (T : Type 0) : Type 0 where
  pub slots : List (Option (Linked T))
  pub recall : Ends
  -- by the inode's number
  pub inodes : map.FinMap nat_cmp Ends
  -- by the client's number
  pub clients : map.FinMap nat_cmp Ends

-- the lists there are: one for each inode, one for each client, and the order of recall
pub data ListName : Type 0 where
  OfInode : Ino → ListName
  OfClient : ClientId → ListName
  OfRecall : ListName

abbrev pub order_of : ListName → Order
order_of (OfInode ino) = order.Inode
order_of (OfClient client) = order.Client
order_of OfRecall = order.Recall

module _ {T : Type 0} where
  -- whether the node belongs into the list
  abbrev pub belongs : ListName → Node T → Bool
  belongs (OfInode ino) node = node.ino.0 == ino.0
  belongs (OfClient client) node = node.client.0 == client.0
  belongs OfRecall node = true

  -- the node with a key
  abbrev pub node_at : Lists T → ℕ → Option (Node T)
  node_at t key = option_map (λ l. l.node) (linked_at t.slots key)

  -- whether there is a node with the key that belongs into the list
  abbrev pub belongs_at : Lists T → ListName → ℕ → Bool
  belongs_at t name key = option_map_or (belongs name) (node_at t key) false

  -- how many nodes there are
  abbrev pub count : Lists T → ℕ
  count t = count_by is_some t.slots

  -- where a list begins and ends
  abbrev pub ends_of : Lists T → ListName → Ends
  ends_of t (OfInode ino) = ends_or_none (map.get t.inodes ino.0)
  ends_of t (OfClient client) = ends_or_none (map.get t.clients client.0)
  ends_of t OfRecall = t.recall

  -- the place after a place of the list, and the place before it
  abbrev pub next_in : Lists T → ListName → Option ℕ → Option ℕ
  next_in t name place = next_at t.slots (ends_of t name) (order_of name) place

  abbrev pub previous_in : Lists T → ListName → Option ℕ → Option ℕ
  previous_in t name place = previous_at t.slots (ends_of t name) (order_of name) place

-- ends are kept of lists with nodes alone
abbrev pub KeepsNoEmpty : map.FinMap nat_cmp Ends → Type 0
KeepsNoEmpty heads = (number : ℕ) (ends : Ends) → map.get heads number ≡ Some ends → IsSome ends.first

-- the keys to which n steps from a place lead, until the end comes
abbrev pub walk : (Option ℕ → Option ℕ) → ℕ → Option ℕ → List ℕ
walk step zero place = []
walk step (suc n) place = option_map_or (λ key. key ∷ walk step n (Some key)) (step place) []

module _ {T : Type 0} where
  -- the keys of a list, from its first node on: as many steps as there are slots lead to its end
  abbrev pub keys : Lists T → ListName → List ℕ
  keys t name = walk (next_in t name) (length t.slots) None

  -- the walk from the beginning of the list to its end is these keys, and back, each once; they are the nodes that belong into it
  pub record IsList (t : Lists T) (name : ListName) : Type 0 where
    pub forth : IsWalk (next_in t name) None (keys t name)
    pub back : IsWalk (previous_in t name) None (reverse (keys t name))
    pub once : IsDistinct nat_eq (keys t name)
    pub nodes : (key : ℕ) → is_among (keys t name) key ≡ belongs_at t name key

  -- each node stands once in the list of its inode, in that of its client and in the order of recall, and in no other; the
  -- links agree both ways; and there are at most 65,536 nodes
  pub record IsLists (t : Lists T) : Type 0 where
    pub lists : (name : ListName) → IsList t name
    pub inodes : KeepsNoEmpty t.inodes
    pub clients : KeepsNoEmpty t.clients
    pub room : count t ≤ 65536

-- no nodes
abbrev pub empty : {T : Type 0} → Lists T
empty = record { slots = []; recall = no_ends; inodes = map.empty; clients = map.empty }

abbrev pub lists_of : {T : Type 0} → List (Option (Linked T)) → Ends → Heads → Heads → Lists T
lists_of slots recall inodes clients = record { slots = slots; recall = recall; inodes = inodes; clients = clients }
