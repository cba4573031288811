-- A node's places in its three lists.
use Rattle.std.specs.Prelude.{Option, ℕ}
use Rattle.cap_arena.specs.declared.nodes.Order.{Order}
use Rattle.cap_arena.specs.declared.nodes.Order.TheVariants as order
use Rattle.cap_arena.specs.declared.nodes.Joint.{Joint}
use Rattle.cap_arena.specs.declared.nodes.Linked.{Linked}

module _ {T : Type 0} where
  -- the node's place in a list of this order
  abbrev pub joint_of : Order → Linked T → Joint
  joint_of order.Inode l = l.of_ino
  joint_of order.Client l = l.of_client
  joint_of order.Recall l = l.recall

  -- the node with this place in a list of this order
  abbrev pub with_joint : Order → Joint → Linked T → Linked T
  with_joint order.Inode j l = record l { of_ino = j }
  with_joint order.Client j l = record l { of_client = j }
  with_joint order.Recall j l = record l { recall = j }

  -- the node, with this key next to it in a list of this order
  abbrev pub with_next : Order → Option ℕ → Linked T → Linked T
  with_next o key l = with_joint o (record (joint_of o l) { next = key }) l

  -- the node, with this key before it in a list of this order
  abbrev pub with_previous : Order → Option ℕ → Linked T → Linked T
  with_previous o key l = with_joint o (record (joint_of o l) { previous = key }) l

  -- the node, with this value
  abbrev pub with_node_value : T → Linked T → Linked T
  with_node_value value l = record l { node = record l.node { value = value } }
