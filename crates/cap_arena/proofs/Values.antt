-- The lists where a node has another value; and the lists without nodes.
use Rattle.std.proofs.Common.{◌≡◌, ℕ, ◌≤◌, Bool, true, false, not, ◌&&◌, cond, Option, Some, None, is_some, List, [], count_by, refl, sym, ap, ◌∙◌, subst}
use Rattle.std.proofs.Common.{arith, nat_eq}
use Rattle.std.specs.List.{IsDistinct}
use Rattle.std.specs.Option.{option_map, option_map_or}
use Rattle.std.specs.FinMap as map
use Rattle.std.specs.Ordering.{nat_cmp}
use Rattle.cap_arena.specs.declared.nodes.Order.{Order}
use Rattle.cap_arena.specs.declared.nodes.Order.TheVariants as order
use Rattle.cap_arena.specs.declared.nodes.Ends.{Ends}
use Rattle.cap_arena.specs.declared.nodes.Linked.{Linked}
use Rattle.cap_arena.specs.declared.nodes.Node.{Node}
use Rattle.cap_arena.specs.Nodes.{joint_of, with_node_value}
use Rattle.cap_arena.specs.Places.{changed_in, linked_at}
use Rattle.cap_arena.specs.Heads.{Heads, ends_or_none, no_ends}
use Rattle.cap_arena.specs.Lists.{IsList, IsLists, ListName, OfClient, OfInode, OfRecall, belongs, ends_of, keys, lists_of, order_of}
use Rattle.cap_arena.specs.Calls.{Sets, with_value}
use Rattle.cap_arena.proofs.Writes.{joint_at, linked_at-in, plain_at}
use Rattle.cap_arena.proofs.Stands.{Stand, Stand-alike, stands}
use Rattle.cap_arena.proofs.Sound.{Stand-heads, count-in, keys_are, list_of, nowhere_off, stand_of}

-- what the map of no entries has
no_number : (m : Heads) → m ≡ map.empty → (q : ℕ) → map.get m q ≡ None
no_number m none q = ap (λ m. map.get m q) none ∙ map.get-empty nat_cmp q

module _ {T : Type 0} where
  abbrev valued : T → List (Option (Linked T)) → ℕ → List (Option (Linked T))
  valued value s key = changed_in (with_node_value value) s key (linked_at s key)

  -- the value is no part of what a list sees
  joint-valued : (value : T) (o : Order) (l : Linked T) → joint_of o (with_node_value value l) ≡ joint_of o l
  joint-valued value order.Inode l = refl
  joint-valued value order.Client l = refl
  joint-valued value order.Recall l = refl

  belongs-valued : (value : T) (name : ListName) (node : Node T) → belongs name (with_value value node) ≡ belongs name node
  belongs-valued value (OfInode ino) node = refl
  belongs-valued value (OfClient client) node = refl
  belongs-valued value OfRecall node = refl

  joints : (value : T) (s : List (Option (Linked T))) (key : ℕ) (o : Order) (k : ℕ) → joint_at (valued value s key) o k ≡ joint_at s o k
  joints value s key o k = ap (option_map (joint_of o)) (linked_at-in (with_node_value value) s key k) ∙ pick (nat_eq k key) (linked_at s k)
    where
      pick : (b : Bool) (q : Option (Linked T)) → option_map (joint_of o) (cond b (option_map (with_node_value value) q) q) ≡ option_map (joint_of o) q
      pick true None = refl
      pick true (Some l) = ap Some (joint-valued value o l)
      pick false q = refl

  nodes : (value : T) (s : List (Option (Linked T))) (key k : ℕ) → plain_at (valued value s key) k ≡ cond (nat_eq k key) (option_map (with_value value) (plain_at s k)) (plain_at s k)
  nodes value s key k = ap (option_map (λ l. l.node)) (linked_at-in (with_node_value value) s key k) ∙ pick (nat_eq k key) (linked_at s k)
    where
      pick : (b : Bool) (q : Option (Linked T)) → option_map (λ l. l.node) (cond b (option_map (with_node_value value) q) q) ≡ cond b (option_map (with_value value) (option_map (λ l. l.node) q)) (option_map (λ l. l.node) q)
      pick true None = refl
      pick true (Some l) = refl
      pick false q = refl

  stands-valued : (value : T) (s : List (Option (Linked T))) (key : ℕ) (name : ListName) (k : ℕ) → stands (valued value s key) name k ≡ stands s name k
  stands-valued value s key name k = ap (λ o. option_map_or (belongs name) o false) (nodes value s key k) ∙ pick (nat_eq k key) (plain_at s k)
    where
      pick : (b : Bool) (q : Option (Node T)) → option_map_or (belongs name) (cond b (option_map (with_value value) q) q) false ≡ option_map_or (belongs name) q false
      pick true None = refl
      pick true (Some n) = belongs-valued value name n
      pick false q = refl

  -- a node with another value
  pub sets_value : (s : List (Option (Linked T))) (r : Ends) (i c : Heads) (key : ℕ) (value : T) → IsLists (lists_of s r i c)
      → IsLists (lists_of (changed_in (with_node_value value) s key (linked_at s key)) r i c) × Sets (lists_of s r i c) (lists_of (changed_in (with_node_value value) s key (linked_at s key)) r i c) key value
  sets_value s r i c key value is =
      let t = lists_of s r i c in
      let t' = lists_of (valued value s key) r i c in
      let st : Stand (valued value s key) (ends_of t) nowhere_off key (keys t) =
      Stand-alike s (valued value s key) (ends_of t) nowhere_off nowhere_off key key (keys t)
      (λ name k there. joints value s key (order_of name) k)
      (λ name k. ap (λ b. b && not (false && nat_eq key k)) (stands-valued value s key name k)) (stand_of t key is.lists) in
      let st' : Stand (valued value s key) (ends_of t') nowhere_off key (keys t) =
      Stand-heads (valued value s key) (ends_of t) (ends_of t') nowhere_off key (keys t) same_ends st in (
        record { lists = list_of t' nowhere_off key (keys t) st' (λ o. refl); inodes = is.inodes; clients = is.clients; room = fewer },
        record { nodes = nodes value s key; lists = λ name. keys_are t' nowhere_off key (keys t) st' (λ o. refl) name },
      )
    where
      same_ends : (name : ListName) → ends_of (lists_of (valued value s key) r i c) name ≡ ends_of (lists_of s r i c) name
      same_ends (OfInode ino) = refl
      same_ends (OfClient client) = refl
      same_ends OfRecall = refl

      fewer : count_by is_some (valued value s key) ≤ 65536
      fewer = let e = count-in (with_node_value value) s key in let room = is.room in omega arith

  -- ---- no nodes

  pub no_nodes : (s : List (Option (Linked T))) (r : Ends) (i c : Heads) → s ≡ [] → r ≡ no_ends → i ≡ map.empty → c ≡ map.empty → IsLists (lists_of s r i c)
  unfolding IsDistinct
  no_nodes s r i c slots ends none_i none_c =
      subst (λ x. IsLists (lists_of x r i c)) (sym slots)
      (subst (λ x. IsLists (lists_of {T = T} [] x i c)) (sym ends)
      record {
        lists = empty_list;
        inodes = λ q found e. absurd (let n : None ≡ Some found = sym (no_number i none_i q) ∙ e in cc);
        clients = λ q found e. absurd (let n : None ≡ Some found = sym (no_number c none_c q) ∙ e in cc);
        room = omega arith;
      })
    where
      empty_list : (name : ListName) → IsList (lists_of {T = T} [] no_ends i c) name
      empty_list (OfInode ino) = record { forth = ap (λ o. (ends_or_none o).first) (no_number i none_i ino.0); back = ap (λ o. (ends_or_none o).last) (no_number i none_i ino.0); once = tt; nodes = λ k. refl }
      empty_list (OfClient client) = record { forth = ap (λ o. (ends_or_none o).first) (no_number c none_c client.0); back = ap (λ o. (ends_or_none o).last) (no_number c none_c client.0); once = tt; nodes = λ k. refl }
      empty_list OfRecall = record { forth = refl; back = refl; once = tt; nodes = λ k. refl }
