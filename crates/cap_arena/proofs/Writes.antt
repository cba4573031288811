-- What the writes of links change in one order, and that they change nothing else.
use Rattle.std.proofs.Common.{◌≡◌, ℕ, ◌<◌, Bool, true, false, cond, Option, Some, None, List, length, set, refl, sym, ap, ◌∙◌, nat_eq, get_or-set_same}
use Rattle.std.proofs.Common.{get_or-set_other, arith}
use Rattle.std.specs.Option.{option_and_then, option_map}
use Rattle.std.proofs.lemmas.Bool.{eq-eqb, eqb-true}
use Rattle.std.proofs.lemmas.Cmp.{nat_eq_equiv}
use Rattle.std.proofs.lemmas.List.{get_or_past}
use Rattle.cap_arena.specs.declared.nodes.Order.{Order}
use Rattle.cap_arena.specs.declared.nodes.Order.TheVariants.{Client, Inode, Recall}
use Rattle.cap_arena.specs.declared.nodes.Ends.{Ends}
use Rattle.cap_arena.specs.declared.nodes.Joint.{Joint}
use Rattle.cap_arena.specs.declared.nodes.Linked.{Linked}
use Rattle.cap_arena.specs.declared.nodes.Node.{Node}
use Rattle.cap_arena.specs.Nodes.{joint_of, with_joint, with_next, with_previous}
use Rattle.cap_arena.specs.Places.{changed_in, facing_last, linked_at, next_at, previous_at, unlinked, with_next_at, with_previous_at}
use Rattle.cap_arena.specs.Heads.{no_ends}
use Rattle.cap_arena.specs.Walks.{same_place}

-- ---- orders

abbrev pub same_order : Order → Order → Bool
same_order Inode Inode = true
same_order Client Client = true
same_order Recall Recall = true
same_order _ _ = false

pub same_order-refl : (o : Order) → same_order o o ≡ true
same_order-refl Inode = refl
same_order-refl Client = refl
same_order-refl Recall = refl

pub same_order-is : (o q : Order) → same_order o q ≡ true → o ≡ q
same_order-is Inode Inode e = refl
same_order-is Client Client e = refl
same_order-is Recall Recall e = refl
same_order-is Inode Client e = absurd (cc)
same_order-is Inode Recall e = absurd (cc)
same_order-is Client Inode e = absurd (cc)
same_order-is Client Recall e = absurd (cc)
same_order-is Recall Inode e = absurd (cc)
same_order-is Recall Client e = absurd (cc)

module _ {T : Type 0} where
  joint-same : (o : Order) (j : Joint) (l : Linked T) → joint_of o (with_joint o j l) ≡ j
  joint-same Inode j l = refl
  joint-same Client j l = refl
  joint-same Recall j l = refl

  joint-other : (o q : Order) (j : Joint) (l : Linked T) → same_order o q ≡ false → joint_of o (with_joint q j l) ≡ joint_of o l
  joint-other Inode Inode j l e = absurd (cc)
  joint-other Client Client j l e = absurd (cc)
  joint-other Recall Recall j l e = absurd (cc)
  joint-other Inode Client j l e = refl
  joint-other Inode Recall j l e = refl
  joint-other Client Inode j l e = refl
  joint-other Client Recall j l e = refl
  joint-other Recall Inode j l e = refl
  joint-other Recall Client j l e = refl

  node-same : (o : Order) (j : Joint) (l : Linked T) → (with_joint o j l).node ≡ l.node
  node-same Inode j l = refl
  node-same Client j l = refl
  node-same Recall j l = refl

  -- a node that changed at most in its place in one order
  pub record Relinks (o : Order) (next previous : Option ℕ) (l l' : Linked T) : Type 0 where
    pub joint : joint_of o l' ≡ record { next = next; previous = previous }
    pub others : (q : Order) → same_order q o ≡ false → joint_of q l' ≡ joint_of q l
    pub node : l'.node ≡ l.node

  pub Relinks-next : (o : Order) (to : Option ℕ) (l : Linked T) → Relinks o to (joint_of o l).previous l (with_next o to l)
  Relinks-next o to l = record { joint = joint-same o _ l; others = λ q apart. joint-other q o _ l apart; node = node-same o _ l }

  pub Relinks-previous : (o : Order) (to : Option ℕ) (l : Linked T) → Relinks o (joint_of o l).next to l (with_previous o to l)
  Relinks-previous o to l = record { joint = joint-same o _ l; others = λ q apart. joint-other q o _ l apart; node = node-same o _ l }

  -- ---- a write in the slots

  within : (slots : List (Option (Linked T))) (key : ℕ) (l : Linked T) → linked_at slots key ≡ Some l → key < length slots
  within slots key l is = grind (arith, get_or_past)

  pub linked_at-within : (slots : List (Option (Linked T))) (key : ℕ) (l : Linked T) → linked_at slots key ≡ Some l → key < length slots
  linked_at-within = within

  linked_at-set : (slots : List (Option (Linked T))) (key : ℕ) (l l' : Linked T) (k : ℕ) → linked_at slots key ≡ Some l → linked_at (set slots key (Some l')) k ≡ cond (nat_eq k key) (Some l') (linked_at slots k)
  linked_at-set slots key l l' k is = by_test (nat_eq k key) refl
    where
      by_test : (b : Bool) → nat_eq k key ≡ b → linked_at (set slots key (Some l')) k ≡ cond b (Some l') (linked_at slots k)
      by_test true e = ap (linked_at (set slots key (Some l'))) (eqb-true k key e) ∙ get_or-set_same slots key (Some l') None (within slots key l is)
      by_test false e = get_or-set_other slots key k (Some l') None (λ same. absurd (let t : nat_eq k key ≡ true = eq-eqb k key same in cc))

  -- the place of a node in one order
  abbrev pub joint_at : List (Option (Linked T)) → Order → ℕ → Option Joint
  joint_at slots o key = option_map (joint_of o) (linked_at slots key)

  abbrev pub plain_at : List (Option (Linked T)) → ℕ → Option (Node T)
  plain_at slots key = option_map (λ l. l.node) (linked_at slots key)

  -- in one order, place `a` leads to b from now on, and place `c` back to d; all else is as it was
  pub record Wrote (slots slots' : List (Option (Linked T))) (o : Order) (a b c d : Option ℕ) : Type 0 where
    pub next : (k : ℕ) → next_at slots' no_ends o (Some k) ≡ cond (same_place (Some k) a) b (next_at slots no_ends o (Some k))
    pub previous : (k : ℕ) → previous_at slots' no_ends o (Some k) ≡ cond (same_place (Some k) c) d (previous_at slots no_ends o (Some k))
    pub others : (q : Order) → same_order q o ≡ false → (k : ℕ) → joint_at slots' q k ≡ joint_at slots q k
    pub nodes : (k : ℕ) → plain_at slots' k ≡ plain_at slots k

  -- a node that has a link changed
  relinked : (slots slots' : List (Option (Linked T))) (o : Order) (j : ℕ) (n p : Option ℕ) (l l' : Linked T) → linked_at slots j ≡ Some l → Relinks o n p l l'
      → ((k : ℕ) → linked_at slots' k ≡ cond (nat_eq k j) (Some l') (linked_at slots k))
      → (next p' : Option ℕ) → n ≡ next → p ≡ p' → Wrote slots slots' o (Some j) next (Some j) p'
  relinked slots slots' o j n p l l' is re at next p' en ep =
      record {
        next = λ k. ap (λ q. option_and_then (λ x. (joint_of o x).next) q) (at k) ∙ pick_next k (nat_eq k j) refl;
        previous = λ k. ap (λ q. option_and_then (λ x. (joint_of o x).previous) q) (at k) ∙ pick_previous k (nat_eq k j) refl;
        others = λ q apart k. ap (option_map (joint_of q)) (at k) ∙ pick_other q apart k (nat_eq k j) refl;
        nodes = λ k. ap (option_map (λ x. x.node)) (at k) ∙ pick_node k (nat_eq k j) refl;
      }
    where
      pick_next : (k : ℕ) (b : Bool) → nat_eq k j ≡ b → option_and_then (λ x. (joint_of o x).next) (cond b (Some l') (linked_at slots k)) ≡ cond b next (next_at slots no_ends o (Some k))
      pick_next k true e = ap (λ (x : Joint). x.next) re.joint ∙ en
      pick_next k false e = refl

      pick_previous : (k : ℕ) (b : Bool) → nat_eq k j ≡ b → option_and_then (λ x. (joint_of o x).previous) (cond b (Some l') (linked_at slots k)) ≡ cond b p' (previous_at slots no_ends o (Some k))
      pick_previous k true e = ap (λ (x : Joint). x.previous) re.joint ∙ ep
      pick_previous k false e = refl

      there : (k : ℕ) → nat_eq k j ≡ true → linked_at slots k ≡ Some l
      there k e = ap (linked_at slots) (eqb-true k j e) ∙ is

      pick_other : (q : Order) → same_order q o ≡ false → (k : ℕ) (b : Bool) → nat_eq k j ≡ b → option_map (joint_of q) (cond b (Some l') (linked_at slots k)) ≡ joint_at slots q k
      pick_other q apart k true e = ap Some (re.others q apart) ∙ ap (option_map (joint_of q)) (sym (there k e))
      pick_other q apart k false e = refl

      pick_node : (k : ℕ) (b : Bool) → nat_eq k j ≡ b → option_map (λ x. x.node) (cond b (Some l') (linked_at slots k)) ≡ plain_at slots k
      pick_node k true e = ap Some re.node ∙ ap (option_map (λ x. x.node)) (sym (there k e))
      pick_node k false e = refl

  -- a place of some list: a node that is there, or the beginning
  abbrev pub IsPlace : List (Option (Linked T)) → Option ℕ → Type 0
  IsPlace slots None = Unit {0}
  IsPlace slots (Some key) = (l : Linked T) × (linked_at slots key ≡ Some l)

  pub Wrote-next : (slots : List (Option (Linked T))) (o : Order) (a b d : Option ℕ) → IsPlace slots a → Wrote slots (with_next_at slots o a b) o a b None d
  Wrote-next slots o None b d is = record { next = λ k. refl; previous = λ k. refl; others = λ q apart k. refl; nodes = λ k. refl }
  Wrote-next slots o (Some j) b d (l, is) =
      let s' = with_next_at slots o (Some j) b in
      let re = Relinks-next o b l in
      let at : (k : ℕ) → linked_at s' k ≡ cond (nat_eq k j) (Some (with_next o b l)) (linked_at slots k) =
      λ k. ap (λ q. linked_at (changed_in (with_next o b) slots j q) k) is ∙ linked_at-set slots j l (with_next o b l) k is in
      let w = relinked slots s' o j b (joint_of o l).previous l (with_next o b l) is re at b (joint_of o l).previous refl refl in
      record { next = w.next; previous = λ k. w.previous k ∙ kept k (nat_eq k j) refl; others = w.others; nodes = w.nodes }
    where
      kept : (k : ℕ) (t : Bool) → nat_eq k j ≡ t → cond t (joint_of o l).previous (previous_at slots no_ends o (Some k)) ≡ previous_at slots no_ends o (Some k)
      kept k true e = sym (ap (λ q. option_and_then (λ x. (joint_of o x).previous) q) (ap (linked_at slots) (eqb-true k j e) ∙ is))
      kept k false e = refl

  pub Wrote-previous : (slots : List (Option (Linked T))) (o : Order) (b c d : Option ℕ) → IsPlace slots c → Wrote slots (with_previous_at slots o c d) o None b c d
  Wrote-previous slots o b None d is = record { next = λ k. refl; previous = λ k. refl; others = λ q apart k. refl; nodes = λ k. refl }
  Wrote-previous slots o b (Some j) d (l, is) =
      let s' = with_previous_at slots o (Some j) d in
      let re = Relinks-previous o d l in
      let at : (k : ℕ) → linked_at s' k ≡ cond (nat_eq k j) (Some (with_previous o d l)) (linked_at slots k) =
      λ k. ap (λ q. linked_at (changed_in (with_previous o d) slots j q) k) is ∙ linked_at-set slots j l (with_previous o d l) k is in
      let w = relinked slots s' o j (joint_of o l).next d l (with_previous o d l) is re at (joint_of o l).next d refl refl in
      record { next = λ k. w.next k ∙ kept k (nat_eq k j) refl; previous = w.previous; others = w.others; nodes = w.nodes }
    where
      kept : (k : ℕ) (t : Bool) → nat_eq k j ≡ t → cond t (joint_of o l).next (next_at slots no_ends o (Some k)) ≡ next_at slots no_ends o (Some k)
      kept k true e = sym (ap (λ q. option_and_then (λ x. (joint_of o x).next) q) (ap (linked_at slots) (eqb-true k j e) ∙ is))
      kept k false e = refl

  -- one write of each kind
  Wrote-both : (s s1 s2 : List (Option (Linked T))) (o : Order) (a b c d x y : Option ℕ) → Wrote s s1 o a b None x → Wrote s1 s2 o None y c d → Wrote s s2 o a b c d
  Wrote-both s s1 s2 o a b c d x y w v =
      record {
        next = λ k. v.next k ∙ w.next k;
        previous = λ k. v.previous k ∙ ap (cond (same_place (Some k) c) d) (w.previous k);
        others = λ q apart k. v.others q apart k ∙ w.others q apart k;
        nodes = λ k. v.nodes k ∙ w.nodes k;
      }

  -- a node that is there is there in slots with the same nodes
  pub IsPlace-kept : (s s1 : List (Option (Linked T))) → ((k : ℕ) → plain_at s1 k ≡ plain_at s k) → (place : Option ℕ) → IsPlace s place → IsPlace s1 place
  IsPlace-kept s s1 same None is = tt
  IsPlace-kept s s1 same (Some key) (l, is) = found (linked_at s1 key) refl
    where
      found : (q : Option (Linked T)) → linked_at s1 key ≡ q → IsPlace s1 (Some key)
      found None e = absurd (let c : Some l.node ≡ None = ap (option_map (λ x. x.node)) (sym is) ∙ sym (same key) ∙ ap (option_map (λ x. x.node)) e in cc)
      found (Some x) e = (x, e)

  pub Wrote-unlinked : (slots : List (Option (Linked T))) (ends : Ends) (o : Order) (key : ℕ) → IsPlace slots (next_at slots ends o (Some key)) → IsPlace slots (previous_at slots ends o (Some key))
      → Wrote slots (unlinked slots ends o key) o (previous_at slots ends o (Some key)) (next_at slots ends o (Some key)) (next_at slots ends o (Some key)) (previous_at slots ends o (Some key))
  Wrote-unlinked slots ends o key after before =
      let p = previous_at slots ends o (Some key) in
      let n = next_at slots ends o (Some key) in
      let s1 = with_next_at slots o p n in
      let w = Wrote-next slots o p n None before in
      Wrote-both slots s1 (with_previous_at s1 o n p) o p n n p None None w (Wrote-previous s1 o None n p (IsPlace-kept slots s1 w.nodes n after))

  -- the node that stands behind the last one of a list
  pub Wrote-facing : (slots : List (Option (Linked T))) (ends : Ends) (o : Order) (key : ℕ) (l : Linked T) → linked_at slots key ≡ Some l
      → Wrote slots (facing_last slots ends o key) o (Some key) None (Some key) ends.last
  Wrote-facing slots ends o key l is =
      let s' = facing_last slots ends o key in
      let l1 = with_next o None l in
      let l2 = with_previous o ends.last l1 in
      let first = Relinks-next o None l in
      let second = Relinks-previous o ends.last l1 in
      let at : (k : ℕ) → linked_at s' k ≡ cond (nat_eq k key) (Some l2) (linked_at slots k) =
      λ k. ap (λ q. linked_at (changed_in (λ l. with_previous o ends.last (with_next o None l)) slots key q) k) is ∙ linked_at-set slots key l l2 k is in
      let re : Relinks o (joint_of o l1).next ends.last l l2 =
      record { joint = second.joint; others = λ q apart. second.others q apart ∙ first.others q apart; node = second.node ∙ first.node } in
      relinked slots s' o key (joint_of o l1).next ends.last l l2 is re at None ends.last (ap (λ (x : Joint). x.next) first.joint) refl

  -- and what that leaves of the others
  pub linked_at-facing : (slots : List (Option (Linked T))) (ends : Ends) (o : Order) (key : ℕ) (l : Linked T) → linked_at slots key ≡ Some l → (k : ℕ) → nat_eq key k ≡ false → linked_at (facing_last slots ends o key) k ≡ linked_at slots k
  linked_at-facing slots ends o key l is k apart =
      ap (λ q. linked_at (changed_in (λ l. with_previous o ends.last (with_next o None l)) slots key q) k) is
      ∙ linked_at-set slots key l (with_previous o ends.last (with_next o None l)) k is
      ∙ ap (λ b. cond b (Some (with_previous o ends.last (with_next o None l))) (linked_at slots k)) (nat_eq_equiv.symm k key ∙ apart)

  -- a node that f changed
  pub linked_at-in : (f : Linked T → Linked T) (slots : List (Option (Linked T))) (key k : ℕ) → linked_at (changed_in f slots key (linked_at slots key)) k ≡ cond (nat_eq k key) (option_map f (linked_at slots k)) (linked_at slots k)
  linked_at-in f slots key k = by_slot (linked_at slots key) refl (nat_eq k key) refl
    where
      by_slot : (q : Option (Linked T)) → linked_at slots key ≡ q → (b : Bool) → nat_eq k key ≡ b → linked_at (changed_in f slots key q) k ≡ cond b (option_map f (linked_at slots k)) (linked_at slots k)
      by_slot None is true e = let none : linked_at slots k ≡ None = ap (linked_at slots) (eqb-true k key e) ∙ is in none ∙ sym (ap (option_map f) none)
      by_slot None is false e = refl
      by_slot (Some l) is true e = linked_at-set slots key l (f l) k is ∙ ap (λ b. cond b (Some (f l)) (linked_at slots k)) e ∙ sym (ap (option_map f) (ap (linked_at slots) (eqb-true k key e) ∙ is))
      by_slot (Some l) is false e = linked_at-set slots key l (f l) k is ∙ ap (λ b. cond b (Some (f l)) (linked_at slots k)) e
