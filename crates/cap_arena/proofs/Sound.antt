-- Lists whose links agree, as what a contract says of them, and back.
use Rattle.std.proofs.Common.{◌≡◌, ℕ, ◌<◌, ◌≤◌, zero, suc, Bool, true, false, not, ◌&&◌, cond, Option, Some, None, IsSome, is_some, List, [], ◌∷◌, length}
use Rattle.std.proofs.Common.{count_by, reverse, refl, sym, ap, ◌∙◌, subst, arith, nat_eq, set}
use Rattle.std.specs.List.{IsDistinct}
use Rattle.std.specs.Option.{option_map, option_map_or}
use Rattle.std.proofs.Math.Bool.{and-true}
use Rattle.std.proofs.lemmas.Map.Steps.{length-le_from_distinct_below}
use Rattle.std.proofs.lemmas.List.Sums.{sum_by-set}
use Rattle.cap_arena.specs.declared.nodes.Order.{Order}
use Rattle.cap_arena.specs.declared.nodes.Ends.{Ends}
use Rattle.cap_arena.specs.declared.nodes.Linked.{Linked}
use Rattle.cap_arena.specs.Nodes.{with_next, with_previous}
use Rattle.cap_arena.specs.Places.{changed_in, linked_at, previous_at, with_next_at, with_previous_at}
use Rattle.cap_arena.specs.Heads.{Heads, ends_at, ends_or_none, kept, kept_if}
use Rattle.cap_arena.specs.Walks.{IsWalk, is_among}
use Rattle.cap_arena.specs.Lists.{IsList, ListName, Lists, OfClient, OfInode, OfRecall, belongs, belongs_at, ends_of, keys, lists_of, next_in, order_of}
use Rattle.cap_arena.specs.Lists.{previous_in, walk}
use Rattle.cap_arena.proofs.Rings.{among-reverse, first_step, head_among}
use Rattle.cap_arena.proofs.Writes.{IsPlace, linked_at-within}
use Rattle.cap_arena.proofs.Stands.{Row, Row-alike, Stand, member, stands}
use Rattle.cap_arena.proofs.HeadMaps.{heads_of}

-- no list is without the node
abbrev pub nowhere_off : Order → Bool
nowhere_off o = false

-- each list is
abbrev pub off_all : Order → Bool
off_all o = true

-- as many steps as there are keys, or more, make the walk
pub walk_is : (step : Option ℕ → Option ℕ) (n : ℕ) (place : Option ℕ) (ks : List ℕ) → length ks ≤ n → IsWalk step place ks → walk step n place ≡ ks
walk_is step zero place [] short is = refl
walk_is step zero place (k ∷ ks) short is = absurd (omega arith)
walk_is step (suc n) place [] short is = ap (λ o. option_map_or (λ key. key ∷ walk step n (Some key)) o []) is
walk_is step (suc n) place (k ∷ ks) short is =
    ap (λ o. option_map_or (λ key. key ∷ walk step n (Some key)) o []) is.0 ∙ ap (λ xs. k ∷ xs) (walk_is step n (Some k) ks (omega arith) is.1)

module _ {T : Type 0} where
  -- a node that stands in a list is there
  pub place_of : (slots : List (Option (Linked T))) (name : ListName) (key : ℕ) → stands slots name key ≡ true → IsPlace slots (Some key)
  place_of slots name key is = found (linked_at slots key) refl
    where
      found : (o : Option (Linked T)) → linked_at slots key ≡ o → IsPlace slots (Some key)
      found None e = absurd (let c : false ≡ true = sym (ap (λ q. option_map_or (belongs name) (option_map (λ l. l.node) q) false) e) ∙ is in cc)
      found (Some l) e = (l, e)

  -- ---- from the contract's words

  pub stand_of : (t : Lists T) (key : ℕ) → ((name : ListName) → IsList t name) → Stand t.slots (ends_of t) nowhere_off key (keys t)
  stand_of t key is name =
      let l = is name in
      record {
        ring = record { forth = l.forth; back = l.back; once = l.once };
        members = λ k. l.nodes k ∙ sym (and-true (belongs_at t name k));
      }

  -- the same lists by other ends that are the same
  pub Stand-heads : (s : List (Option (Linked T))) (heads heads' : ListName → Ends) (off : Order → Bool) (key : ℕ) (ks : ListName → List ℕ) → ((name : ListName) → heads' name ≡ heads name)
      → Stand s heads off key ks → Stand s heads' off key ks
  Stand-heads s heads heads' off key ks same st name =
      Row-alike s s (heads name) (heads' name) name (ks name) (member s off key name) (member s off key name) (same name) (λ k there. refl) (λ k there. refl) (λ k. refl) (st name)

  -- ---- to the contract's words

  list_is : (t : Lists T) (off : Order → Bool) (key : ℕ) (ks : ListName → List ℕ) → Stand t.slots (ends_of t) off key ks → (name : ListName) → off (order_of name) ≡ false → keys t name ≡ ks name
  list_is t off key ks st name on =
      walk_is (next_in t name) (length t.slots) None (ks name)
      (length-le_from_distinct_below (ks name) (length t.slots) (st name).ring.once (λ q there. within q there)) (st name).ring.forth
    where
      left : (a b : Bool) → (a && b) ≡ true → a ≡ true
      left true b e = refl
      left false b e = e

      within : (q : ℕ) → is_among (ks name) q ≡ true → q < length t.slots
      within q there = let p = place_of t.slots name q (left (stands t.slots name q) _ (sym ((st name).members q) ∙ there)) in linked_at-within t.slots q p.0 p.1

  pub keys_are : (t : Lists T) (off : Order → Bool) (key : ℕ) (ks : ListName → List ℕ) → Stand t.slots (ends_of t) off key ks → ((o : Order) → off o ≡ false) → (name : ListName) → keys t name ≡ ks name
  keys_are t off key ks st on name = list_is t off key ks st name (on (order_of name))

  pub list_of : (t : Lists T) (off : Order → Bool) (key : ℕ) (ks : ListName → List ℕ) → Stand t.slots (ends_of t) off key ks → ((o : Order) → off o ≡ false) → (name : ListName) → IsList t name
  list_of t off key ks st on name =
      let same = keys_are t off key ks st on name in
      record {
        forth = subst (IsWalk (next_in t name) None) (sym same) (st name).ring.forth;
        back = subst (λ xs. IsWalk (previous_in t name) None (reverse xs)) (sym same) (st name).ring.back;
        once = subst (IsDistinct nat_eq) (sym same) (st name).ring.once;
        nodes = λ k. ap (λ xs. is_among xs k) same ∙ (st name).members k ∙ ap (λ b. stands t.slots name k && not (b && nat_eq key k)) (on (order_of name)) ∙ and-true (stands t.slots name k);
      }

  -- ---- the ends of a list

  -- the last place of a list is the node of one of its keys, or the beginning
  pub last_among : (s : List (Option (Linked T))) (ends : Ends) (name : ListName) (ks : List ℕ) (m : ℕ → Bool) → Row s ends name ks m → (j : ℕ) → ends.last ≡ Some j → is_among ks j ≡ true
  last_among s ends name ks m row j e =
      sym (among-reverse ks j) ∙ head_among (reverse ks) j (sym (first_step (previous_at s ends (order_of name)) None (reverse ks) row.ring.back) ∙ e)

  -- a list with a node has a first one
  pub first_some : (s : List (Option (Linked T))) (ends : Ends) (name : ListName) (ks : List ℕ) (m : ℕ → Bool) → Row s ends name ks m → (k : ℕ) → is_among ks k ≡ true → IsSome ends.first
  first_some s ends name [] m row k there = absurd (cc)
  first_some s ends name (x ∷ ks) m row k there = subst IsSome (sym row.ring.forth.0) refl

  -- ends that are kept are the ends
  pub kept_is : (s : List (Option (Linked T))) (ends : Ends) (name : ListName) (ks : List ℕ) (m : ℕ → Bool) → Row s ends name ks m → ends_or_none (kept ends) ≡ ends
  kept_is s ends name [] m row = ap (λ f. ends_or_none (kept_if f ends)) row.ring.forth ∙ (λ i. record { first = sym row.ring.forth i; last = sym row.ring.back i })
  kept_is s ends name (x ∷ ks) m row = ap (λ f. ends_or_none (kept_if f ends)) row.ring.forth.0

  -- the last place of each list is a place
  pub last_is_place : (s : List (Option (Linked T))) (heads : ListName → Ends) (off : Order → Bool) (key : ℕ) (ks : ListName → List ℕ) → Stand s heads off key ks → (name : ListName) → IsPlace s (heads name).last
  last_is_place s heads off key ks st name = by_last (heads name).last (λ j e. e)
    where
      left : (a b : Bool) → (a && b) ≡ true → a ≡ true
      left true b e = refl
      left false b e = e

      by_last : (o : Option ℕ) → ((j : ℕ) → o ≡ Some j → (heads name).last ≡ Some j) → IsPlace s o
      by_last None is = tt
      by_last (Some j) is = place_of s name j (left (stands s name j) _ (sym ((st name).members j) ∙ last_among s (heads name) name (ks name) (member s off key name) (st name) j (is j refl)))

  -- ---- how many nodes

  count-changed : (slots : List (Option (Linked T))) (key : ℕ) (l l' : Linked T) → linked_at slots key ≡ Some l → count_by is_some (set slots key (Some l')) ≡ count_by is_some slots
  count-changed slots key l l' is =
      let weigh : Option (Linked T) → ℕ = λ o. cond (is_some o) 1 0 in
      let e = sum_by-set (λ (o : Option (Linked T)). cond (is_some o) 1 0) slots key (Some l') None (linked_at-within slots key l is) in
      let one : weigh (linked_at slots key) ≡ 1 = ap weigh is in
      omega arith

  pub count-in : (f : Linked T → Linked T) (slots : List (Option (Linked T))) (key : ℕ) → count_by is_some (changed_in f slots key (linked_at slots key)) ≡ count_by is_some slots
  count-in f slots key = by_slot (linked_at slots key) refl
    where
      by_slot : (o : Option (Linked T)) → linked_at slots key ≡ o → count_by is_some (changed_in f slots key o) ≡ count_by is_some slots
      by_slot None e = refl
      by_slot (Some l) e = count-changed slots key l (f l) e

  pub count-next : (slots : List (Option (Linked T))) (o : Order) (place to : Option ℕ) → count_by is_some (with_next_at slots o place to) ≡ count_by is_some slots
  count-next slots o None to = refl
  count-next slots o (Some key) to = count-in (with_next o to) slots key

  pub count-previous : (slots : List (Option (Linked T))) (o : Order) (place to : Option ℕ) → count_by is_some (with_previous_at slots o place to) ≡ count_by is_some slots
  count-previous slots o None to = refl
  count-previous slots o (Some key) to = count-in (with_previous o to) slots key

-- ---- the ends, by names

pub heads_are : {T : Type 0} (s : List (Option (Linked T))) (r : Ends) (i c : Heads) (name : ListName) → heads_of r (ends_at i) (ends_at c) name ≡ ends_of (lists_of s r i c) name
heads_are s r i c (OfInode ino) = refl
heads_are s r i c (OfClient client) = refl
heads_are s r i c OfRecall = refl

-- ends that are known at each number
pub heads_known : {T : Type 0} (s : List (Option (Linked T))) (r : Ends) (i c : Heads) (f g : ℕ → Ends) → ((q : ℕ) → ends_at i q ≡ f q) → ((q : ℕ) → ends_at c q ≡ g q)
    → (name : ListName) → ends_of (lists_of s r i c) name ≡ heads_of r f g name
heads_known s r i c f g at_i at_c (OfInode ino) = at_i ino.0
heads_known s r i c f g at_i at_c (OfClient client) = at_c client.0
heads_known s r i c f g at_i at_c OfRecall = refl
