-- How many keys the order of recall has.
use Rattle.std.proofs.Common.{◌≡◌, ℕ, ◌+◌, ◌≤◌, Bool, true, false, ◌||◌, cond, Option, Some, None, is_some, List, [], ◌∷◌, length, filter, count_by, refl, sym}
use Rattle.std.proofs.Common.{ap, ◌∙◌, arith, nat_eq, zero, suc}
use Rattle.std.specs.List.{AllByRecursion, IsDistinct}
use Rattle.std.specs.Option.{option_map, option_map_or}
use Rattle.std.specs.Cmp.{nat_eq_equiv}
use Rattle.std.proofs.lemmas.Bool.{eq-eqb, eqb-true, false_from_ne_true}
use Rattle.std.proofs.lemmas.List.Sums.{length-filter}
use Rattle.std.proofs.lemmas.Map.Made.{length-from_same_keys}
use Rattle.cap_arena.specs.declared.nodes.Linked.{Linked}
use Rattle.cap_arena.specs.Places.{linked_at}
use Rattle.cap_arena.specs.Walks.{is_among}
use Rattle.cap_arena.specs.Lists.{IsLists, Lists, OfRecall, belongs, count, keys}

-- a key that differs from each is none of them
out : (ks : List ℕ) (q : ℕ) → AllByRecursion (λ k. nat_eq q k ≡ false) ks → is_among ks q ≡ false
out [] q all = refl
out (k ∷ ks) q all = ap (λ b. b || is_among ks q) all.0 ∙ out ks q all.1

module _ {T : Type 0} where
  -- the keys of the slots with a node, of which the first has the key i
  abbrev occupied : ℕ → List (Option (Linked T)) → List ℕ
  occupied i [] = []
  occupied i (o ∷ slots) = cond (is_some o) (i ∷ occupied (suc i) slots) (occupied (suc i) slots)

  length-occupied : (i : ℕ) (slots : List (Option (Linked T))) → length (occupied i slots) ≡ length (filter is_some slots)
  length-occupied i [] = refl
  length-occupied i (o ∷ slots) =
      elim (is_some o) as (λ b. length (cond b (i ∷ occupied (suc i) slots) (occupied (suc i) slots)) ≡ length (cond b (o ∷ filter is_some slots) (filter is_some slots)))
      [ true ↦ ap suc (length-occupied (suc i) slots) | false ↦ length-occupied (suc i) slots ]

  -- keys below the first one are none of them
  apart : (i j : ℕ) (slots : List (Option (Linked T))) → suc i ≤ j → AllByRecursion (λ q. nat_eq i q ≡ false) (occupied j slots)
  apart i j [] less = tt
  apart i j (o ∷ slots) less =
      let rest : AllByRecursion (λ q. nat_eq i q ≡ false) (occupied (suc j) slots) = apart i (suc j) slots (omega arith) in
      let first : nat_eq i j ≡ false = false_from_ne_true (nat_eq i j) (λ e. let same : i ≡ j = eqb-true i j e in omega arith) in
      elim (is_some o) as (λ b. AllByRecursion (λ q. nat_eq i q ≡ false) (cond b (j ∷ occupied (suc j) slots) (occupied (suc j) slots))) [ true ↦ (first, rest) | false ↦ rest ]

  once : (i : ℕ) (slots : List (Option (Linked T))) → IsDistinct nat_eq (occupied i slots)
  unfolding IsDistinct
  once i [] = tt
  once i (o ∷ slots) =
      elim (is_some o) as (λ b. IsDistinct nat_eq (cond b (i ∷ occupied (suc i) slots) (occupied (suc i) slots)))
      [ true ↦ (apart i (suc i) slots (omega arith), once (suc i) slots) | false ↦ once (suc i) slots ]

  members : (i j q : ℕ) (slots : List (Option (Linked T))) → q ≡ i + j → is_among (occupied i slots) q ≡ is_some (linked_at slots j)
  members i j q [] at = refl
  members i zero q (o ∷ slots) at =
      let same : nat_eq q i ≡ true = eq-eqb q i (omega arith) in
      let none : is_among (occupied (suc i) slots) q ≡ false = out (occupied (suc i) slots) q (apart q (suc i) slots (omega arith)) in
      elim (is_some o) as (λ b. is_among (cond b (i ∷ occupied (suc i) slots) (occupied (suc i) slots)) q ≡ b)
      [ true ↦ ap (λ b. b || is_among (occupied (suc i) slots) q) same | false ↦ none ]
  members i (suc j) q (o ∷ slots) at =
      let differ : nat_eq q i ≡ false = false_from_ne_true (nat_eq q i) (λ e. let same : q ≡ i = eqb-true q i e in omega arith) in
      let rest : is_among (occupied (suc i) slots) q ≡ is_some (linked_at slots j) = members (suc i) j q slots (omega arith) in
      elim (is_some o) as (λ b. is_among (cond b (i ∷ occupied (suc i) slots) (occupied (suc i) slots)) q ≡ is_some (linked_at slots j))
      [ true ↦ ap (λ b. b || is_among (occupied (suc i) slots) q) differ ∙ rest | false ↦ rest ]

  -- each node is in the order of recall
  recalled : (o : Option (Linked T)) → option_map_or (belongs OfRecall) (option_map (λ l. l.node) o) false ≡ is_some o
  recalled None = refl
  recalled (Some l) = refl

  -- it has as many keys as there are nodes
  pub length-recall : (t : Lists T) → IsLists t → length (keys t OfRecall) ≡ count t
  length-recall t is =
      let own = is.lists OfRecall in
      length-from_same_keys nat_eq_equiv (keys t OfRecall) (occupied 0 t.slots) own.once (once 0 t.slots)
      (λ q. own.nodes q ∙ recalled (linked_at t.slots q) ∙ sym (members 0 q q t.slots (omega arith)))
      ∙ length-occupied 0 t.slots ∙ length-filter is_some t.slots
