-- What is kept beside the entries, after a change of one node.
use Rattle.std.proofs.Common.{◌≡◌, ℕ, ◌+◌, ◌≤◌, true, false, not, cond, List, [], ◌∷◌, ◌++◌, map, filter, length, refl, sym, ap, ◌∙◌, arith, suc}
use Rattle.std.proofs.lemmas.List.{map-append}
use Rattle.cap_arena.specs.declared.nodes.Node.{Node}
use Rattle.captable.specs.declared.entry.Holder.{Holder}
use Rattle.captable.specs.declared.entry.Entry.{Entry}
use Rattle.captable.specs.declared.entry.ClientView.{ClientView}
use Rattle.captable.specs.declared.entry.Slot.{Slot}
use Rattle.captable.specs.Table.{Table, same}
use Rattle.captable.specs.Kept.{KeptRow, KeptTable, is_kept_of, keeping, kept_more, kept_without, no_sets}
use Rattle.captable.specs.Nodes.{by_number, has_number, holder_of, kept_by, kept_row_of, node_with_entry, node_with_sets, row_of, table_by}
use Rattle.captable.specs.Linked.{AreBelow}
use Rattle.captable.proofs.NodesAt.{change_in, is_held_by, set_in}
use Rattle.captable.proofs.Numbers.{by_number-filter, by_number-map, by_number-next, by_number-same, number-moved}
use Rattle.captable.proofs.Keeping.{filter-mapped, keeps_number, map-mapped}

-- ---- a table and what is beside it

pub two : {a b : Table} {x y : List KeptRow} → a ≡ b → x ≡ y → ◌≡◌ {A = KeptTable} (record { entries = a; kept = x }) (record { entries = b; kept = y })
two p q i = record { entries = p i; kept = q i }

pub entries_are : {s t : KeptTable} → s ≡ t → s.entries ≡ t.entries
entries_are e = ap (λ (t : KeptTable). t.entries) e

pub kept_are : {s t : KeptTable} → s ≡ t → s.kept ≡ t.kept
kept_are e = ap (λ (t : KeptTable). t.kept) e

-- ---- lists of nodes

unmoved : {X : Type 0} (f : Node Slot → X) (g : Node Slot → Node Slot) → ((m : Node Slot) → f (g m) ≡ f m) → (ns : List (Node Slot)) → map f (map g ns) ≡ map f ns
unmoved f g same [] = refl
unmoved f g same (m ∷ ns) = λ i. same m i ∷ unmoved f g same ns i

-- one more node
pub kept-added : (ns : List (Node Slot)) (x : Node Slot) (made : ℕ) → x.value.sets ≡ no_sets → x.value.number ≡ made → AreBelow made ns
    → kept_by (ns ++ x ∷ []) (made + 1) ≡ kept_more (kept_by ns made) (holder_of x)
kept-added ns x made sets number below =
    let next : made + 1 ≡ suc made = omega arith in
    ap (λ m. map kept_row_of (by_number m (ns ++ x ∷ []))) next ∙ ap (map kept_row_of) (by_number-next ns x made number below) ∙ map-append kept_row_of (by_number made ns) (x ∷ [])
    ∙ ap (λ (s : ClientView). map kept_row_of (by_number made ns) ++ record { holder = holder_of x; sets = s } ∷ []) sets

-- one node less
pub kept-removed : (ns : List (Node Slot)) (h : Holder) (made : ℕ) → kept_by (filter (λ m. not (is_held_by h m)) ns) made ≡ kept_without (kept_by ns made) h
kept-removed ns h made =
    ap (map kept_row_of) (by_number-filter (λ m. not (is_held_by h m)) made ns) ∙ sym (filter-mapped (λ row. not (is_kept_of h row)) kept_row_of (by_number made ns))

-- a node that comes last
pub kept-touched : (ns : List (Node Slot)) (h : Holder) (made : ℕ) → ((number : ℕ) → length (filter (has_number number) ns) ≤ 1)
    → kept_by (filter (λ m. not (is_held_by h m)) ns ++ filter (is_held_by h) ns) made ≡ kept_by ns made
kept-touched ns h made once =
    ap (map kept_row_of) (by_number-same made (filter (λ m. not (is_held_by h m)) ns ++ filter (is_held_by h) ns) ns (λ number. number-moved (is_held_by h) ns number (once number)))

-- another entry
pub kept-entry : (ns : List (Node Slot)) (h : Holder) (x : Entry) (made : ℕ) → kept_by (map (set_in h x) ns) made ≡ kept_by ns made
kept-entry ns h x made = ap (map kept_row_of) (by_number-map (set_in h x) (keeps_number h x) made ns) ∙ unmoved kept_row_of (set_in h x) same_sets (by_number made ns)
  where
    same_sets : (m : Node Slot) → kept_row_of (set_in h x m) ≡ kept_row_of m
    same_sets m = elim (is_held_by h m) as (λ b. kept_row_of (cond b (node_with_entry x m) m) ≡ kept_row_of m) [ true ↦ refl | false ↦ refl ]

-- ---- other sets

abbrev pub keep_in : Holder → ClientView → Node Slot → Node Slot
keep_in h s = change_in h (node_with_sets s)

pub sets-number : (h : Holder) (s : ClientView) (m : Node Slot) → (keep_in h s m).value.number ≡ m.value.number
sets-number h s m = elim (is_held_by h m) as (λ b. (cond b (node_with_sets s m) m).value.number ≡ m.value.number) [ true ↦ refl | false ↦ refl ]

pub sets-rows : (h : Holder) (s : ClientView) (ns : List (Node Slot)) → map row_of (map (keep_in h s) ns) ≡ map row_of ns
sets-rows h s ns = unmoved row_of (keep_in h s) same_row ns
  where
    same_row : (m : Node Slot) → row_of (keep_in h s m) ≡ row_of m
    same_row m = elim (is_held_by h m) as (λ b. row_of (cond b (node_with_sets s m) m) ≡ row_of m) [ true ↦ refl | false ↦ refl ]

sets-holders : (h : Holder) (s : ClientView) (ns : List (Node Slot)) → map holder_of (map (keep_in h s) ns) ≡ map holder_of ns
sets-holders h s ns = unmoved holder_of (keep_in h s) same_holder ns
  where
    same_holder : (m : Node Slot) → holder_of (keep_in h s m) ≡ holder_of m
    same_holder m = elim (is_held_by h m) as (λ b. holder_of (cond b (node_with_sets s m) m) ≡ holder_of m) [ true ↦ refl | false ↦ refl ]

pub sets-table : (ns : List (Node Slot)) (h : Holder) (s : ClientView) (made : ℕ) → table_by (map (keep_in h s) ns) made ≡ table_by ns made
sets-table ns h s made =
    let rows : map row_of (by_number made (map (keep_in h s) ns)) ≡ map row_of (by_number made ns) =
    ap (map row_of) (by_number-map (keep_in h s) (sets-number h s) made ns) ∙ sets-rows h s (by_number made ns) in
    λ i. record { rows = rows i; recall = sets-holders h s ns i; made = made }

pub sets-kept : (ns : List (Node Slot)) (h : Holder) (s : ClientView) (made : ℕ) → kept_by (map (keep_in h s) ns) made ≡ keeping (kept_by ns made) h (λ _. s)
sets-kept ns h s made =
    ap (map kept_row_of) (by_number-map (keep_in h s) (sets-number h s) made ns)
    ∙ map-mapped kept_row_of (keep_in h s) (λ row. cond (is_kept_of h row) (record row { sets = s }) row) kept_row_of kept_row (by_number made ns)
  where
    kept_row : (m : Node Slot) → kept_row_of (keep_in h s m) ≡ cond (is_kept_of h (kept_row_of m)) (record (kept_row_of m) { sets = s }) (kept_row_of m)
    kept_row m = elim (is_held_by h m) as (λ b. kept_row_of (cond b (node_with_sets s m) m) ≡ cond b (record (kept_row_of m) { sets = s }) (kept_row_of m)) [ true ↦ refl | false ↦ refl ]
