-- The end of a step: the entries on an inode one by one, and all inodes that it affected.
use Rattle.std.proofs.Common.{◌≡◌, ℕ, Bool, true, false, cond, Option, List, [], ◌∷◌, length, filter, refl, sym, ap, ◌∙◌, arith, ◌≤◌, ◌||◌, is_some, subst}
use Rattle.std.proofs.Common.{All, ◌==◌, IsTrue}
use Rattle.std.proofs.Common.{map as each}
use Rattle.std.proofs.lemmas.Bool.{eqb-true}
use Rattle.std.proofs.lemmas.List.{length-map}
use Rattle.std.proofs.lemmas.List.Elements.{All-filter, All-map, recursion_from_All}
use Rattle.std.proofs.lemmas.Map.Made.{is_some-lookup}
use Rattle.std.proofs.lemmas.Map.Steps.{length-le_from_keys}
use Rattle.std.specs.Cmp.{eq_by_cmp_equiv, nat_cmp_total}
use Rattle.std.specs.FinMap.Entries.{is_some-find}
use Rattle.std.specs.List.{AllByRecursion, IsDistinct, list_any}
use Rattle.std.specs.Ordering.{eq_by_cmp, nat_cmp}
use Rattle.std.specs.FinMap as map
use Rattle.captable.proofs.Tables.{distinct-filter, holders-filter}
use Rattle.sessiontab.specs.declared.table.TheConstants.{MAX_SESSIONS}
use Rattle.capcore.proofs.CommonPieces.{Caps, EntryRow, Holder, Ino, InodeLocks, IsTable, Nodes, SessionTable, StateMap, Table, clients_of, entries_on, issuable_under}
use Rattle.capcore.proofs.CommonPieces.{entry_by, entry_under, has_session, holder, holders_of_rows, is_of_inode, numbered_as, pending_at, same, same_key}

-- ---- keys of a map

-- the same number
abbrev same_number : ℕ → ℕ → Bool
same_number = eq_by_cmp nat_cmp

module _ {X : Type 0} (m : map.FinMap nat_cmp X) where
  there : (ks : List ℕ) → AllByRecursion (λ k. map.contains_key m k ≡ true) ks → (q : ℕ) → list_any (same_number q) ks ≡ true → map.contains_key m q ≡ true
  there [] all q is = absurd (cc)
  there (k ∷ ks) all q is =
      elim (same_number q k) as (λ b. same_number q k ≡ b → (b || list_any (same_number q) ks) ≡ true → map.contains_key m q ≡ true) [
        | true ↦ λ e is. subst (λ k. map.contains_key m k ≡ true) (same_key q k e) all.0
        | false ↦ λ e is. there ks all.1 q is
      ] refl is

  -- keys that are named once are at most as many as the map has
  few_keys : (ks : List ℕ) → IsDistinct same_number ks → AllByRecursion (λ k. map.contains_key m k ≡ true) ks → length ks ≤ map.len m
  few_keys ks apart all =
      let few : length ks ≤ length (map.entries m) = length-le_from_keys (eq_by_cmp_equiv nat_cmp_total) ks (map.entries m) apart (λ q is.
      is_some-lookup (same_number q) (map.entries m) ∙ sym (is_some-find nat_cmp q (map.entries m)) ∙ sym (ap is_some (map.get-entries m q)) ∙ there ks all q is) in
      omega (arith, few, map.len-entries m)

-- ---- holders on one inode

-- the clients, on the inode
abbrev pub named : Ino → List ℕ → List Holder
named ino clients = each (λ c. holder (record { 0 = c }) ino) clients

pub named-clients : (ino : Ino) (rows : List EntryRow) → named ino (clients_of (filter (is_of_inode ino) rows)) ≡ holders_of_rows (filter (is_of_inode ino) rows)
named-clients ino [] = refl
named-clients ino (row ∷ rows) =
    elim (is_of_inode ino row) as (λ b. is_of_inode ino row ≡ b → named ino (clients_of (cond b (row ∷ filter (is_of_inode ino) rows) (filter (is_of_inode ino) rows))) ≡ holders_of_rows (cond b (row ∷ filter (is_of_inode ino) rows) (filter (is_of_inode ino) rows))) [
      | true ↦ λ e. (let on : ino.0 ≡ row.holder.ino.0 = sym (eqb-true row.holder.ino.0 ino.0 e) in
          λ i. holder row.holder.client (record { 0 = on i }) ∷ named-clients ino rows i)
      | false ↦ λ e. named-clients ino rows
    ] refl

-- the holders on an inode differ
pub distinct-on : (t : Table) (ino : Ino) → IsTable t → IsDistinct same (holders_of_rows (entries_on t ino))
distinct-on t ino is =
    let p : Holder → Bool = λ h. h.ino.0 == ino.0 in
    subst (IsDistinct same) (sym (holders-filter p t.rows)) (distinct-filter p (holders_of_rows t.rows) is.one_row)

-- who differs on one inode has another number
other_number : (ino : Ino) (c x : ℕ) → same (holder (record { 0 = c }) ino) (holder (record { 0 = x }) ino) ≡ false → same_number c x ≡ false
other_number ino c x apart = grind arith

other_numbers : (ino : Ino) (c : ℕ) (cs : List ℕ) → AllByRecursion (λ h. same (holder (record { 0 = c }) ino) h ≡ false) (named ino cs) → AllByRecursion (λ x. same_number c x ≡ false) cs
other_numbers ino c [] apart = tt
other_numbers ino c (x ∷ cs) apart = (other_number ino c x apart.0, other_numbers ino c cs apart.1)

distinct_numbers : (ino : Ino) (cs : List ℕ) → IsDistinct same (named ino cs) → IsDistinct same_number cs
unfolding IsDistinct
distinct_numbers ino [] apart = tt
distinct_numbers ino (c ∷ cs) apart = (other_numbers ino c cs apart.0, distinct_numbers ino cs apart.1)

-- the entries on an inode are at most as many as the sessions may be
pub few-entries : (t : Table) (ino : Ino) (s : SessionTable) → IsTable t → map.len s.sessions ≤ MAX_SESSIONS → All (λ row. IsTrue (has_session s row.holder.client.0)) t.rows
    → length (entries_on t ino) ≤ MAX_SESSIONS
few-entries t ino s is most connected =
    let rows : List EntryRow = entries_on t ino in
    let apart : IsDistinct same (named ino (clients_of rows)) = subst (IsDistinct same) (sym (named-clients ino t.rows)) (distinct-on t ino is) in
    let all = recursion_from_All (λ k. map.contains_key s.sessions k ≡ true) (clients_of rows)
    (All-map (λ k. map.contains_key s.sessions k ≡ true) (λ row. row.holder.client.0) rows
    (All-filter (is_of_inode ino) (λ row. IsTrue (has_session s row.holder.client.0)) t.rows connected)) in
    let few : length (clients_of rows) ≤ map.len s.sessions = few_keys s.sessions (clients_of rows) (distinct_numbers ino (clients_of rows) apart) all in
    let as_many : length (clients_of rows) ≡ length rows = length-map rows (λ (row : EntryRow). row.holder.client.0) in
    omega (arith, few, as_many, most)

-- ---- all entries on the affected inodes

-- of an entry on the inode: by its locks, and by those of all inodes; and by what is known now, and what was known at first
pub entry-alike : (known first : Holder → Caps) (fs : List ℕ) (tree : Nodes) (sessions : SessionTable) (locks : Option InodeLocks) (states : StateMap) (row : EntryRow)
    → known row.holder ≡ first row.holder → locks ≡ map.get states row.holder.ino.0 → entry_under known fs tree sessions locks row ≡ entry_by first fs tree sessions states row
entry-alike known first fs tree sessions locks states row same_known is =
    λ i. numbered_as (same_known i) (pending_at fs tree sessions (is i) row) (issuable_under fs tree sessions (is i) row) row
