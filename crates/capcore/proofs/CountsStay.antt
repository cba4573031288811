-- What changes of the entries leave of the counts of gathers.
use Rattle.std.proofs.Common.{◌≡◌, ◌≢◌, ℕ, ◌+◌, ◌-◌, Bool, true, false, not, cond, ◌&&◌, ◌==◌, Option, Some, None, List, [], ◌∷◌, refl, sym, ap, subst, ◌∙◌}
use Rattle.std.proofs.Common.{arith, filter, is_some, length, true≢false}
use Rattle.std.proofs.Common.{map as each}
use Rattle.std.proofs.lemmas.Bool.{and_right, eqb-false, eqb-true}
use Rattle.std.specs.Cmp.{nat_eq_equiv}
use Rattle.std.specs.List.{IsDistinct, find}
use Rattle.std.specs.Option.{option_map, option_map_or}
use Rattle.std.specs.FinMap as map
use Rattle.capbits.proofs.Emptiness.{is_empty-no_caps}
use Rattle.capbits.specs.Caps.{has}
use Rattle.capbits.specs.Sets.{no_caps}
use Rattle.captable.proofs.Counting.{bit, with_change}
use Rattle.captable.proofs.Tally.{passes_found, tally, tally-changed, tally-first, tally-more, tally-without}
use Rattle.step_acts.proofs.GivenUp.{nothing_outside}
use Rattle.lockmachine.specs.Counts.{AreCountedAt, IsCounted, count_at, count_of, given_up, holders_outside}
use Rattle.lockmachine.specs.Inodes.{CountMap, is_gathering}
use Rattle.capcore.proofs.CommonPieces.{A, AreCounted, Cap, Caps, ChangesLocksOf, CountedLocks, Entry, EntryRow, F, Gather, Holder, Ino, InodeLocks, IsSubset, L}
use Rattle.capcore.proofs.CommonPieces.{LockId, LockMap, LockState, P, Part, Stable, StableState, Table, X, changed, entries_on-changed, entries_on-without}
use Rattle.capcore.proofs.CommonPieces.{entry_at, has-is_empty, has-minus, has-none, has-of_part, has_outside, holders_of_rows, is_empty, is_of_inode, is_row_of}
use Rattle.capcore.proofs.CommonPieces.{lock_at, lock_in, minus, new_entry, no_entry, none_found, of_part, opened, outside, row_of, row_of-entry, same, same_caps}
use Rattle.capcore.proofs.CommonPieces.{with_entry, without}

-- ---- the rows that count

abbrev on_number : ℕ → Ino
on_number ino = record { 0 = ino }

-- the row is an entry on the inode whose client has a cap of the part outside the row of the state
abbrev pub is_against : ℕ → Part → StableState → EntryRow → Bool
is_against ino part to row = is_of_inode (on_number ino) row && has_outside part to row

tally-both : {X : Type 0} (p q : X → Bool) (xs : List X) → length (filter p (filter q xs)) ≡ length (filter (λ x. q x && p x) xs)
tally-both p q [] = refl
tally-both p q (x ∷ xs) =
    elim (q x) as (λ b. length (filter p (cond b (x ∷ filter q xs) (filter q xs))) ≡ length (cond (b && p x) (x ∷ filter (λ x. q x && p x) xs) (filter (λ x. q x && p x) xs))) [
      | true ↦ elim (p x) as (λ b. length (cond b (x ∷ filter p (filter q xs)) (filter p (filter q xs))) ≡ length (cond b (x ∷ filter (λ x. q x && p x) xs) (filter (λ x. q x && p x) xs))) [
        | true ↦ omega (arith, tally-both p q xs)
        | false ↦ tally-both p q xs
      ]
      | false ↦ tally-both p q xs
    ]

-- how many clients have, by one test
outside-tally : (t : Table) (ino : ℕ) (part : Part) (to : StableState) → holders_outside t (on_number ino) part to ≡ tally (is_against ino part to) t.rows
outside-tally t ino part to = tally-both (has_outside part to) (is_of_inode (on_number ino)) t.rows

-- ---- the same counts for other entries

-- where as many clients count for each gather as before
pub counted-as : (l : CountedLocks) (old new : Table)
    → ((ino : ℕ) (part : Part) (from to : StableState) → lock_at l.locks ino part ≡ Some (Gather from to) → holders_outside new (on_number ino) part to ≡ holders_outside old (on_number ino) part to)
    → AreCounted old l → AreCounted new l
counted-as l old new same_holders are ino part = by_lock (lock_at l.locks ino part) refl (are ino part)
  where
    by_lock : (o : Option LockState) → lock_at l.locks ino part ≡ o → IsCounted old (ino, part) (count_of l (ino, part)) o → IsCounted new (ino, part) (count_of l (ino, part)) o
    by_lock None is right = tt
    by_lock (Some (Stable state)) is right = tt
    by_lock (Some (Gather from to)) is right = right ∙ sym (same_holders ino part from to is)

-- and where the locks of one inode changed, and those of the others with all counts are as they were
pub counted-at : (table : Table) (old new : CountedLocks) (at : ℕ) → new.counts ≡ old.counts → ChangesLocksOf at old.locks new.locks → AreCountedAt table new at → AreCounted table old → AreCounted table new
counted-at table old new at counts changes here are ino = by_place (ino == at) refl
  where
    by_place : (b : Bool) → (ino == at) ≡ b → AreCountedAt table new ino
    by_place true on part = subst (AreCountedAt table new) (sym (eqb-true ino at on)) here part
    by_place false off part =
        subst (λ (m : CountMap). IsCounted table (ino, part) (count_at m ino part) (lock_at new.locks ino part)) (sym counts)
        (subst (IsCounted table (ino, part) (count_of old (ino, part))) (sym (changes.others ino part (eqb-false ino at off))) (are ino part))

-- rows that are each made anew, of which as many pass
tally-each : (p : EntryRow → Bool) (f : EntryRow → EntryRow) → ((row : EntryRow) → p (f row) ≡ p row) → (rows : List EntryRow) → tally p (each f rows) ≡ tally p rows
tally-each p f same_tests [] = refl
tally-each p f same_tests (row ∷ rows) = omega (arith, tally-first p (f row) (each f rows), tally-first p row rows, ap bit (same_tests row), tally-each p f same_tests rows)

-- where each row keeps its holder, and has something outside a gather's target where it had
pub counted-rows : (l : CountedLocks) (t : Table) (f : EntryRow → EntryRow) → ((row : EntryRow) → (f row).holder ≡ row.holder)
    → ((row : EntryRow) (part : Part) (from to : StableState) → lock_at l.locks row.holder.ino.0 part ≡ Some (Gather from to) → has_outside part to (f row) ≡ has_outside part to row)
    → AreCounted t l → AreCounted (record t { rows = each f t.rows }) l
counted-rows l t f same_holder same_outside =
    counted-as l t (record t { rows = each f t.rows }) (λ ino part from to gathers.
    outside-tally (record t { rows = each f t.rows }) ino part to ∙ tally-each (is_against ino part to) f (against ino part from to gathers) t.rows ∙ sym (outside-tally t ino part to))
  where
    against : (ino : ℕ) (part : Part) (from to : StableState) → lock_at l.locks ino part ≡ Some (Gather from to) → (row : EntryRow) → is_against ino part to (f row) ≡ is_against ino part to row
    against ino part from to gathers row = ap (λ (h : Holder). (h.ino.0 == ino) && has_outside part to (f row)) (same_holder row) ∙ by_inode (row.holder.ino.0 == ino) refl
      where
        by_inode : (b : Bool) → (row.holder.ino.0 == ino) ≡ b → (b && has_outside part to (f row)) ≡ (b && has_outside part to row)
        by_inode true here = same_outside row part from to (ap (λ n. lock_at l.locks n part) (eqb-true row.holder.ino.0 ino here) ∙ gathers)
        by_inode false off = refl

-- what is outside depends on the holder and on what is held
outside-held : (part : Part) (to : StableState) (k : Holder) (e f : Entry) → f.held ≡ e.held → has_outside part to (record { holder = k; entry = f }) ≡ has_outside part to (record { holder = k; entry = e })
outside-held part to k e f held = ap (λ (caps : Caps). not (is_empty (minus (of_part part caps) (row_of part to k.client)))) held

-- ---- a new entry

pub counted-opened : (l : CountedLocks) (t : Table) (k : Holder) → AreCounted t l → AreCounted (opened t k) l
counted-opened l t k =
    counted-as l t (opened t k) (λ ino part from to gathers.
    let new : EntryRow = record { holder = k; entry = new_entry } in
    let p : EntryRow → Bool = is_against ino part to in
    omega (arith, outside-tally (opened t k) ino part to, outside-tally t ino part to, tally-more p t.rows new, ap bit (passes ino part to)))
  where
    passes : (ino : ℕ) (part : Part) (to : StableState) → is_against ino part to (record { holder = k; entry = new_entry }) ≡ false
    passes ino part to = and_right (k.ino.0 == ino) (has_outside part to (record { holder = k; entry = new_entry })) (nothing_outside part to (record { holder = k; entry = new_entry }) refl)

-- the holder has one, an old one or a new
pub counted-entry : (l : CountedLocks) (t : Table) (k : Holder) → AreCounted t l → AreCounted (with_entry t k) l
counted-entry l t k are = elim (is_some (entry_at t k)) as (λ b. AreCounted (cond b t (opened t k)) l) [ true ↦ are | false ↦ counted-opened l t k are ]

-- ---- what a client gives up

-- what is left of an entry whose client gives these up: with the pin it goes
pub counted-less : (t : Table) (k : Holder) (caps : Caps) (g : Entry → Entry) (new : CountedLocks) → (has caps P ≡ false → AreCounted (changed t k g) new) → (has caps P ≡ true → AreCounted (without t k) new)
    → AreCounted (cond (has caps P) (without t k) (changed t k g)) new
counted-less t k caps g new rest gone = elim (has caps P) as (λ b. has caps P ≡ b → AreCounted (cond b (without t k) (changed t k g)) new) [ true ↦ gone | false ↦ rest ] refl

-- one row goes from among those that count, or stays, as it has something outside before and after
less_by : (now was : ℕ) (on before after : Bool) → now + bit (on && before) ≡ was + bit (on && after) → (after ≡ true → before ≡ true) → now + bit (on && (before && not after)) ≡ was
less_by now was false before after is less = omega arith
less_by now was true true true is less = omega arith
less_by now was true true false is less = omega arith
less_by now was true false true is less = absurd (true≢false (sym (less refl)))
less_by now was true false false is less = omega arith

-- who has less has not more outside
less-outside : (part : Part) (to : StableState) (k : Holder) (e f : Entry) → IsSubset f.held e.held → has_outside part to (record { holder = k; entry = f }) ≡ true → has_outside part to (record { holder = k; entry = e }) ≡ true
less-outside part to k e f less is = by_test (is_empty (outside part to (record { holder = k; entry = e }))) refl
  where
    nothing : is_empty (outside part to (record { holder = k; entry = e })) ≡ true → (c : Cap) → has (outside part to (record { holder = k; entry = f })) c ≡ has no_caps c
    nothing empty c = let none = has-is_empty (outside part to (record { holder = k; entry = e })) empty c in let held = less c in grind (arith, has-minus, has-of_part, has-none)

    by_test : (b : Bool) → is_empty (outside part to (record { holder = k; entry = e })) ≡ b → not b ≡ true
    by_test false found = refl
    by_test true found = sym (ap not ((is_empty-no_caps (outside part to (record { holder = k; entry = f }))).1 (same_caps (outside part to (record { holder = k; entry = f })) no_caps (nothing found)))) ∙ is

-- no lock of the holder's inode is in a gather
module _ (l : CountedLocks) (t : Table) (k : Holder) (idle : option_map_or is_gathering (map.get l.locks.states k.ino.0) false ≡ false) where
  no_gather : (part : Part) (from to : StableState) (o : Option InodeLocks) → option_map_or is_gathering o false ≡ false → option_map (lock_in part) o ≢ Some (Gather from to)
  no_gather part from to None is gathers = absurd (cc)
  no_gather A from to (Some four) is gathers = grind arith
  no_gather L from to (Some four) is gathers = grind arith
  no_gather X from to (Some four) is gathers = grind arith
  no_gather F from to (Some four) is gathers = grind arith

  elsewhere : (ino : ℕ) (part : Part) (from to : StableState) → lock_at l.locks ino part ≡ Some (Gather from to) → on_number ino ≢ k.ino
  elsewhere ino part from to gathers here = no_gather part from to (map.get l.locks.states k.ino.0) idle (ap (λ (i : Ino). lock_at l.locks i.0 part) (sym here) ∙ gathers)

  pub idle-changed : (f : Entry → Entry) → AreCounted t l → AreCounted (changed t k f) l
  idle-changed f = counted-as l t (changed t k f) (λ ino part from to gathers.
      ap (λ (rows : List EntryRow). length (filter (has_outside part to) rows)) (entries_on-changed t k f (on_number ino) (elsewhere ino part from to gathers)))

  pub idle-without : AreCounted t l → AreCounted (without t k) l
  idle-without = counted-as l t (without t k) (λ ino part from to gathers.
      ap (λ (rows : List EntryRow). length (filter (has_outside part to) rows)) (entries_on-without t k (on_number ino) (elsewhere ino part from to gathers)))

-- the entry is there, and these are left to its client
module _ (old new : CountedLocks) (t : Table) (k : Holder) (e : Entry) (left : Caps) (there : entry_at t k ≡ Some e) (locks : new.locks ≡ old.locks)
    (counts : (at : LockId) → count_of new at ≡ count_of old at - given_up (record { holder = k; entry = e }) left at (lock_at old.locks at.0 at.1)) where
  abbrev own : EntryRow
  own = record { holder = k; entry = e }

  abbrev reduced : EntryRow
  reduced = record { holder = k; entry = record e { held = left } }

  -- the gather to the state waits for it no longer
  abbrev goes : ℕ → Part → StableState → Bool
  goes ino part to = (k.ino.0 == ino) && (has_outside part to own && not (has_outside part to reduced))

  gone : (ino : ℕ) (part : Part) (from to : StableState) → given_up own left (ino, part) (Some (Gather from to)) ≡ bit (goes ino part to)
  gone ino part from to =
      ap (λ b. cond (b && (has_outside part to own && not (has_outside part to reduced))) 1 0) (nat_eq_equiv.symm ino k.ino.0)
      ∙ elim (goes ino part to) as (λ b. cond b 1 0 ≡ bit b) [ true ↦ refl | false ↦ refl ]

  -- as many less count where one row less is against
  less : (after : Table) → ((ino : ℕ) (part : Part) (to : StableState) → tally (is_against ino part to) after.rows + bit (goes ino part to) ≡ tally (is_against ino part to) t.rows)
      → AreCounted t old → AreCounted after new
  less after fewer are ino part =
      subst (λ (m : LockMap). IsCounted after (ino, part) (count_of new (ino, part)) (lock_at m ino part)) (sym locks) (by_lock (lock_at old.locks ino part) (are ino part) (counts (ino, part)))
    where
      by_lock : (o : Option LockState) → IsCounted t (ino, part) (count_of old (ino, part)) o → count_of new (ino, part) ≡ count_of old (ino, part) - given_up own left (ino, part) o
          → IsCounted after (ino, part) (count_of new (ino, part)) o
      by_lock None right is = tt
      by_lock (Some (Stable state)) right is = tt
      by_lock (Some (Gather from to)) right is =
          let was : holders_outside t (on_number ino) part to ≡ tally (is_against ino part to) t.rows = outside-tally t ino part to in
          let now : holders_outside after (on_number ino) part to ≡ tally (is_against ino part to) after.rows = outside-tally after ino part to in
          let one = gone ino part from to in
          let step = fewer ino part to in
          omega arith

  found : find (is_row_of k) t.rows ≡ Some own
  found = row_of-entry t k e there

  pub less-changed : (f : Entry → Entry) → (f e).held ≡ left → IsSubset left e.held → AreCounted t old → AreCounted (changed t k f) new
  less-changed f held subset = less (changed t k f) fewer
    where
      same_outside : (part : Part) (to : StableState) → has_outside part to (record { holder = k; entry = f e }) ≡ has_outside part to reduced
      same_outside part to = outside-held part to k (record e { held = left }) (f e) held

      fewer : (ino : ℕ) (part : Part) (to : StableState) → tally (is_against ino part to) (changed t k f).rows + bit (goes ino part to) ≡ tally (is_against ino part to) t.rows
      fewer ino part to = less_by (tally (is_against ino part to) (changed t k f).rows) (tally (is_against ino part to) t.rows) (k.ino.0 == ino) (has_outside part to own) (has_outside part to reduced)
          (subst (λ o. tally (is_against ino part to) (changed t k f).rows + bit (passes_found (is_against ino part to) o) ≡ tally (is_against ino part to) t.rows + bit (passes_found (is_against ino part to) (with_change f o)))
          found (tally-changed (is_against ino part to) t.rows k f) ∙ ap (λ b. tally (is_against ino part to) t.rows + bit ((k.ino.0 == ino) && b)) (same_outside part to))
          (less-outside part to k e (record e { held = left }) subset)

  pub less-without : left ≡ no_caps → IsDistinct same (holders_of_rows t.rows) → AreCounted t old → AreCounted (without t k) new
  less-without none once = less (without t k) fewer
    where
      nothing : (part : Part) (to : StableState) → has_outside part to reduced ≡ false
      nothing part to = nothing_outside part to reduced none

      fewer : (ino : ℕ) (part : Part) (to : StableState) → tally (is_against ino part to) (without t k).rows + bit (goes ino part to) ≡ tally (is_against ino part to) t.rows
      fewer ino part to = less_by (tally (is_against ino part to) (without t k).rows) (tally (is_against ino part to) t.rows) (k.ino.0 == ino) (has_outside part to own) (has_outside part to reduced)
          (subst (λ o. tally (is_against ino part to) (without t k).rows + bit (passes_found (is_against ino part to) o) ≡ tally (is_against ino part to) t.rows)
          found (tally-without (is_against ino part to) t.rows k once) ∙ sym (ap (λ b. tally (is_against ino part to) t.rows + bit ((k.ino.0 == ino) && b)) (nothing part to) ∙ none_here (k.ino.0 == ino)))
          (λ is. absurd (true≢false (sym is ∙ nothing part to)))
        where
          none_here : (b : Bool) → tally (is_against ino part to) t.rows + bit (b && false) ≡ tally (is_against ino part to) t.rows
          none_here b = omega (arith, ap bit (and_right b false refl))

-- and where it has none, all stay
module _ (l : CountedLocks) (t : Table) (k : Holder) (none : entry_at t k ≡ None) where
  not_found : find (is_row_of k) t.rows ≡ None
  not_found = no_entry (find (is_row_of k) t.rows) none

  pub none-changed : (f : Entry → Entry) → AreCounted t l → AreCounted (changed t k f) l
  none-changed f = subst (λ (u : Table). AreCounted u l) (none_found t k f none)

  pub none-without : IsDistinct same (holders_of_rows t.rows) → AreCounted t l → AreCounted (without t k) l
  none-without once = counted-as l t (without t k) (λ ino part from to gathers.
      let p : EntryRow → Bool = is_against ino part to in
      let step = subst (λ o. tally p (without t k).rows + bit (passes_found p o) ≡ tally p t.rows) not_found (tally-without p t.rows k once) in
      outside-tally (without t k) ino part to ∙ (omega arith) ∙ sym (outside-tally t ino part to))
