-- What the end of a step makes of an entry on an inode that it affected: it gains what is due, which its locks allow, and its number may rise.
use Rattle.std.proofs.Common.{◌≡◌, ◌≤◌, ℕ, ◌+◌, Bool, true, false, not, cond, ◌&&◌, ◌||◌, Option, Some, List, [], ◌∷◌, refl, sym, ap, subst, ◌∙◌, ◌⊎◌, arith}
use Rattle.std.proofs.Common.{◌==◌, filter, if◌then◌else◌}
use Rattle.std.proofs.Common.{map as each}
use Rattle.std.proofs.lemmas.Bool.{or_left}
use Rattle.std.proofs.lemmas.Simd.{map-map}
use Rattle.std.specs.List.{list_any}
use Rattle.std.specs.FinMap as map
use Rattle.capbits.proofs.Covering.{one_part, same_cap-pin}
use Rattle.capbits.specs.Caps.{has}
use Rattle.capbits.specs.Sets.{covers, no_caps}
use Rattle.locktable.specs.Rows.{allowed_covers, allowed_of}
use Rattle.sessiontab.specs.Calls.{status_of}
use Rattle.sessiontab.specs.Tests.{is_open as is_open_status}
use Rattle.lockmachine.specs.Under.{allowed_by}
use Rattle.capcore.proofs.CommonPieces.{AreCounted, Cap, Caps, CountedLocks, Entry, EntryRow, Gather, Holder, IsAtRest, IsInRow, IsLockAtRest, LockMap, LockState, Nodes}
use Rattle.capcore.proofs.CommonPieces.{P, Part, Scene, SessionTable, StableState, allowed_under, and_parts, caps_in, changed_where, effective_want, filter-map, issuable}
use Rattle.capcore.proofs.CommonPieces.{has-caps_in, has-meet, has-minus, has-none, has-of_part, has-union, has_outside, is_empty, is_of_inode, is_open, lock_at}
use Rattle.capcore.proofs.CommonPieces.{meet, of_part, outside, permitted, remade, row_of, same_caps, second_true, union, wants}
use Rattle.capcore.proofs.CountsStay.{counted-rows}
use Rattle.capcore.specs.Affected.{finished_entry}

-- ---- what the locks allow of a part

abbrev allowed_part : Scene → EntryRow → Part → Caps
allowed_part s row part = allowed_by part row (lock_at s.locks row.holder.ino.0 part)

abbrev allowed_to : Scene → EntryRow → Caps
allowed_to s row = allowed_under (map.get s.locks.states row.holder.ino.0) row

part_covers : (s : Scene) (row : EntryRow) (part : Part) (c : Cap) → has (allowed_part s row part) c ≡ true → covers c part ≡ true
part_covers s row part c h = grind (arith, has-none, allowed_covers)

-- what is allowed of a part is allowed by its lock
allowed_here : (s : Scene) (row : EntryRow) (part : Part) (c : Cap) → covers c part ≡ true → has (allowed_to s row) c ≡ true → has (allowed_part s row part) c ≡ true
allowed_here s row part c cov h = grind (arith, has-union, no_pin, here)
  where
    no_pin : has (caps_in (P ∷ [])) c ≡ false
    no_pin = has-caps_in (P ∷ []) c ∙ ap (λ b. b || false) (same_cap-pin c part cov)

    here : (q : Part) → has (allowed_part s row q) c ≡ true → has (allowed_part s row part) c ≡ true
    here q h = subst (λ p. has (allowed_part s row p) c ≡ true) (one_part c q part (part_covers s row q c h) cov) h

-- the pin is always allowed
pin_allowed : (s : Scene) (row : EntryRow) → has (allowed_to s row) P ≡ true
pin_allowed s row = has-union _ _ P ∙ or_left _ _ (has-caps_in (P ∷ []) P)

-- ---- the entry at the end

abbrev pub ended_row : (Holder → Caps) → Scene → EntryRow → EntryRow
ended_row known s row = remade (finished_entry known s) row

module _ (known : Holder → Caps) (s : Scene) (row : EntryRow) where
  pub ended : (Q : Entry → Type 0) → ((seq revoke_seq : ℕ) → row.entry.seq ≤ seq → seq ≤ row.entry.seq + 1 → revoke_seq ≤ row.entry.revoke_seq ⊎ (revoke_seq ≡ seq)
      → Q (record row.entry { held = union row.entry.held (issuable s row); seq = seq; revoke_seq = revoke_seq })) → Q (finished_entry known s row)
  ended Q each = grind arith

  pub held-ended : (finished_entry known s row).held ≡ union row.entry.held (issuable s row)
  held-ended = ended (λ e. e.held ≡ union row.entry.held (issuable s row)) (λ seq revoke_seq least most revoked. refl)

  pub want-ended : (finished_entry known s row).want ≡ row.entry.want
  want-ended = ended (λ e. e.want ≡ row.entry.want) (λ seq revoke_seq least most revoked. refl)

  pub told-ended : row.entry.told_seq ≤ row.entry.seq → (finished_entry known s row).told_seq ≤ (finished_entry known s row).seq
  told-ended was = ended (λ e. e.told_seq ≤ e.seq) (λ seq revoke_seq least most revoked. omega (arith, was, least))

  pub revoked-ended : row.entry.revoke_seq ≤ row.entry.seq → (finished_entry known s row).revoke_seq ≤ (finished_entry known s row).seq
  revoked-ended was = grind arith

  pub seq-ended : (count : ℕ) → row.entry.seq ≤ count → (finished_entry known s row).seq ≤ count + 1
  seq-ended count was = ended (λ e. e.seq ≤ count + 1) (λ seq revoke_seq least most revoked. omega (arith, was, most))

  pub effective-ended : (fs : List ℕ) (tree : Nodes) (sessions : SessionTable) → effective_want fs tree sessions (ended_row known s row) ≡ effective_want fs tree sessions row
  effective-ended fs tree sessions =
      ap (λ (want : Caps). if is_open_status (status_of sessions row.holder.client.0) then meet want (permitted fs tree sessions row.holder) else no_caps) want-ended

  -- ---- what it holds

  pub holds-held : (c : Cap) → has row.entry.held c ≡ true → has (finished_entry known s row).held c ≡ true
  holds-held c h = ap (λ caps. has caps c) held-ended ∙ has-union row.entry.held (issuable s row) c ∙ or_left _ _ h

  pub holds-issuable : (c : Cap) → has (issuable s row) c ≡ true → has (finished_entry known s row).held c ≡ true
  holds-issuable c h = ap (λ caps. has caps c) held-ended ∙ has-union row.entry.held (issuable s row) c ∙ second_true _ _ h

  -- it holds the pin, where the pin was held or is wanted
  pub holds-pin : (has row.entry.held P || has (effective_want s.fs s.tree s.sessions row) P) ≡ true → has (finished_entry known s row).held P ≡ true
  holds-pin h = grind (arith, holds-held, holds-issuable, has-meet, pin_allowed)

  -- what is due of a part is allowed by its lock
  issuable_here : (part : Part) (c : Cap) → has (issuable s row) c ≡ true → covers c part ≡ true → has (allowed_part s row part) c ≡ true
  issuable_here part c d cov = allowed_here s row part c cov (and_parts _ _ (sym (has-meet (effective_want s.fs s.tree s.sessions row) (allowed_to s row) c) ∙ d)).1

  -- what it holds of a part it held, or it is due
  held_or_issuable : (part : Part) (c : Cap) → has (of_part part (finished_entry known s row).held) c ≡ true
      → (has (of_part part row.entry.held) c ≡ true) ⊎ (has (allowed_part s row part) c ≡ true)
  held_or_issuable part c h = grind (arith, and_parts, has-of_part, held-ended, has-union, issuable_here)

  -- it stays in the row of the lock
  pub in_row-ended : (part : Part) → IsInRow s row part → IsInRow s (ended_row known s row) part
  unfolding allowed_of
  in_row-ended part was = grind (arith, held_or_issuable, and_parts, has-meet)

  -- what is outside of a gather's target stays so
  pub outside-ended : (part : Part) (from to : StableState) → lock_at s.locks row.holder.ino.0 part ≡ Some (Gather from to) → outside part to (ended_row known s row) ≡ outside part to row
  unfolding allowed_of
  outside-ended part from to lock = same_caps _ _ (λ c. simp (has-minus, has-of_part, held-ended, has-union)
      (absorbed (has row.entry.held c) (has (issuable s row) c) (covers c part) (has (row_of part to row.holder.client) c) (inside c)))
    where
      inside : (c : Cap) → has (issuable s row) c ≡ true → covers c part ≡ true → has (row_of part to row.holder.client) c ≡ true
      inside c d cov =
          let allowed : has (allowed_of part (Gather from to) row.holder.client) c ≡ true = ap (λ o. has (allowed_by part row o) c) (sym lock) ∙ issuable_here part c d cov in
          (and_parts (has (row_of part from row.holder.client) c) (has (row_of part to row.holder.client) c) (sym (has-meet (row_of part from row.holder.client) (row_of part to row.holder.client) c) ∙ allowed)).1

      absorbed : (h d v r : Bool) → (d ≡ true → v ≡ true → r ≡ true) → (((h || d) && v) && not r) ≡ ((h && v) && not r)
      absorbed h d v r e = grind arith

-- ---- the end of a step keeps the locks at rest: it gives only what is in the rows of both states of a gather, and no want looks
-- at what is held

-- at these inodes
module _ (known : Holder → Caps) (s : Scene) (at : ℕ → Bool) where
  abbrev pub on_it : EntryRow → Bool
  on_it row = at row.holder.ino.0

  -- a row at the end: those on these inodes change
  abbrev pub last_row : EntryRow → EntryRow
  last_row row = cond (on_it row) (ended_row known s row) row

  -- the scene with these rows
  abbrev pub issued_at : Scene
  issued_at = record s { table = changed_where on_it (finished_entry known s) s.table }

  -- what holds of a row on one of them at the end, and of each other as it is, holds of each at the end
  pub by_place : (Fact : EntryRow → Type 0) (row : EntryRow) → (on_it row ≡ true → Fact (ended_row known s row)) → (on_it row ≡ false → Fact row) → Fact (last_row row)
  by_place Fact row here elsewhere = elim (on_it row) as (λ b. on_it row ≡ b → Fact (cond b (ended_row known s row) row)) [ true ↦ here | false ↦ elsewhere ] refl

  pub holder-last : (row : EntryRow) → (last_row row).holder ≡ row.holder
  holder-last row = by_place (λ r. r.holder ≡ row.holder) row (λ e. refl) (λ e. refl)

  pub of_inode-last : (i : ℕ) (row : EntryRow) → is_of_inode (record { 0 = i }) (last_row row) ≡ is_of_inode (record { 0 = i }) row
  of_inode-last i row = ap (λ (h : Holder). h.ino.0 == i) (holder-last row)

  wants-last : (i : ℕ) → wants issued_at i ≡ wants s i
  wants-last i = grind (arith, filter-map, map-map)

  -- ---- a gather stays open

  module _ (i : ℕ) (part : Part) (from to : StableState) (lock : lock_at s.locks i part ≡ Some (Gather from to)) where
    abbrev on : EntryRow → Bool
    on = is_of_inode (record { 0 = i })

    abbrev is_left : EntryRow → Bool
    is_left row = not (is_empty (outside part to row))

    left-last : (row : EntryRow) → row.holder.ino.0 ≡ i → is_left (last_row row) ≡ is_left row
    left-last row here =
        by_place (λ r. is_left r ≡ is_left row) row (λ e. ap (λ caps. not (is_empty caps)) (outside-ended known s row part from to (ap (λ n. lock_at s.locks n part) here ∙ lock))) (λ e. refl)

    left_more : (row : EntryRow) (now rows : List EntryRow) → list_any is_left (filter on now) ≡ list_any is_left (filter on rows)
        → list_any is_left (filter on (last_row row ∷ now)) ≡ list_any is_left (filter on (row ∷ rows))
    left_more row now rows same = grind (arith, of_inode-last, left-last)

    left : (rows : List EntryRow) → list_any is_left (filter on (each last_row rows)) ≡ list_any is_left (filter on rows)
    left [] = refl
    left (row ∷ rows) = left_more row (each last_row rows) rows (left rows)

    open-last : is_open issued_at i part to ≡ is_open s i part to
    open-last = left s.table.rows

  -- ---- as many clients count for each gather

  pub counted-issued : (l : CountedLocks) → l.locks ≡ s.locks → AreCounted s.table l → AreCounted issued_at.table l
  counted-issued l locks = counted-rows l s.table last_row holder-last (λ row part from to gathers.
      by_place (λ r. has_outside part to r ≡ has_outside part to row) row
      (λ e. ap (λ caps. not (is_empty caps)) (outside-ended known s row part from to (ap (λ (m : LockMap). lock_at m row.holder.ino.0 part) (sym locks) ∙ gathers))) (λ e. refl))

  -- ---- rest

  resting-last : (i : ℕ) (part : Part) (o : Option LockState) → lock_at s.locks i part ≡ o → IsLockAtRest s i part o → IsLockAtRest issued_at i part o
  resting-last i part o is resting = grind (arith, wants-last, open-last)

  pub rest-issued : IsAtRest s → IsAtRest issued_at
  rest-issued rest = record { each = λ i part. resting-last i part (lock_at s.locks i part) refl (rest.each i part) }
