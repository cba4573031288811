-- What an entry holds is in place, where it is in its row: what is outside the row of a gather's target is being revoked, by
-- what revoking is.
use Rattle.std.proofs.Common.{◌≡◌, Bool, true, false, not, ◌||◌, ◌&&◌, Option, Some, List, filter, refl, ap, ◌∙◌, Contains, arith}
use Rattle.std.proofs.lemmas.List.Folds.{list_any_at}
use Rattle.std.specs.Cmp.{nat_eq_equiv}
use Rattle.std.specs.List.{list_any}
use Rattle.capbits.specs.Caps.{has}
use Rattle.capstep.specs.Headline.{AreRevoked, IsRevoked}
use Rattle.lockmachine.specs.Scene.{against_lock, against_locks, against_part, against_policy}
use Rattle.capcore.proofs.CommonPieces.{Cap, EntryRow, Gather, IsInPlace, IsInRow, IsInRowOf, LockState, Part, Scene, StableState, against, filter-contains}
use Rattle.capcore.proofs.CommonPieces.{has-is_empty, has-minus, has-union, is_empty, is_of_inode, lock_at, of_part, outside, pending_of, permitted, row_of}
use Rattle.capcore.proofs.CommonPieces.{second_true}

-- a row that passes two tests is found by both
pub any_found : (p q : EntryRow → Bool) (rows : List EntryRow) (row : EntryRow) → Contains rows row → p row ≡ true → q row ≡ true → list_any q (filter p rows) ≡ true
any_found p q rows row inside on passes = let there = filter-contains p rows row inside on in grind (arith, list_any_at)

-- what a lock takes is being revoked
by_locks : (s : Scene) (row : EntryRow) (part : Part) (c : Cap) → has (against_part s row part) c ≡ true → has (against_locks s row) c ≡ true
by_locks s row part c h = grind (arith, has-union)

part_in_all : (s : Scene) (row : EntryRow) (part : Part) (c : Cap) → has (against_part s row part) c ≡ true → has (against s row) c ≡ true
part_in_all s row part c h = has-union (against_locks s row) (against_policy s row) c ∙ ap (λ b. b || has (against_policy s row) c) (by_locks s row part c h)

module _ (s : Scene) (row : EntryRow) (inside : Contains s.table.rows row) (part : Part) where
  -- what is outside the row of a gather's target is being revoked, and keeps the gather open
  revoked_in : (from to : StableState) → lock_at s.locks row.holder.ino.0 part ≡ Some (Gather from to) → IsRevoked s row part to
  revoked_in from to is c held out =
      let is_outside : has (outside part to row) c ≡ true = has-minus (of_part part row.entry.held) (row_of part to row.holder.client) c ∙ (λ i. held i && not (out i)) in (
        part_in_all s row part c (ap (λ o. has (against_lock part row o) c) is ∙ is_outside),
        any_found (is_of_inode row.holder.ino) (λ r. not (is_empty (outside part to r))) s.table.rows row inside (nat_eq_equiv.refl row.holder.ino.0) (grind (arith, has-is_empty)),
      )

  by_lock : (o : Option LockState) → lock_at s.locks row.holder.ino.0 part ≡ o → IsInRowOf row part o → IsInPlace s row part o
  by_lock (Some (Gather from to)) is in_row = (in_row, revoked_in from to is)
  by_lock o is in_row = in_row

  pub placed : IsInRow s row part → IsInPlace s row part (lock_at s.locks row.holder.ino.0 part)
  placed in_row = by_lock (lock_at s.locks row.holder.ino.0 part) refl in_row

-- and what is in place is in its row
pub placed-in_row : (s : Scene) (row : EntryRow) (part : Part) (o : Option LockState) → IsInPlace s row part o → IsInRowOf row part o
placed-in_row s row part o place = grind arith

-- ---- what is not permitted

revoked-lost : (s : Scene) (row : EntryRow) (cap : Cap) → has row.entry.held cap ≡ true → has (permitted s.fs s.tree s.sessions row.holder) cap ≡ false → has (against s row) cap ≡ true
revoked-lost s row cap held out = grind (arith, has-union, second_true, has-minus)

pub all-revoked : (s : Scene) → AreRevoked s
all-revoked s row cap found = revoked-lost s row cap

-- so what a client is to know that it holds is permitted
pub pending-permitted : (s : Scene) (row : EntryRow) (cap : Cap) → has (pending_of s row) cap ≡ true → has (permitted s.fs s.tree s.sessions row.holder) cap ≡ true
pending-permitted s row cap pending = grind (arith, has-minus, revoked-lost)
