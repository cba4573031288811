-- Counts of gathers stay right where the same is held as before, and where an inode comes or goes.
use Rattle.std.proofs.Common.{◌≡◌, ℕ, ◌==◌, suc, Bool, true, false, not, cond, ◌⊎◌, inl, inr, Option, Some, None, List, [], ◌∷◌, map, filter, length, refl}
use Rattle.std.proofs.Common.{sym, ap, subst, ◌∙◌}
use Rattle.std.specs.Cmp.{nat_cmp_total}
use Rattle.std.specs.Option.{option_map, option_map_or}
use Rattle.std.specs.FinMap as finite
use Rattle.capbits.specs.declared.cap.Part.{Part}
use Rattle.capbits.specs.declared.cap.Part.TheVariants.{A, F, L, X}
use Rattle.capbits.specs.declared.ids.Ino.{Ino}
use Rattle.capbits.specs.Caps.{Caps}
use Rattle.capbits.specs.Sets.{is_empty, minus, of_part}
use Rattle.capbits.proofs.Maps.{insert-here, insert-other, remove-here, remove-other, same_or_other}
use Rattle.locktable.specs.declared.states.LockState.{LockState}
use Rattle.locktable.specs.declared.states.LockState.TheVariants.{Gather, Stable}
use Rattle.locktable.specs.declared.states.StableState.{StableState}
use Rattle.locktable.specs.Rows.{row_of}
use Rattle.captable.specs.declared.entry.Entry.{Entry}
use Rattle.captable.specs.declared.entry.EntryRow.{EntryRow}
use Rattle.captable.specs.declared.entry.Holder.{Holder}
use Rattle.captable.specs.Calls.{change_rows, is_of_inode}
use Rattle.captable.specs.Table.{Table, is_row_of}
use Rattle.lockmachine.specs.Held.{has_outside, holders_outside}
use Rattle.lockmachine.specs.Lock.{LockId}
use Rattle.locktable.specs.GatherCounts.{count_in, no_counts}
use Rattle.lockmachine.specs.Counts.{AreCounted, CountedLocks, IsCounted, count_of, with_ino, without_ino}
use Rattle.lockmachine.specs.Inodes.{in_sync, lock_in}
use Rattle.lockmachine.specs.Locks.{lock_at}

-- ---- where the same is held

-- who holds what
abbrev pub held_rows : List EntryRow → List (Holder × Caps)
held_rows rows = map (λ row. (row.holder, row.entry.held)) rows

-- a row of the inode whose client holds what the state does not allow
module _ (ino : Ino) (part : Part) (state : StableState) where
  abbrev is_on : Holder × Caps → Bool
  is_on h = h.0.ino.0 == ino.0

  abbrev is_outside : Holder × Caps → Bool
  is_outside h = not (is_empty (minus (of_part part h.1) (row_of part state h.0.client)))

  first-outside : (b : Bool) (row : EntryRow) (rows : List EntryRow) (held : List (Holder × Caps))
      → length (filter (has_outside part state) rows) ≡ length (filter is_outside held)
      → length (filter (has_outside part state) (cond b (row ∷ rows) rows)) ≡ length (filter is_outside (cond b ((row.holder, row.entry.held) ∷ held) held))
  first-outside false row rows held same = same
  first-outside true row rows held same =
      elim (has_outside part state row) as (λ b. length (cond b (row ∷ filter (has_outside part state) rows) (filter (has_outside part state) rows))
      ≡ length (cond b ((row.holder, row.entry.held) ∷ filter is_outside held) (filter is_outside held))) [ true ↦ ap suc same | false ↦ same ]

  -- they are counted by who holds what
  outside-held : (rows : List EntryRow) → length (filter (has_outside part state) (filter (is_of_inode ino) rows)) ≡ length (filter is_outside (filter is_on (held_rows rows)))
  outside-held [] = refl
  outside-held (row ∷ rows) = first-outside (is_of_inode ino row) row (filter (is_of_inode ino) rows) (filter is_on (held_rows rows)) (outside-held rows)

holders-held : (old new : Table) → held_rows new.rows ≡ held_rows old.rows → (ino : Ino) (part : Part) (state : StableState) → holders_outside new ino part state ≡ holders_outside old ino part state
holders-held old new same ino part state =
    outside-held ino part state new.rows ∙ ap (λ held. length (filter (is_outside ino part state) (filter (is_on ino part state) held))) same ∙ sym (outside-held ino part state old.rows)

module _ (old new : Table) (same : held_rows new.rows ≡ held_rows old.rows) where
  one-held : (at : LockId) (n : ℕ) (lock : Option LockState) → IsCounted old at n lock → IsCounted new at n lock
  one-held at n None was = tt
  one-held at n (Some (Stable state)) was = tt
  one-held at n (Some (Gather from to)) was = was ∙ sym (holders-held old new same (record { 0 = at.0 }) at.1 to)

  pub counted-held : (l : CountedLocks) → AreCounted old l → AreCounted new l
  counted-held l are ino part = one-held (ino, part) (count_of l (ino, part)) (lock_at l.locks ino part) (are ino part)

-- entries are changed, and hold what they held
pub held-map : (g : EntryRow → EntryRow) → ((row : EntryRow) → (g row).holder ≡ row.holder) → ((row : EntryRow) → (g row).entry.held ≡ row.entry.held) → (rows : List EntryRow) → held_rows (map g rows) ≡ held_rows rows
held-map g holder held [] = refl
held-map g holder held (row ∷ rows) = λ i. (holder row i, held row i) ∷ held-map g holder held rows i

pub held-change : (k : Holder) (f : Entry → Entry) → ((e : Entry) → (f e).held ≡ e.held) → (rows : List EntryRow) → held_rows (change_rows rows k f) ≡ held_rows rows
held-change k f held [] = refl
held-change k f held (row ∷ rows) =
    elim (is_row_of k row) as (λ b. held_rows (cond b (record row { entry = f row.entry } ∷ rows) (row ∷ change_rows rows k f)) ≡ (row.holder, row.entry.held) ∷ held_rows rows) [
      | true ↦ λ i. (row.holder, held row.entry i) ∷ held_rows rows
      | false ↦ λ i. (row.holder, row.entry.held) ∷ held-change k f held rows i
    ]

-- ---- where an inode comes or goes

module _ (table : Table) where
  -- the locks of a new inode are stable
  new-lock : (at : LockId) (n : ℕ) (part : Part) → IsCounted table at n (Some (lock_in part in_sync))
  new-lock at n A = tt
  new-lock at n L = tt
  new-lock at n X = tt
  new-lock at n F = tt

  pub counted-born : (l : CountedLocks) (new : ℕ) → AreCounted table l → AreCounted table (with_ino l new)
  counted-born l new are ino part = elim (same_or_other nat_cmp_total finite.nat_cmp-IsAntisymmetric ino new) as (λ _. IsCounted table (ino, part) (count_of (with_ino l new) (ino, part)) (lock_at (with_ino l new).locks ino part)) [
    | inl is ↦ subst (IsCounted table (ino, part) (count_of (with_ino l new) (ino, part)))
        (sym (ap (λ i. option_map (lock_in part) (finite.get (finite.insert l.locks.states new in_sync) i)) is ∙ ap (option_map (lock_in part)) (insert-here nat_cmp_total finite.nat_cmp-IsAntisymmetric l.locks.states new in_sync))) (new-lock (ino, part) (count_of (with_ino l new) (ino, part)) part)
    | inr off ↦
        let lock = insert-other nat_cmp_total finite.nat_cmp-IsAntisymmetric l.locks.states new in_sync ino off in
        let count = insert-other nat_cmp_total finite.nat_cmp-IsAntisymmetric l.counts new no_counts ino off in
        subst (λ o. IsCounted table (ino, part) (count_of (with_ino l new) (ino, part)) (option_map (lock_in part) o)) (sym lock)
        (subst (λ o. IsCounted table (ino, part) (option_map_or (count_in part) o 0) (lock_at l.locks ino part)) (sym count) (are ino part))
  ]

  pub counted-dropped : (l : CountedLocks) (gone : ℕ) → AreCounted table l → AreCounted table (without_ino l gone)
  counted-dropped l gone are ino part = elim (same_or_other nat_cmp_total finite.nat_cmp-IsAntisymmetric ino gone) as (λ _. IsCounted table (ino, part) (count_of (without_ino l gone) (ino, part)) (lock_at (without_ino l gone).locks ino part)) [
    | inl is ↦ subst (IsCounted table (ino, part) (count_of (without_ino l gone) (ino, part)))
        (sym (ap (λ i. option_map (lock_in part) (finite.get (finite.remove l.locks.states gone) i)) is ∙ ap (option_map (lock_in part)) (remove-here nat_cmp_total finite.nat_cmp-IsAntisymmetric l.locks.states gone))) tt
    | inr off ↦
        let lock = remove-other nat_cmp_total finite.nat_cmp-IsAntisymmetric l.locks.states gone ino off in
        let count = remove-other nat_cmp_total finite.nat_cmp-IsAntisymmetric l.counts gone ino off in
        subst (λ o. IsCounted table (ino, part) (count_of (without_ino l gone) (ino, part)) (option_map (lock_in part) o)) (sym lock)
        (subst (λ o. IsCounted table (ino, part) (option_map_or (count_in part) o 0) (lock_at l.locks ino part)) (sym count) (are ino part))
  ]
