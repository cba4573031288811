-- Whom gathers wait for, while a client gives up its entries one after another.
use Rattle.std.proofs.Common.{◌≡◌, ◌==◌, ◌&&◌, ◌+◌, ◌-◌, ℕ, Bool, true, false, not, cond, Option, Some, None, List, [], ◌∷◌, filter, refl, sym, ap, ◌∙◌, arith}
use Rattle.std.proofs.Math.Bool.{and-true}
use Rattle.std.specs.Cmp.{nat_eq_equiv}
use Rattle.capbits.proofs.Emptiness.{is_empty-no_caps}
use Rattle.capbits.specs.Caps.{has}
use Rattle.capbits.specs.Sets.{covers, has-minus, has-none, has-of_part, of_part, same_caps}
use Rattle.capbits.specs.declared.cap.Cap.{Cap}
use Rattle.capbits.specs.declared.cap.Part.{Part}
use Rattle.locktable.specs.Rows.{row_of}
use Rattle.locktable.specs.declared.states.LockState.{LockState}
use Rattle.locktable.specs.declared.states.LockState.TheVariants.{Gather, Stable}
use Rattle.locktable.specs.declared.states.StableState.{StableState}
use Rattle.captable.proofs.Counting.{bit}
use Rattle.captable.proofs.Searches.{filter-filter}
use Rattle.captable.proofs.Tally.{tally, tally-first, tally-parted}
use Rattle.captable.specs.Calls.{is_of_client, is_of_inode, without_client}
use Rattle.lockmachine.specs.Counts.{IsCounted, LockId, given_up, has_outside, holders_outside}
use Rattle.lockmachine.specs.Scene.{outside}
use Rattle.step_acts.proofs.Common.{ClientId, EntryRow, Table, no_caps}

-- who holds nothing, holds nothing that a state does not allow
pub nothing_outside : (part : Part) (state : StableState) (row : EntryRow) → row.entry.held ≡ no_caps → has_outside part state row ≡ false
nothing_outside part state row nothing =
    ap not ((is_empty-no_caps (outside part state row)).1 (same_caps (outside part state row) no_caps none))
  where
    none : (c : Cap) → has (outside part state row) c ≡ has no_caps c
    none c =
        has-minus (of_part part row.entry.held) (row_of part state row.holder.client) c
        ∙ ap (λ b. b && not (has (row_of part state row.holder.client) c)) (has-of_part part row.entry.held c ∙ ap (λ held. has held c && covers c part) nothing ∙ ap (λ b. b && covers c part) (has-none c))
        ∙ sym (has-none c)

module _ (t : Table) (client : ClientId) where
  -- the rows of a list that are on the inode of the lock
  abbrev at_lock : LockId → List EntryRow → List EntryRow
  at_lock at rows = filter (is_of_inode (record { 0 = at.0 })) rows

  -- a gather waits for those of the others, and for the client at its entries that are left
  abbrev pub IsLeft : List EntryRow → LockId → ℕ → Option LockState → Type 0
  IsLeft rows at n None = Unit {0}
  IsLeft rows at n (Some (Stable state)) = Unit {0}
  IsLeft rows at n (Some (Gather from to)) = n ≡ holders_outside (without_client t client) (record { 0 = at.0 }) at.1 to + tally (has_outside at.1 to) (at_lock at rows)

  -- at first these are all of the client's
  pub left-all : (at : LockId) (n : ℕ) (o : Option LockState) → IsCounted t at n o → IsLeft (filter (is_of_client client) t.rows) at n o
  left-all at n None is = is
  left-all at n (Some (Stable state)) is = is
  left-all at n (Some (Gather from to)) is =
      let own = is_of_client client in
      let here : EntryRow → Bool = is_of_inode (record { 0 = at.0 }) in
      let parted = tally-parted (has_outside at.1 to) own (filter here t.rows) in
      let others = ap (tally (has_outside at.1 to)) (filter-filter (λ row. not (own row)) here t.rows) in
      let mine = ap (tally (has_outside at.1 to)) (filter-filter own here t.rows) in
      omega (arith, is, parted, others, mine)

  -- one row is given up
  module _ (row : EntryRow) (rows : List EntryRow) (at : LockId) (from to : StableState) where
    abbrev passes : EntryRow → Bool
    passes = has_outside at.1 to

    first_here : tally passes (at_lock at (row ∷ rows)) ≡ bit ((at.0 == row.holder.ino.0) && passes row) + tally passes (at_lock at rows)
    first_here =
        ap (λ b. tally passes (cond b (row ∷ at_lock at rows) (at_lock at rows))) (nat_eq_equiv.symm row.holder.ino.0 at.0)
        ∙ elim (at.0 == row.holder.ino.0) as (λ b. tally passes (cond b (row ∷ at_lock at rows) (at_lock at rows)) ≡ bit (b && passes row) + tally passes (at_lock at rows))
        [ true ↦ tally-first passes row (at_lock at rows) | false ↦ omega arith ]

    one_less : given_up row no_caps at (Some (Gather from to)) ≡ bit ((at.0 == row.holder.ino.0) && passes row)
    one_less =
        let nothing : passes (record row { entry = record row.entry { held = no_caps } }) ≡ false = nothing_outside at.1 to (record row { entry = record row.entry { held = no_caps } }) refl in
        ap (λ b. cond ((at.0 == row.holder.ino.0) && (passes row && not b)) 1 0) nothing ∙ ap (λ b. cond ((at.0 == row.holder.ino.0) && b) 1 0) (and-true (passes row))
        ∙ elim ((at.0 == row.holder.ino.0) && passes row) as (λ b. cond b 1 0 ≡ bit b) [ true ↦ refl | false ↦ refl ]

  pub left-less : (row : EntryRow) (rows : List EntryRow) (at : LockId) (n m : ℕ) (o : Option LockState) → m ≡ n - given_up row no_caps at o → IsLeft (row ∷ rows) at n o → IsLeft rows at m o
  left-less row rows at n m None less is = is
  left-less row rows at n m (Some (Stable state)) less is = is
  left-less row rows at n m (Some (Gather from to)) less is =
      let first = first_here row rows at from to in
      let fewer : m ≡ n - bit ((at.0 == row.holder.ino.0) && has_outside at.1 to row) = less ∙ ap (λ one. n - one) (one_less row rows at from to) in
      omega (arith, fewer, is, first)

  -- and in the end none
  pub left-none : (rows : List EntryRow) (at : LockId) (n : ℕ) (o : Option LockState) → rows ≡ [] → IsLeft rows at n o → IsCounted (without_client t client) at n o
  left-none rows at n None ended is = is
  left-none rows at n (Some (Stable state)) ended is = is
  left-none rows at n (Some (Gather from to)) ended is =
      let none = ap (λ (rs : List EntryRow). tally (has_outside at.1 to) (at_lock at rs)) ended in
      omega (arith, is, none)
