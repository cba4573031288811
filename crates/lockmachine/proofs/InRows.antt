-- Moves keep what is held in the rows of the states that locks have or leave.
use Rattle.std.proofs.Common.{◌≡◌, ℕ, Bool, true, false, not, cond, ◌&&◌, ◌||◌, Option, Some, None, List, [], ◌∷◌, zero, suc, filter, refl, sym, ap, subst}
use Rattle.std.proofs.Common.{◌∙◌, arith, Contains, eq-eqb}
use Rattle.std.specs.Prelude.{IsTrue}
use Rattle.std.specs.List.{list_any}
use Rattle.std.specs.Option.{option_map}
use Rattle.capbits.specs.declared.cap.Part.{Part}
use Rattle.capbits.specs.Caps.{has}
use Rattle.capbits.specs.Sets.{IsSubset, has-minus, is_empty, of_part}
use Rattle.capbits.proofs.Emptiness.{has-is_empty}
use Rattle.locktable.specs.declared.states.StableState.{StableState}
use Rattle.locktable.specs.declared.states.LockState.{LockState}
use Rattle.locktable.specs.declared.states.LockState.TheVariants.{Gather, Stable}
use Rattle.locktable.specs.Rows.{row_of}
use Rattle.captable.specs.declared.entry.EntryRow.{EntryRow}
use Rattle.captable.specs.Calls.{is_of_inode}
use Rattle.lockmachine.specs.declared.moves.Move.{Move}
use Rattle.lockmachine.specs.declared.moves.Move.TheVariants.{Begin, End, Serve, Settled}
use Rattle.lockmachine.specs.Locks.{lock_at}
use Rattle.lockmachine.specs.Scene.{Scene, outside}
use Rattle.lockmachine.specs.Moves.{LockId, coming_state, first_move, may_end_in, present_state, with_moved}
use Rattle.lockmachine.specs.Runs.{Runs}
use Rattle.lockmachine.specs.Rows.{IsInRow, IsInRowOf}
use Rattle.lockmachine.proofs.Moving.{IsMove, first_is, with_lock-each}

-- where no row of an inode passes a test, this row fails it
fails : (p : EntryRow → Bool) (ino : ℕ) (rows : List EntryRow) (row : EntryRow) → list_any p (filter (is_of_inode (record { 0 = ino })) rows) ≡ false → Contains rows row → row.holder.ino.0 ≡ ino → p row ≡ false
fails p ino [] row none (k, room, is) at = absurd (omega arith)
fails p ino (x ∷ xs) row none (zero, room, is) at =
    let e : x ≡ row = is in
    let of_it : is_of_inode (record { 0 = ino }) x ≡ true = eq-eqb x.holder.ino.0 ino (ap (λ (r : EntryRow). r.holder.ino.0) e ∙ at) in
    ap p (sym e) ∙ (neither (p x) _ (ap (λ b. list_any p (cond b (x ∷ filter (is_of_inode (record { 0 = ino })) xs) (filter (is_of_inode (record { 0 = ino })) xs))) (sym of_it) ∙ none)).0
  where
    neither : (a b : Bool) → (a || b) ≡ false → (a ≡ false) × (b ≡ false)
    neither false b e = (refl, e)
    neither true b e = absurd (cc)
fails p ino (x ∷ xs) row none (suc k, room, is) at = fails p ino xs row (later (is_of_inode (record { 0 = ino }) x) none) (k, omega arith, is) at
  where
    rest : List EntryRow
    rest = filter (is_of_inode (record { 0 = ino })) xs

    later : (b : Bool) → list_any p (cond b (x ∷ rest) rest) ≡ false → list_any p rest ≡ false
    later false e = e
    later true e = elim (p x) as (λ b. (b || list_any p rest) ≡ false → list_any p rest ≡ false) [ true ↦ λ e. absurd (cc) | false ↦ λ e. e ] e

-- what has nothing outside of a row is in it
inside : (part : Part) (to : StableState) (row : EntryRow) → not (is_empty (outside part to row)) ≡ false → IsSubset (of_part part row.entry.held) (row_of part to row.holder.client)
inside part to row none c held =
    by_test (has (row_of part to row.holder.client) c) refl
  where
    empty : (b : Bool) → not b ≡ false → b ≡ true
    empty true e = refl
    empty false e = absurd (cc)

    by_test : (b : Bool) → has (row_of part to row.holder.client) c ≡ b → IsTrue b
    by_test true e = refl
    by_test false e =
        sym (has-is_empty (outside part to row) (empty _ none) c)
        ∙ has-minus (of_part part row.entry.held) (row_of part to row.holder.client) c ∙ (λ k. held k && not (e k))

module _ (s : Scene) (row : EntryRow) (among : Contains s.table.rows row) where
  begun : (part : Part) (to : StableState) (o : Option LockState) → IsInRowOf row part o → IsInRowOf row part (option_map (λ _. Gather (present_state o) to) o)
  begun part to None was = was
  begun part to (Some (Stable state)) was = was
  begun part to (Some (Gather from on)) was = was

  ended : (at : LockId) (o : Option LockState) → may_end_in s.table at o ≡ true → row.holder.ino.0 ≡ at.0 → IsInRowOf row at.1 (option_map (λ _. Stable (coming_state o)) o)
  ended at None may here = absurd (cc)
  ended at (Some (Stable state)) may here = absurd (cc)
  ended at (Some (Gather from to)) may here =
      inside at.1 to row (fails (λ r. not (is_empty (outside at.1 to r))) at.0 s.table.rows row (was_false _ may) among here)
    where
      was_false : (b : Bool) → not b ≡ true → b ≡ false
      was_false false e = refl
      was_false true e = absurd (cc)

  -- what is held at a lock that was in its row is in it
  abbrev Kept : Bool → LockId → Option LockState → Type 0
  Kept b at o = IsInRowOf row at.1 (lock_at s.locks at.0 at.1) → row.holder.ino.0 ≡ at.0 → IsInRowOf row at.1 o

  kept : (step : Move) → IsMove s step → (part : Part) → IsInRow s row part → IsInRow (with_moved s step) row part
  kept (Begin ino p to) is part was =
      with_lock-each s.locks ino.0 p (Gather (present_state (lock_at s.locks ino.0 p)) to) Kept (λ was here. begun p to (lock_at s.locks ino.0 p) was) (λ at was here. was) (row.holder.ino.0, part) was refl
  kept (End ino p) is part was =
      with_lock-each s.locks ino.0 p (Stable (coming_state (lock_at s.locks ino.0 p))) Kept (λ was here. ended (ino.0, p) (lock_at s.locks ino.0 p) is here) (λ at was here. was) (row.holder.ino.0, part) was refl
  kept (Serve ticket) is part was = was
  kept Settled is part was = was

pub one_keeps : (s : Scene) (row : EntryRow) (part : Part) → Contains s.table.rows row → IsInRow s row part → IsInRow (with_moved s (first_move s)) row part
one_keeps s row part among was = kept s row among (first_move s) (first_is s) part was

pub all_keep : (s t : Scene) (steps : List Move) (row : EntryRow) (part : Part) → Runs s steps t → Contains s.table.rows row → IsInRow s row part → IsInRow t row part
all_keep s t [] row part is among was = subst (λ (t : Scene). IsInRow t row part) (sym is) was
all_keep s t (step ∷ steps) row part (first, of_lock, rest) among was =
    all_keep (with_moved s step) t steps row part rest among (subst (λ (m : Move). IsInRow (with_moved s m) row part) first (one_keeps s row part among was))
