-- What different clients hold of one inode has no conflict, where it is in place.
use Rattle.std.proofs.Common.{◌≡◌, ◌≢◌, Bool, true, false, ◌||◌, ◌==◌, Option, Some, refl, sym, ap, subst, ◌∙◌, true≢false, IsTrue, arith}
use Rattle.std.proofs.lemmas.Bool.{and_from}
use Rattle.std.specs.Cmp.{nat_eq_equiv}
use Rattle.std.specs.List.{find, list_any}
use Rattle.std.specs.Option.{option_map_or}
use Rattle.capbits.specs.Sets.{covers, has-none, has-of_part, of_part, same_cap}
use Rattle.captable.proofs.Searches.{find_passes}
use Rattle.locktable.specs.Conflicts.{barred_by, conflict, rows_apart}
use Rattle.locktable.specs.Rows.{row_of}
use Rattle.capstep.specs.Headline.{AreInPlace, IsInPlace, NoneConflict}
use Rattle.capcore.proofs.Common.{Cap, ClientId, EntryRow, Holder, Ino, IsSound, IsSubset, LockState, Part, Scene, State, has, is_row_of, lock_at}
use Rattle.capcore.proofs.Common.{present_state, same}

-- ---- caps that conflict are of one part

-- a part that two caps cover
abbrev OnePart : Cap → Cap → Type 0
OnePart c d = (part : Part) × IsTrue (covers c part) × IsTrue (covers d part)

conflict_part : (c d : Cap) (a b : Bool) → list_any (same_cap d) (barred_by c) ≡ a → list_any (same_cap c) (barred_by d) ≡ b → IsTrue (a || b) → OnePart c d
conflict_part c d a b first second h = grind arith

-- ---- what is held of a part is in the row of its lock

in_row : (s : Scene) (row : EntryRow) (part : Part) (lock : Option LockState) → IsInPlace s row part lock → IsSubset (of_part part row.entry.held) (row_of part (present_state lock) row.holder.client)
in_row s row part lock place = grind (arith, has-none)

in_row_of : (s : Scene) (row : EntryRow) (c : Cap) (part : Part) → AreInPlace s → find (is_row_of row.holder) s.table.rows ≡ Some row → IsTrue (has row.entry.held c) → IsTrue (covers c part)
    → IsTrue (has (row_of part (present_state (lock_at s.locks row.holder.ino.0 part)) row.holder.client) c)
in_row_of s row c part placed found held cov =
    in_row s row part (lock_at s.locks row.holder.ino.0 part) (placed row part found) c (has-of_part part row.entry.held c ∙ and_from _ _ held cov)

-- ---- the entries that two holders have

-- the entry by which a holder holds something
record HeldBy (s : Scene) (k : Holder) (c : Cap) : Type 0 where
  row : EntryRow
  is : k ≡ row.holder
  found : find (is_row_of row.holder) s.table.rows ≡ Some row
  held : IsTrue (has row.entry.held c)

held_by : (s : Scene) (k : Holder) (c : Cap) (o : Option EntryRow) → find (is_row_of k) s.table.rows ≡ o → IsTrue (option_map_or (λ row. has row.entry.held c) o false) → HeldBy s k c
held_by s k c o found held = grind (arith, find_passes)

pub held-apart : (s : State) → IsSound s → NoneConflict s.scene
held-apart s sound a b c d differ same_ino has_a has_b =
    elim (conflict c d) as (λ v. conflict c d ≡ v → v ≡ false) [
      | false ↦ λ e. refl
      | true ↦ λ e. (
          let o = conflict_part c d _ _ refl refl e in
          let part = o.0 in
          let x = held_by s.scene a c _ refl has_a in
          let y = held_by s.scene b d _ refl has_b in
          let row_a = in_row_of s.scene x.row c part sound.in_place x.found x.held o.1 in
          let inos : y.row.holder.ino ≡ x.row.holder.ino = ap (λ (k : Holder). k.ino) (sym y.is) ∙ sym same_ino ∙ ap (λ (k : Holder). k.ino) x.is in
          let row_b : IsTrue (has (row_of part (present_state (lock_at s.scene.locks x.row.holder.ino.0 part)) y.row.holder.client) d) =
          subst (λ (i : Ino). IsTrue (has (row_of part (present_state (lock_at s.scene.locks i.0 part)) y.row.holder.client) d)) inos (in_row_of s.scene y.row d part sound.in_place y.found y.held o.2) in
          let others : x.row.holder.client ≢ y.row.holder.client = λ same.
          true≢false (
          sym (nat_eq_equiv.refl a.client.0)
          ∙ ap (λ (k : ClientId). a.client.0 == k.0) (ap (λ (k : Holder). k.client) x.is ∙ same ∙ ap (λ (k : Holder). k.client) (sym y.is))
          ∙ differ) in
          sym e ∙ (rows_apart part (present_state (lock_at s.scene.locks x.row.holder.ino.0 part)) x.row.holder.client y.row.holder.client others).no_conflict c d row_a row_b
          )
    ] refl
