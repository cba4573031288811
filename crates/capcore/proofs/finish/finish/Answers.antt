use Rattle.std.proofs.Common.{◌≡◌, ◌<◌, Bool, true, false, cond, List, refl, sym, ap, subst, ◌∙◌, IsTrue}
use Rattle.std.specs.FinSet as set
use Rattle.capbits.specs.Caps.{has}
use Rattle.lockmachine.proofs.CountsStay.{held-map}
use Rattle.capcore.proofs.CommonPieces.{AreCounted, ClientViews, CountedLocks, EntryRow, Fc, Ino, KeptTable, KnownAnew, Scene, Table, changed_where, counted-held}
use Rattle.capcore.proofs.CommonPieces.{has_session, is_sized, known_in, owed, permitted_of, plain, remade, sizes_owed, was-there, with_size_due}
use Rattle.capcore.proofs.IssuedRows.{counted-issued}
use Rattle.capcore.proofs.ManyInodes.{holders-stay}
use Rattle.capcore.proofs.SizesOwed.{owed-numbers}
use Rattle.capcore.proofs.finish.finish.Goals.{After-owe_sizes}
use Rattle.capcore.specs.Affected.{finished_at, forget_among, pending_then}
use Rattle.capcore.specs.Begun.{MayEnd}
use Rattle.capcore.specs.Serves.{EndsAt}
use Rattle.capcore.proofs.finish.finish.Goals as goal

-- the step may end still where sizes are owed
still-may : (sized : List Ino) (known : ClientViews) (s : Scene) → MayEnd known s → MayEnd known (sizes_owed sized s)
still-may sized known s may = record {
  numbers = owed-numbers (is_sized sized) (λ seq. seq < 18446744073709551615) s.table may.numbers;
  clients = holders-stay (is_sized sized) owed (λ h. IsTrue (has_session s.sessions h.client.0)) s.table may.clients;
  permitted = λ k e there. let row = was-there (is_sized sized) owed s.table k e there in may.permitted k row.0 row.1;
}

module _ (c : After-owe_sizes) where
  abbrev s : Scene
  s = plain c.args.scene.now

  abbrev sized : List Ino
  sized = c.args.output.now.sized.items

  owes : c.owe_sizes.new.table ≡ record c.args.scene.now.table { entries = changed_where (is_sized sized) owed s.table }
  owes = c.owe_sizes.ensures ∙ ap (λ (sized : List Ino). record c.args.scene.now.table { entries = changed_where (is_sized sized) owed s.table }) c.as_slice.ensures.value

pub finish_affected-requires : goal.finish_affected-requires
finish_affected-requires g =
    let c = (goal.at.finish_affected-requires g).After-owe_sizes in
    record { entries = subst (λ (t : KeptTable). MayEnd t.kept (record (s c) { table = t.entries })) (sym (owes c)) (still-may (sized c) c.args.scene.now.table.kept (s c) c.requires.entries) }

pub returns-clause-ends : goal.returns-clause-ends
returns-clause-ends g =
    let c = (goal.at.returns-clause-ends g).After-owe_sizes in
    let at = set.contains g.args.affected.now in
    let after : Table → Scene = λ t. record (s c) { table = t } in
    subst (λ (t : KeptTable). EndsAt at (sized c) c.args.scene.now.table.kept t.kept (s c) (plain g.forget_affected.new.scene)) (sym g.forget_affected.ensures.table) (record {
      finished =
          g.forget_affected.ensures.left
          ∙ ap (λ (t : Table). forget_among at (after t)) g.finish_affected.ensures.table
          ∙ ap (λ (t : KeptTable). finished_at at (known_in t.kept) (after t.entries)) (owes c);
      kept = subst (λ (t : KeptTable). KnownAnew (λ k. at k.ino.0) (pending_then (after t.entries)) t.entries t.kept g.finish_affected.new.table.kept) (owes c) g.finish_affected.ensures.known;
      permitted = λ k. g.finish_affected.ensures.permitted k ∙ ap (λ (t : KeptTable). permitted_of t.kept k) (owes c);
    })

-- a size that is to be told changes nothing that is held
counted-owed : (t : Table) (l : CountedLocks) (sized : List Ino) → AreCounted t l → AreCounted (changed_where (is_sized sized) owed t) l
counted-owed t l sized = counted-held t (changed_where (is_sized sized) owed t) (held-map (λ row. cond (is_sized sized row) (remade owed row) row) (λ row. same_holder row (is_sized sized row)) (λ row. same_held row (is_sized sized row)) t.rows) l
  where
    same_holder : (row : EntryRow) (b : Bool) → (cond b (remade owed row) row).holder ≡ row.holder
    same_holder row true = refl
    same_holder row false = refl

    held_owed : (row : EntryRow) (b : Bool) → (cond b (with_size_due true row.entry) row.entry).held ≡ row.entry.held
    held_owed row true = refl
    held_owed row false = refl

    same_held : (row : EntryRow) (b : Bool) → (cond b (remade owed row) row).entry.held ≡ row.entry.held
    same_held row true = held_owed row (has row.entry.held Fc)
    same_held row false = refl

pub returns-clause-counted : goal.returns-clause-counted
returns-clause-counted g = λ all.
    let c = (goal.at.returns-clause-counted g).After-owe_sizes in
    let told : AreCounted c.owe_sizes.new.table.entries c.args.scene.now.locks = subst (λ (t : KeptTable). AreCounted t.entries c.args.scene.now.locks) (sym (owes c)) (counted-owed (s c).table c.args.scene.now.locks (sized c) all) in
    g.forget_affected.ensures.counted
    (subst (λ (t : Table). AreCounted t c.args.scene.now.locks) (sym g.finish_affected.ensures.table)
    (counted-issued (known_in c.owe_sizes.new.table.kept) (record (s c) { table = c.owe_sizes.new.table.entries }) (set.contains g.args.affected.now) c.args.scene.now.locks refl told))
