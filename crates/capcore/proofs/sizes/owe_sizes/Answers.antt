use Rattle.std.proofs.Common.{◌≡◌, ◌+◌, ◌++◌, List, [], ◌∷◌, take, get_or, sym, ap, subst, ◌∙◌, Bool, true, false, cond, ◌||◌, map, refl, IsTrue, All}
use Rattle.std.proofs.lemmas.List.{map-id, take_all, take_more}
use Rattle.std.proofs.lemmas.List.Folds.{list_any-append}
use Rattle.capbits.specs.Caps.{has}
use Rattle.capcore.proofs.CommonPieces.{Entry, EntryRow, Fc, Ino, KeptTable, Table, changed_where, has_session, is_of_inode, is_sized, owed, remade, with_size_due}
use Rattle.capcore.proofs.ManyInodes.{holders-stay}
use Rattle.capcore.proofs.sizes.owe_sizes.Goals as goal

-- Entries on several inodes that are to be told a size, one inode after another: as all at once, since being told twice is being told.

none-owed : (t : Table) → t ≡ changed_where (is_sized []) owed t
none-owed t = ap (λ (rows : List EntryRow). record t { rows = rows }) (sym (map-id t.rows))

-- an entry that is to be told the size stays so
owed_twice : (row : EntryRow) → owed (remade owed row) ≡ owed row
owed_twice row = by_held (has row.entry.held Fc) refl
  where
    by_held : (h : Bool) → has row.entry.held Fc ≡ h → owed (record row { entry = cond h (with_size_due true row.entry) row.entry }) ≡ cond h (with_size_due true row.entry) row.entry
    by_held true is = ap (λ b. cond b (with_size_due true row.entry) (with_size_due true row.entry)) is
    by_held false is = ap (λ b. cond b (with_size_due true row.entry) row.entry) is

one_more : (row : EntryRow) (b c : Bool) → cond c (remade owed (cond b (remade owed row) row)) (cond b (remade owed row) row) ≡ cond (b || (c || false)) (remade owed row) row
one_more row true true = ap (λ (e : Entry). record row { entry = e }) (owed_twice row)
one_more row true false = refl
one_more row false true = refl
one_more row false false = refl

same_inode : (ino : Ino) (row : EntryRow) (b : Bool) → is_of_inode ino (cond b (remade owed row) row) ≡ is_of_inode ino row
same_inode ino row true = refl
same_inode ino row false = refl

each_row : (done : List Ino) (ino : Ino) (row : EntryRow)
    → cond (is_of_inode ino (cond (is_sized done row) (remade owed row) row)) (remade owed (cond (is_sized done row) (remade owed row) row)) (cond (is_sized done row) (remade owed row) row)
    ≡ cond (is_sized (done ++ ino ∷ []) row) (remade owed row) row
each_row done ino row =
    ap (λ b. cond b (remade owed (cond (is_sized done row) (remade owed row) row)) (cond (is_sized done row) (remade owed row) row)) (same_inode ino row (is_sized done row))
    ∙ one_more row (is_sized done row) (is_of_inode ino row)
    ∙ ap (λ b. cond b (remade owed row) row) (sym (list_any-append (λ ino. is_of_inode ino row) done (ino ∷ [])))

more-owed : (done : List Ino) (ino : Ino) (t : Table) → changed_where (is_of_inode ino) owed (changed_where (is_sized done) owed t) ≡ changed_where (is_sized (done ++ ino ∷ [])) owed t
more-owed done ino t = ap (λ (rows : List EntryRow). record t { rows = rows }) (all t.rows)
  where
    all : (rows : List EntryRow) → map (λ row. cond (is_of_inode ino row) (remade owed row) row) (map (λ row. cond (is_sized done row) (remade owed row) row) rows)
        ≡ map (λ row. cond (is_sized (done ++ ino ∷ []) row) (remade owed row) row) rows
    all [] = refl
    all (row ∷ rows) = λ i. each_row done ino row i ∷ all rows i

pub loop-ino-init : goal.loop-ino-init
loop-ino-init c = record { owes = ap (λ (t : Table). record c.args.table.now { entries = t }) (none-owed c.args.table.now.entries); clients = c.requires }

pub loop-ino-preserved : goal.loop-ino-preserved
loop-ino-preserved c =
    let ino : Ino = get_or c.args.sized.now c.loop-ino.ino-index (record { 0 = 0 }) in
    let done : List Ino = take c.loop-ino.ino-index c.args.sized.now in
    let more : take (c.loop-ino.ino-index + 1) c.args.sized.now ≡ done ++ ino ∷ [] =
    take_more c.args.sized.now c.loop-ino.ino-index (record { 0 = 0 }) c.loop-ino-test.true in
    record {
      owes =
          c.owe_on.ensures
          ∙ ap (λ (t : KeptTable). record t { entries = changed_where (is_of_inode ino) owed t.entries }) c.loop-ino.invariant.owes
          ∙ ap (λ (t : Table). record c.args.table.now { entries = t }) (more-owed done ino c.args.table.now.entries)
          ∙ ap (λ (sized : List Ino). record c.args.table.now { entries = changed_where (is_sized sized) owed c.args.table.now.entries }) (sym more);
      clients =
          subst (λ (t : KeptTable). All (λ row. IsTrue (has_session c.args.sessions.now row.holder.client.0)) t.entries.rows) (sym c.owe_on.ensures)
          (holders-stay (is_of_inode ino) owed (λ h. IsTrue (has_session c.args.sessions.now h.client.0)) c.loop-ino.table.entries c.loop-ino.invariant.clients);
    }

pub returns : goal.returns
returns c =
    c.loop-ino.invariant.owes
    ∙ ap (λ (sized : List Ino). record c.args.table.now { entries = changed_where (is_sized sized) owed c.args.table.now.entries }) (take_all c.loop-ino.ino-index c.args.sized.now c.loop-ino-test.false)
