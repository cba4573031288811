use Rattle.std.proofs.Common.{◌≡◌, ◌∙◌, Bool, true, false, cond, ◌||◌, List, [], ◌∷◌, filter, is_some, refl, ap}
use Rattle.std.specs.List.{list_any}
use Rattle.cap_arena.specs.Lists.{OfInode}
use Rattle.captable.specs.declared.entry.EntryRow.{EntryRow}
use Rattle.captable.specs.Calls.{is_of_inode}
use Rattle.captable.specs.Table.{Table}
use Rattle.captable.proofs.WalkOn.{some-first}
use Rattle.captable.proofs.Beside.{entries_are}
use Rattle.captable.proofs.table.CapTable.is_held.Goals as goal

some_pass : (p : EntryRow → Bool) (rows : List EntryRow) → list_any (λ _. true) (filter p rows) ≡ list_any p rows
some_pass p [] = refl
some_pass p (row ∷ rows) = elim (p row) as (λ b. list_any (λ _. true) (cond b (row ∷ filter p rows) (filter p rows)) ≡ (b || list_any p rows)) [ true ↦ refl | false ↦ some_pass p rows ]

pub returns : goal.returns
returns c =
    let on : EntryRow → Bool = is_of_inode c.args.ino in
    c.is_some.ensures ∙ ap is_some c.first_of_ino.ensures.first ∙ some-first c.self.inside.lists c.first_of_ino.ensures.sound (OfInode c.args.ino)
    ∙ ap (list_any (λ _. true)) (c.self.invariant.0.inodes c.args.ino)
    ∙ ap (λ (t : Table). list_any (λ _. true) (filter on t.rows)) (entries_are c.self.view_is)
    ∙ some_pass on c.args.self.now.entries.rows
