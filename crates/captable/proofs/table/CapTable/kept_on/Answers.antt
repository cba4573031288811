use Rattle.std.proofs.Common.{◌≡◌, Some, filter, map, sym, ap, ◌∙◌}
use Rattle.cap_arena.specs.Lists.{OfInode, keys, node_at}
use Rattle.captable.specs.Calls.{is_of_inode}
use Rattle.captable.specs.Kept.{kept_entry}
use Rattle.captable.specs.Nodes.{both_of}
use Rattle.captable.proofs.Reading.{are_lists}
use Rattle.captable.proofs.Kept.{kept-entries}
use Rattle.captable.proofs.table.CapTable.kept_on.Goals as goal

pub returns-clause-rows : goal.returns-clause-rows
returns-clause-rows c =
    let t = c.self.inside.lists in
    let made = c.self.inside.made in
    let ino = c.args.ino in
    c.of_inode.ensures ∙ kept-entries t made c.self.invariant.0 (keys t (OfInode ino))
    ∙ ap (map (kept_entry (both_of t made).kept)) ((are_lists t made c.self.invariant.0).inodes ino)
    ∙ ap (λ u. map (kept_entry u.kept) (filter (is_of_inode ino) u.entries.rows)) c.self.view_is
