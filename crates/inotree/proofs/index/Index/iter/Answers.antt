use Rattle.std.proofs.Common.{sym, ap, ◌∙◌}
use Rattle.std.specs.FinMap as map
use Rattle.capbits.proofs.Entries.{entries-entries}
use Rattle.inotree.proofs.Slots.{slot_same, slot_total}
use Rattle.inotree.proofs.index.Index.iter.Goals as goal

pub returns : goal.returns
returns c =
    c.iter.ensures.rest ∙ sym (entries-entries slot_total slot_same c.self.inside.inodes.entries c.iter.ensures.ordered) ∙ ap map.entries c.self.view_is
