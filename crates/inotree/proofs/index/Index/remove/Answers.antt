use Rattle.std.proofs.Common.{ap, ◌∙◌}
use Rattle.std.specs.FinMap as map
use Rattle.capbits.proofs.Entries.{remove-entries}
use Rattle.inotree.proofs.Slots.{slot_same, slot_total}
use Rattle.inotree.proofs.index.Index.remove.Goals as goal

pub returns : goal.returns
returns c =
    remove-entries slot_total slot_same c.self.inside.inodes.entries c.remove.new.self.entries c.args.slot.now c.remove.ensures.updates.0
    ∙ ap (λ m. map.remove m c.args.slot.now) c.self.view_is
