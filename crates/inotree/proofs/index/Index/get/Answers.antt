use Rattle.std.proofs.Common.{sym, ap, ◌∙◌}
use Rattle.std.specs.FinMap as map
use Rattle.capbits.proofs.Entries.{get-entries}
use Rattle.inotree.proofs.Slots.{slot_same, slot_total}
use Rattle.inotree.proofs.index.Index.get.Goals as goal

pub returns : goal.returns
returns c =
    c.copied.ensures ∙ c.get.ensures.value ∙ sym (get-entries slot_total slot_same c.self.inside.inodes.entries c.args.slot.now)
    ∙ ap (λ m. map.get m c.args.slot.now) c.self.view_is
