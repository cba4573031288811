use Rattle.std.proofs.Common.{ap, ◌∙◌}
use Rattle.std.specs.FinMap as map
use Rattle.capbits.proofs.Entries.{insert-entries}
use Rattle.inotree.proofs.Slots.{slot_same, slot_total}
use Rattle.inotree.proofs.index.Index.insert.Goals as goal

pub returns-clause-ok : goal.returns-clause-ok
returns-clause-ok c =
    insert-entries slot_total slot_same c.self.inside.inodes.entries c.insert.new.self.entries c.args.slot c.args.ino c.in_ok-insert.ensures.updates.0
    ∙ ap (λ m. map.insert m c.args.slot c.args.ino) c.self.view_is
