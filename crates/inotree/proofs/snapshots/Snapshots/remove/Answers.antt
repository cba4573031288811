use Rattle.std.proofs.Common.{ap, ◌∙◌}
use Rattle.std.specs.FinSet as set
use Rattle.capbits.proofs.Entries.{remove-keys}
use Rattle.inotree.proofs.Order.{name_same, name_total}
use Rattle.inotree.proofs.snapshots.Snapshots.remove.Goals as goal

pub returns : goal.returns
returns c =
    remove-keys name_total name_same c.self.inside.names.keys c.remove.new.self.keys c.args.name.now c.remove.ensures.updates.0
    ∙ ap (λ s. set.remove s c.args.name.now) c.self.view_is
