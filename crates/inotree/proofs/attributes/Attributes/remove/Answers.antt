use Rattle.std.proofs.Common.{ap, ◌∙◌}
use Rattle.std.specs.FinMap as map
use Rattle.capbits.proofs.Entries.{remove-entries}
use Rattle.inotree.proofs.Order.{name_same, name_total}
use Rattle.inotree.proofs.attributes.Attributes.remove.Goals as goal

pub returns : goal.returns
returns c =
    remove-entries name_total name_same c.self.inside.values.entries c.remove.new.self.entries c.args.name.now c.remove.ensures.updates.0
    ∙ ap (λ m. map.remove m c.args.name.now) c.self.view_is
