use Rattle.std.proofs.Common.{ap, ◌∙◌}
use Rattle.std.specs.FinMap as map
use Rattle.capbits.proofs.Entries.{insert-entries}
use Rattle.inotree.proofs.Order.{name_same, name_total}
use Rattle.inotree.proofs.attributes.Attributes.insert.Goals as goal

pub returns-clause-ok : goal.returns-clause-ok
returns-clause-ok c =
    insert-entries name_total name_same c.self.inside.values.entries c.insert.new.self.entries c.args.name c.args.value c.in_ok-insert.ensures.updates.0
    ∙ ap (λ m. map.insert m c.args.name c.args.value) c.self.view_is
