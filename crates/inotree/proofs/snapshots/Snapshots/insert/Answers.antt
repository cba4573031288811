use Rattle.std.proofs.Common.{ap, ◌∙◌}
use Rattle.std.specs.FinSet as set
use Rattle.capbits.proofs.Entries.{insert-keys}
use Rattle.inotree.proofs.Order.{name_same, name_total}
use Rattle.inotree.proofs.snapshots.Snapshots.insert.Goals as goal

pub returns-clause-ok : goal.returns-clause-ok
returns-clause-ok c =
    insert-keys name_total name_same c.self.inside.names.keys c.insert.new.self.keys c.args.name c.in_ok-insert.ensures.updates.0
    ∙ ap (λ s. set.insert s c.args.name) c.self.view_is
