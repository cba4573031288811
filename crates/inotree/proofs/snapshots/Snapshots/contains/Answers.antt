use Rattle.std.proofs.Common.{sym, ap, ◌∙◌}
use Rattle.std.specs.FinSet as set
use Rattle.inotree.proofs.Order.{name_total}
use Rattle.inotree.proofs.snapshots.Snapshots.contains.Goals as goal

pub returns : goal.returns
returns c =
    c.contains.ensures ∙ sym (set.contains-from_list name_total c.self.inside.names.keys c.args.name.now)
    ∙ ap (λ s. set.contains s c.args.name.now) c.self.view_is
