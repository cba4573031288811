use Rattle.std.proofs.Common.{sym, ap, ◌∙◌}
use Rattle.std.specs.FinMap as map
use Rattle.capbits.proofs.Entries.{get-entries}
use Rattle.inotree.proofs.Order.{name_same, name_total}
use Rattle.inotree.proofs.attributes.Attributes.get.Goals as goal

pub returns : goal.returns
returns c =
    c.get.ensures.value ∙ sym (get-entries name_total name_same c.self.inside.values.entries c.args.name.now)
    ∙ ap (λ m. map.get m c.args.name.now) c.self.view_is
