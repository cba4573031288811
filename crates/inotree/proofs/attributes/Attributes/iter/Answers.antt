use Rattle.std.proofs.Common.{sym, ap, ◌∙◌}
use Rattle.std.specs.FinMap as map
use Rattle.capbits.proofs.Entries.{entries-entries}
use Rattle.inotree.proofs.Order.{name_same, name_total}
use Rattle.inotree.proofs.attributes.Attributes.iter.Goals as goal

pub returns : goal.returns
returns c =
    c.iter.ensures.rest ∙ sym (entries-entries name_total name_same c.self.inside.values.entries c.iter.ensures.ordered) ∙ ap map.entries c.self.view_is
