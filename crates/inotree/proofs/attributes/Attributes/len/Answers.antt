use Rattle.std.proofs.Common.{sym, ap, ◌∙◌}
use Rattle.std.specs.FinMap as map
use Rattle.capbits.proofs.Entries.{len-entries}
use Rattle.inotree.proofs.Order.{name_same, name_total}
use Rattle.inotree.proofs.attributes.Attributes.len.Goals as goal

pub returns : goal.returns
returns c =
    c.len.ensures.len ∙ sym (len-entries name_total name_same c.self.inside.values.entries c.len.ensures.ordered) ∙ ap map.len c.self.view_is
