use Rattle.std.proofs.Common.{sym, ap, ◌∙◌}
use Rattle.std.specs.FinSet as set
use Rattle.capbits.proofs.Entries.{len-keys}
use Rattle.inotree.proofs.Order.{name_same, name_total}
use Rattle.inotree.proofs.snapshots.Snapshots.len.Goals as goal

pub returns : goal.returns
returns c = c.len.ensures.len ∙ sym (len-keys name_total name_same c.self.inside.names.keys c.len.ensures.ordered) ∙ ap set.len c.self.view_is
