use Rattle.std.proofs.Common.{sym, ap, ◌∙◌}
use Rattle.std.specs.Cmp.{nat_cmp_total}
use Rattle.std.specs.FinSet as set
use Rattle.capbits.proofs.Entries.{len-keys}
use Rattle.sessiontab.proofs.blocklist.Blocklist.len.Goals as goal

pub returns : goal.returns
returns c = c.len.ensures.len ∙ sym (len-keys nat_cmp_total set.nat_cmp-IsAntisymmetric c.self.inside.clients.keys c.len.ensures.ordered) ∙ ap set.len c.self.view_is
