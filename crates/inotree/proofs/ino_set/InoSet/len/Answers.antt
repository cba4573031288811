use Rattle.std.proofs.Common.{sym, ap, ◌∙◌}
use Rattle.std.specs.Cmp.{nat_cmp_total}
use Rattle.std.specs.FinSet as set
use Rattle.capbits.proofs.Entries.{len-keys}
use Rattle.inotree.proofs.ino_set.InoSet.len.Goals as goal

pub returns-clause-len : goal.returns-clause-len
returns-clause-len c = c.len.ensures.len ∙ sym (len-keys nat_cmp_total set.nat_cmp-IsAntisymmetric c.self.inside.numbers.keys c.len.ensures.ordered) ∙ ap set.len c.self.view_is
