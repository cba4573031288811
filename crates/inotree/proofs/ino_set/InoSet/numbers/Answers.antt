use Rattle.std.proofs.Common.{length, sym, ap, subst, ◌∙◌}
use Rattle.std.specs.Cmp.{nat_cmp_total}
use Rattle.std.specs.FinSet as set
use Rattle.capbits.proofs.Entries.{len-keys}
use Rattle.inotree.specs.InoSets.{IsListOf}
use Rattle.inotree.proofs.InoSets.{listed}
use Rattle.inotree.proofs.ino_set.InoSet.numbers.Goals as goal

pub returns-clause-list : goal.returns-clause-list
returns-clause-list c = subst (IsListOf c.args.self.now) (sym c.iter.ensures.rest) (listed c.self.inside.numbers.keys c.args.self.now c.self.view_is c.iter.ensures.ordered)

pub returns-clause-count : goal.returns-clause-count
returns-clause-count c =
    ap length c.iter.ensures.rest ∙ sym (len-keys nat_cmp_total set.nat_cmp-IsAntisymmetric c.self.inside.numbers.keys c.iter.ensures.ordered) ∙ ap set.len c.self.view_is
