use Rattle.std.proofs.Common.{ap, ◌∙◌}
use Rattle.std.specs.Cmp.{nat_cmp_total}
use Rattle.std.specs.FinSet as set
use Rattle.capbits.proofs.Entries.{insert-keys}
use Rattle.inotree.proofs.ino_set.InoSet.insert.Goals as goal

pub returns-clause-ok : goal.returns-clause-ok
returns-clause-ok c =
    insert-keys nat_cmp_total set.nat_cmp-IsAntisymmetric c.self.inside.numbers.keys c.insert.new.self.keys c.args.ino.0 c.in_ok-insert.ensures.updates.0
    ∙ ap (λ s. set.insert s c.args.ino.0) c.self.view_is
