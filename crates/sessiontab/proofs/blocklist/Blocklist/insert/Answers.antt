use Rattle.std.proofs.Common.{ap, ◌∙◌}
use Rattle.std.specs.Cmp.{nat_cmp_total}
use Rattle.std.specs.FinSet as set
use Rattle.capbits.proofs.Entries.{insert-keys}
use Rattle.sessiontab.proofs.blocklist.Blocklist.insert.Goals as goal

pub returns-clause-ok : goal.returns-clause-ok
returns-clause-ok c =
    insert-keys nat_cmp_total set.nat_cmp-IsAntisymmetric c.self.inside.clients.keys c.insert.new.self.keys c.args.client.0 c.in_ok-insert.ensures.updates.0
    ∙ ap (λ s. set.insert s c.args.client.0) c.self.view_is
