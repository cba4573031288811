use Rattle.std.proofs.Common.{sym, ap, ◌∙◌}
use Rattle.std.specs.Cmp.{nat_cmp_total}
use Rattle.std.specs.FinSet as set
use Rattle.capbits.proofs.Entries.{remove-keys}
use Rattle.sessiontab.proofs.blocklist.Blocklist.remove.Goals as goal

pub returns-clause-had : goal.returns-clause-had
returns-clause-had c =
    c.remove.ensures.test ∙ sym (set.contains-from_list nat_cmp_total c.self.inside.clients.keys c.args.client.0)
    ∙ ap (λ s. set.contains s c.args.client.0) c.self.view_is

pub returns-clause-out : goal.returns-clause-out
returns-clause-out c =
    remove-keys nat_cmp_total set.nat_cmp-IsAntisymmetric c.self.inside.clients.keys c.remove.new.self.keys c.args.client.0 c.remove.ensures.updates.0
    ∙ ap (λ s. set.remove s c.args.client.0) c.self.view_is
