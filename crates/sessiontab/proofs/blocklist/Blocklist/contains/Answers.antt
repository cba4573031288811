use Rattle.std.proofs.Common.{sym, ap, ◌∙◌}
use Rattle.std.specs.Cmp.{nat_cmp_total}
use Rattle.std.specs.FinSet as set
use Rattle.sessiontab.proofs.blocklist.Blocklist.contains.Goals as goal

pub returns : goal.returns
returns c =
    c.contains.ensures ∙ sym (set.contains-from_list nat_cmp_total c.self.inside.clients.keys c.args.client.0)
    ∙ ap (λ s. set.contains s c.args.client.0) c.self.view_is
