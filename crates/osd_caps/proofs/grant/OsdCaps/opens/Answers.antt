use Rattle.osd_caps.proofs.Opened.{opens_some_name}
use Rattle.osd_caps.proofs.grant.OsdCaps.opens.Goals as goal

pub returns-clause-some : goal.returns-clause-some
returns-clause-some c =
    let a = c.args in
    rw (c.any_opens.ensures, c.grants.ensures) (opens_some_name a.self.now a.pool.now a.namespace.now a.tags.now a.right)
