use Rattle.std.proofs.Common.{◌∙◌}
use Rattle.lockmachine.proofs.FirstServed.{first_of_four, of_each}
use Rattle.lockmachine.proofs.locks.Locks.first_served_at.Goals as goal

pub returns : goal.returns
returns c =
    of_each c.earlier.ensures (of_each c.earlier-lower.ensures c.first_where_served-auth.ensures.number c.first_where_served-link.ensures.number)
    (of_each c.earlier-higher.ensures c.first_where_served-xattr.ensures.number c.first_where_served-file.ensures.number)
    ∙ first_of_four c.args.self.now.locks c.first_where_served-auth.ensures.sound c.args.ino.0
