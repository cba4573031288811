use Rattle.std.proofs.Common.{rules, ◌≡◌}
use Rattle.locktable.specs.Rows.{allowed_of, an_allowed_covers}
use Rattle.locktable.specs.Conflicts.{an_allowed_apart}
use Rattle.locktable.proofs.rows.allowed.Goals as goal

-- in a gather
pub returns-in-Gather-clause-apart : goal.returns-in-Gather-clause-apart
unfolding allowed_of
returns-in-Gather-clause-apart c =
    let e : c.meet.result ≡ allowed_of c.args.part c.args.lock c.args.client = search rules in
    λ other ne. an_allowed_apart c.meet.result c.args.part c.args.lock c.args.client other e ne

pub returns-in-Gather-clause-of_the_part : goal.returns-in-Gather-clause-of_the_part
unfolding allowed_of
returns-in-Gather-clause-of_the_part c =
    let e : c.meet.result ≡ allowed_of c.args.part c.args.lock c.args.client = search rules in
    an_allowed_covers c.meet.result c.args.part c.args.lock c.args.client e
