use Rattle.std.proofs.Common.{rules, ◌≡◌}
use Rattle.locktable.specs.Rows.{a_row_covers, row_of}
use Rattle.locktable.specs.Conflicts.{a_row_apart}
use Rattle.locktable.proofs.rows.row.Goals as goal

-- another holds the lock
pub returns-in-Excl-clause-apart : goal.returns-in-Excl-clause-apart
unfolding row_of
returns-in-Excl-clause-apart c =
    let e : c.empty.result ≡ row_of c.args.part c.args.state c.args.client = search rules in
    λ other ne. a_row_apart c.empty.result c.args.part c.args.state c.args.client other e ne

-- the cell is the client's
pub returns-in_default-clause-apart : goal.returns-in_default-clause-apart
unfolding row_of
returns-in_default-clause-apart c =
    let e : c.of.result ≡ row_of c.args.part c.args.state c.args.client = search rules in
    λ other ne. a_row_apart c.of.result c.args.part c.args.state c.args.client other e ne

pub returns-in-Excl-clause-of_the_part : goal.returns-in-Excl-clause-of_the_part
unfolding row_of
returns-in-Excl-clause-of_the_part c =
    let e : c.empty.result ≡ row_of c.args.part c.args.state c.args.client = search rules in
    a_row_covers c.empty.result c.args.part c.args.state c.args.client e

pub returns-in_default-clause-of_the_part : goal.returns-in_default-clause-of_the_part
unfolding row_of
returns-in_default-clause-of_the_part c =
    let e : c.of.result ≡ row_of c.args.part c.args.state c.args.client = search rules in
    a_row_covers c.of.result c.args.part c.args.state c.args.client e
