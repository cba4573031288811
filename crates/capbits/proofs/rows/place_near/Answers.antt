use Rattle.std.proofs.Common.{Some, ap, ◌∙◌}
use Rattle.capbits.proofs.Rowed.{number_of, read}
use Rattle.capbits.proofs.rows.place_near.Goals as goal

pub returns-in-Some-clause-number : goal.returns-in-Some-clause-number
returns-in-Some-clause-number g c =
    number_of c.args.rows.now c.args.guess c.in-Some.row.now (read c.args.rows.now c.args.guess c.in-Some.row.now c.in-Some.ensures.lookup.3) ∙ ap Some c.if-row-number.true
