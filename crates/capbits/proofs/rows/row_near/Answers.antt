use Rattle.capbits.proofs.Rowed.{apart_from_placed, get_from_read}
use Rattle.capbits.proofs.rows.row_near.Goals as goal

pub returns : goal.returns
returns g c =
    get_from_read c.args.rows.now c.in_ok-place_near.field-0 c.args.number c.get.result (apart_from_placed c.args.places.now c.args.rows.now c.requires.placed.0) c.in_ok-place_near.ensures.number c.get.ensures.lookup.3
