use Rattle.std.proofs.Common.{sym, ap, ◌∙◌}
use Rattle.std.specs.FinMap as map
use Rattle.capbits.proofs.Rowed.{apart_from_placed, len_is}
use Rattle.capbits.proofs.numbered.Numbered.len.Goals as goal

pub returns : goal.returns
returns g c =
    let rows = c.self.inside.rows.items in
    c.len.ensures ∙ c.self.inside.rows.ok.0 ∙ sym (len_is rows (apart_from_placed c.self.inside.places rows c.self.invariant.0)) ∙ ap map.len c.self.view_is
