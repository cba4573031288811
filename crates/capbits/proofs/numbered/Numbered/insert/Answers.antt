use Rattle.std.proofs.Common.{◌≡◌, Some, sym, ap, ◌∙◌}
use Rattle.std.specs.FinMap as map
use Rattle.capbits.specs.declared.rows.Row.{Row}
use Rattle.capbits.specs.Rows.{number_at}
use Rattle.capbits.proofs.Rowed.{apart_from_placed, map-set, placed-set, row_at}
use Rattle.capbits.proofs.numbered.Numbered.insert.Goals as goal

pub invariant_of-self : goal.invariant_of-self
invariant_of-self g c =
    let rows = c.self.inside.rows.items in
    let number : number_at rows c.in-Some.place ≡ Some c.args.number = ap (λ rows. number_at rows c.in-Some.place) (sym c.deref.ensures.value) ∙ c.in-Some.ensures.number in
    let was = row_at rows c.in-Some.place c.args.number number in
    let row : Row g.row.T.Denot = record { number = c.args.number; value = c.args.value } in
    placed-set rows c.in-Some.place was.0 row was.1 (sym was.2) c.self.inside.places c.self.invariant

pub returns-in-Some-clause-ok : goal.returns-in-Some-clause-ok
returns-in-Some-clause-ok g c =
    let rows = c.self.inside.rows.items in
    let number : number_at rows c.in-Some.place ≡ Some c.args.number = ap (λ rows. number_at rows c.in-Some.place) (sym c.deref.ensures.value) ∙ c.in-Some.ensures.number in
    let was = row_at rows c.in-Some.place c.args.number number in
    let row : Row g.row.T.Denot = record { number = c.args.number; value = c.args.value } in
    map-set rows c.in-Some.place was.0 row was.1 (sym was.2) (apart_from_placed c.self.inside.places rows c.self.invariant.0) ∙ ap (λ m. map.insert m c.args.number c.args.value) c.self.view_is
