use Rattle.std.proofs.Common.{◌≡◌, ◌<◌, ℕ, List, length, refl, Some, None, sym, ap, subst, ◌∙◌}
use Rattle.std.specs.FinMap as map
use Rattle.std.specs.List.{slice_get, swap_remove}
use Rattle.std.proofs.lemmas.Option.{slice_get_past}
use Rattle.capbits.specs.declared.rows.Row.{Row}
use Rattle.capbits.specs.Rows.{HasPlaces, HasRows, map_of}
use Rattle.capbits.proofs.Rowed.{apart_from_placed, map-take_out, numbers-move, numbers-remove, placed-end, placed-move, read}
use Rattle.capbits.proofs.rows.take_out.Goals as goal
use Rattle.capbits.proofs.rows.take_out.Goals.{After-trim, in-Some, in_default}

within : (g : _) (c : After-trim g) → c.args.place < length c.args.rows.now.items
within g c = subst (λ m. c.args.place < m) c.args.rows.now.ok.0 c.requires.bound

rest : (g : _) → After-trim g → List (Row g.row.T.Denot)
rest g c = swap_remove c.args.rows.now.items c.args.place c.swap_remove.result

items : (g : _) (c : After-trim g) → c.trim.new.list.items ≡ rest g c
unfolding rest
items g c = c.trim.ensures ∙ c.swap_remove.ensures.items

seen : (g : _) (c : After-trim g) → c.deref.result.now ≡ rest g c
unfolding rest
seen g c = c.deref.ensures.value ∙ c.swap_remove.ensures.items

placed : (g : _) (c : After-trim g) → HasPlaces c.match-get.places (rest g c)
unfolding rest
placed g c =
    let rows = c.args.rows.now.items in
    let place : ℕ = c.args.place in
    elim c.match-get.branch [
      | in-Some w ↦
          let there : slice_get (rest g c) place ≡ Some w.in-Some.moved.now = ap (λ xs. slice_get xs place) (sym (seen g c)) ∙ read c.deref.result.now place w.in-Some.moved.now w.in-Some.ensures.lookup.3 in
          subst (λ ps. HasPlaces ps (rest g c)) (sym w.places-is)
          (placed-move rows place c.swap_remove.result (within g c) c.args.number c.requires.number c.args.places.now c.remove.new.self c.requires.placed.0 c.remove.ensures.updates.0
          w.in-Some.moved.now w.move_place.new.places there w.move_place.ensures)
      | in_default w ↦
          let none : slice_get (rest g c) place ≡ None = ap (λ xs. slice_get xs place) (sym (seen g c)) ∙ slice_get_past c.deref.result.now place w.in_default.ensures.lookup.3 in
          subst (λ ps. HasPlaces ps (rest g c)) (sym w.places-is)
          (placed-end rows place c.swap_remove.result (within g c) c.args.number c.requires.number c.args.places.now c.remove.new.self c.requires.placed.0 c.remove.ensures.updates.0 none)
    ]

pub returns-clause-placed : goal.returns-clause-placed
returns-clause-placed g c = subst (HasPlaces c.match-get.places) (sym (items g c)) (placed g c)

without : (g : _) (c : After-trim g) → map_of (rest g c) ≡ map.remove (map_of c.args.rows.now.items) c.args.number
unfolding rest
without g c = map-take_out c.args.rows.now.items c.args.place c.swap_remove.result (within g c) c.args.number c.requires.number (apart_from_placed c.args.places.now c.args.rows.now.items c.requires.placed.0) (apart_from_placed c.match-get.places (rest g c) (placed g c))

numbers : (g : _) (c : After-trim g) → HasRows c.match-get.places (rest g c)
numbers g c =
    let left : HasRows c.remove.new.self (rest g c) = numbers-remove c.args.places.now c.remove.new.self c.args.rows.now.items (rest g c) c.args.number c.requires.placed.1 c.remove.ensures.updates.0 (without g c) in
    elim c.match-get.branch [
      | in-Some w ↦
          subst (λ ps. HasRows ps (rest g c)) (sym w.places-is)
          (numbers-move c.remove.new.self w.move_place.new.places (rest g c) (rest g c) w.in-Some.moved.now.number left c.args.place w.move_place.ensures refl)
      | in_default w ↦ subst (λ ps. HasRows ps (rest g c)) (sym w.places-is) left
    ]

pub returns-clause-numbers : goal.returns-clause-numbers
returns-clause-numbers g c = subst (HasRows c.match-get.places) (sym (items g c)) (numbers g c)

pub returns-clause-without : goal.returns-clause-without
returns-clause-without g c = ap map_of (items g c) ∙ without g c
