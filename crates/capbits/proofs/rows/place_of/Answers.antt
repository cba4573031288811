use Rattle.std.proofs.Common.{◌≡◌, ℕ, Option, Some, None, IfNone, sym, ap, ◌∙◌}
use Rattle.std.proofs.lemmas.Option.{none-some, same_Some, slice_get_past}
use Rattle.std.specs.Option.{option_map}
use Rattle.capbits.specs.declared.rows.Row.{Row}
use Rattle.std.specs.List.{slice_get}
use Rattle.capbits.specs.Rows.{number_at}
use Rattle.capbits.proofs.Rowed.{none_from_rows, number_of, read}
use Rattle.capbits.proofs.rows.place_of.Goals as goal

if_none : {X : Type 0} (o : Option X) (P : Type 0) → P → IfNone o P
if_none None P h = h
if_none (Some x) P h = tt

pub returns-in_err-place-clause-none : goal.returns-in_err-place-clause-none
returns-in_err-place-clause-none g c =
    if_none _ _ (none_from_rows c.args.rows.now c.args.number (λ k e. none-some k (c.in_err-place.ensures.value ∙ c.requires.placed.0 k c.args.number e)))

pub returns-in_err-get-clause-none : goal.returns-in_err-get-clause-none
returns-in_err-get-clause-none g c =
    let place : ℕ = c.in_ok-place.field-0.now in
    if_none _ _ (none_from_rows c.args.rows.now c.args.number (λ k e.
    let same : place ≡ k = same_Some place k (c.in_ok-place.ensures.value ∙ c.requires.placed.0 k c.args.number e) in
    none-some c.args.number (ap (option_map (λ (row : Row g.row.T.Denot). row.number)) (sym (slice_get_past c.args.rows.now place c.in_err-get.ensures.lookup.3) ∙ ap (slice_get c.args.rows.now) same) ∙ e)))

pub returns-then-branch-number-clause-number : goal.returns-then-branch-number-clause-number
returns-then-branch-number-clause-number g c =
    number_of c.args.rows.now c.in_ok-place.field-0.now c.in_ok-get.field-0.now (read c.args.rows.now c.in_ok-place.field-0.now c.in_ok-get.field-0.now c.in_ok-get.ensures.lookup.3) ∙ ap Some c.if-branch-number.true

pub returns-clause-none : goal.returns-clause-none
returns-clause-none g c =
    let place : ℕ = c.in_ok-place.field-0.now in
    let row : Row g.row.T.Denot = c.in_ok-get.field-0.now in
    none_from_rows c.args.rows.now c.args.number (λ k e.
    let same : place ≡ k = same_Some place k (c.in_ok-place.ensures.value ∙ c.requires.placed.0 k c.args.number e) in
    let number : row.number ≡ c.args.number = same_Some row.number c.args.number (sym (number_of c.args.rows.now place row (read c.args.rows.now place row c.in_ok-get.ensures.lookup.3)) ∙ ap (number_at c.args.rows.now) same ∙ e) in
    absurd (c.if-branch-number.false number))
