use Rattle.std.proofs.Common.{ap, ◌∙◌}
use Rattle.queries.proofs.Looked.{all_refused, no_refusal_more, one_refusal_more}
use Rattle.queries.proofs.linting.print_refusals.Goals as goal
use Rattle.queries.proofs.linting.print_refusals.Goals.{in-Some+in_ok-print_one_refusal, in_default}

pub loop-place-preserved : goal.loop-place-preserved
loop-place-preserved c =
    let shape = c.args.shape in
    let old = c.args.lines.now.items in
    let found = c.args.found.now in
    let i = c.loop-place.place in
    let text = c.loop-place.lines.items in
    elim c.match-refusal.branch [
      | in-Some+in_ok-print_one_refusal w ↦
          one_refusal_more shape old found i w.in-Some.refusal c.index-found-place.result text _ c.loop-place-test.true w.in-Some.is c.index-found-place.is c.loop-place.invariant (ap (λ v. v.items) w.lines-is ∙ w.in_ok-print_one_refusal.ensures)
      | in_default w ↦
          no_refusal_more shape old found i c.index-found-place.result text _ c.loop-place-test.true w.in_default.is c.index-found-place.is c.loop-place.invariant (ap (λ v. v.items) w.lines-is)
    ]

pub returns : goal.returns
returns c = all_refused c.args.shape c.args.lines.now.items c.args.found.now c.loop-place.place c.loop-place.lines.items c.loop-place-test.false c.loop-place.invariant
