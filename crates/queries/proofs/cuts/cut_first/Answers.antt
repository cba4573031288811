use Rattle.std.proofs.Common.{sym, ◌∙◌, arith, rules}
use Rattle.queries.proofs.Marks.{behind_nothing, found_so, nowhere, passes}
use Rattle.queries.specs.Cuts.{cut_first}
use Rattle.queries.proofs.cuts.cut_first.Goals as goal

pub loop-place-init : goal.loop-place-init
loop-place-init c = behind_nothing (cut_first c.args.mark.now c.args.text.now)

pub loop-place-preserved : goal.loop-place-preserved
loop-place-preserved c = passes c.args.mark.now c.args.text.now c.loop-place.place (omega arith) (search rules) ∙ c.loop-place.invariant

pub returns-then-starts_with : goal.returns-then-starts_with
returns-then-starts_with c =
    sym c.loop-place.invariant ∙ found_so c.args.mark.now c.args.text.now _ _ c.loop-place.place (omega arith) (search rules) (search rules) (search rules)

pub returns : goal.returns
returns c = sym c.loop-place.invariant ∙ nowhere c.args.mark.now c.args.text.now c.loop-place.place (omega arith)
