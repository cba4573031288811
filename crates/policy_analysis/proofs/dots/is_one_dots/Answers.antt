use Rattle.std.proofs.Common.{sym, ◌∙◌}
use Rattle.policy_analysis.proofs.Undoing.{none_is_dots, one_is_dots, one_name_more}
use Rattle.policy_analysis.proofs.dots.is_one_dots.Goals as goal

pub returns-then-is_dots : goal.returns-then-is_dots
returns-then-is_dots c = sym (one_is_dots c.args.names.now c.loop-name.name-index _ c.loop-name-test.true (sym c.is_dots.ensures ∙ c.if-is_dots.true))

pub loop-name-preserved : goal.loop-name-preserved
loop-name-preserved c = one_name_more c.args.names.now c.loop-name.name-index _ c.loop-name-test.true c.loop-name.invariant (sym c.is_dots.ensures ∙ c.if-is_dots.false)

pub returns : goal.returns
returns c = sym (none_is_dots c.args.names.now c.loop-name.name-index c.loop-name-test.false c.loop-name.invariant)
