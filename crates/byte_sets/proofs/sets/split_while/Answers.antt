use Rattle.std.proofs.Common.{sym, ◌∙◌}
use Rattle.byte_sets.proofs.Splits.{splits_here, splits_nowhere}
use Rattle.byte_sets.proofs.sets.split_while.Goals as goal

pub returns-then-not-contains : goal.returns-then-not-contains
returns-then-not-contains c = splits_here c.args.set c.args.text.now _ _ c.loop-at.at c.loop-at-test.true c.loop-at.invariant (sym c.contains.ensures ∙ c.if-not-contains.true) c.split_at.ensures.front c.split_at.ensures.back

pub returns : goal.returns
returns c = splits_nowhere c.args.set c.args.text.now _ _ c.loop-at.at c.loop-at-test.false c.loop-at.invariant c.split_at-2.ensures.front c.split_at-2.ensures.back
