use Rattle.capspec.proofs.OneText.{no_pair}
use Rattle.std.proofs.Common.{◌∙◌, sym, arith}
use Rattle.policy_analysis.proofs.oddity.has_double_slash.Goals as goal

pub returns : goal.returns
returns c = sym (no_pair c.args.text.now c.loop-place.place (omega (arith, c.loop-place-test.false))) ∙ c.loop-place.invariant
