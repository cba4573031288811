use Rattle.std.proofs.Common.{◌∙◌, arith, sym}
use Rattle.capffi.proofs.Entries.{found_here, found_nowhere, none_more, rest_more}
use Rattle.capffi.proofs.judging.Case.first_allowing.Goals as goal

pub returns-then-allows-clause-exact : goal.returns-then-allows-clause-exact
returns-then-allows-clause-exact c =
    found_here _ _ _ _ _ _ _ c.loop-place-test.true c.loop-place.invariant.0 c.split_grant-grant.ensures.grant c.loop-place.invariant.1 (sym c.allows.ensures ∙ c.if-allows.true)

pub loop-place-preserved : goal.loop-place-preserved
loop-place-preserved c = (
  c.split_grant-grant.ensures.rest ∙ rest_more _ _ _ _ _ c.loop-place-test.true c.loop-place.invariant.0,
  none_more _ _ _ _ _ _ _ c.loop-place-test.true c.loop-place.invariant.0 c.split_grant-grant.ensures.grant c.loop-place.invariant.1 (sym c.allows.ensures ∙ c.if-allows.false),
)

pub returns-clause-exact : goal.returns-clause-exact
returns-clause-exact c = found_nowhere _ _ _ _ (omega (arith, c.loop-place-test.false)) c.loop-place.invariant.1
