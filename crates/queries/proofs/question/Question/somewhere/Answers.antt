use Rattle.std.proofs.Common.{sym, ap, ◌∙◌}
use Rattle.queries.specs.AnyPath.{somewhere}
use Rattle.queries.proofs.AnyPaths.{found, none_left, passes}
use Rattle.queries.proofs.question.Question.somewhere.Goals as goal

pub loop-place-preserved : goal.loop-place-preserved
loop-place-preserved c =
    passes c.args.self.now c.as_slice-grants.result.now c.loop-place.place _ c.loop-place-test.true c.index-grants-place.is (sym c.in_ok-is_allowed_in.ensures ∙ c.if-branch.false) ∙ c.loop-place.invariant

pub returns-then-branch : goal.returns-then-branch
returns-then-branch c =
    sym (found c.args.self.now c.as_slice-grants.result.now c.loop-place.place _ c.loop-place-test.true c.index-grants-place.is (sym c.in_ok-is_allowed_in.ensures ∙ c.if-branch.true))
    ∙ c.loop-place.invariant ∙ ap (somewhere c.args.self.now 1) c.as_slice-grants.ensures.same

pub returns : goal.returns
returns c =
    sym (none_left c.args.self.now c.as_slice-grants.result.now c.loop-place.place c.loop-place-test.false) ∙ c.loop-place.invariant ∙ ap (somewhere c.args.self.now 1) c.as_slice-grants.ensures.same
