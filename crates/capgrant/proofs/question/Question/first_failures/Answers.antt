use Rattle.std.proofs.Common.{◌∙◌, arith, sym}
use Rattle.std.proofs.lemmas.List.{length-append}
use Rattle.capgrant.proofs.Verdicts.{one_more_allows, one_more_fails}
use Rattle.capgrant.proofs.question.Question.first_failures.Goals as goal
use Rattle.capgrant.proofs.question.Question.first_failures.Goals.{in-Some, in_default}

pub loop-grant-preserved : goal.loop-grant-preserved
loop-grant-preserved c = elim c.match-first_failing.branch [
  | in-Some w ↦
      let more = one_more_fails c.args.self.now c.args.grants.now c.loop-grant.grant-index c.grant-item.result w.in-Some.rule c.loop-grant-test.true c.grant-item.is (sym c.first_failing.ensures ∙ w.in-Some.is) in
      rw (w.rules-is, w.push.ensures.items) (rw c.loop-grant.invariant.0 (sym more), simp length-append (omega (arith, c.loop-grant.invariant.1)))
  | in_default w ↦
      let more = one_more_allows c.args.self.now c.args.grants.now c.loop-grant.grant-index c.grant-item.result c.loop-grant-test.true c.grant-item.is (sym c.first_failing.ensures ∙ w.in_default.is) in
      rw w.rules-is (c.loop-grant.invariant.0 ∙ sym more, omega (arith, c.loop-grant.invariant.1))
]
