use Rattle.std.proofs.Common.{◌∙◌, arith, sym}
use Rattle.std.proofs.lemmas.List.{length-append}
use Rattle.capffi.proofs.Entries.{one_more_allows, one_more_fails, rest_more}
use Rattle.capffi.proofs.judging.Case.first_failures.Goals as goal
use Rattle.capffi.proofs.judging.Case.first_failures.Goals.{in-Some, in_default}

pub loop-entry-preserved : goal.loop-entry-preserved
loop-entry-preserved c =
    let rest = c.split_grant-grant.ensures.rest ∙ rest_more _ _ _ _ _ c.loop-entry-test.true c.loop-entry.invariant.0 in
    elim c.match-first_failing.branch [
      | in-Some w ↦
          let more = one_more_fails _ _ _ _ _ _ _ _ c.loop-entry-test.true c.loop-entry.invariant.0 c.split_grant-grant.ensures.grant (sym c.first_failing.ensures ∙ w.in-Some.is) in
          rw (w.rest-is, w.rules-is, w.push.ensures.items) (rest, rw c.loop-entry.invariant.1 (sym more), simp length-append (omega (arith, c.loop-entry.invariant.2)))
      | in_default w ↦
          let more = one_more_allows _ _ _ _ _ _ _ c.loop-entry-test.true c.loop-entry.invariant.0 c.split_grant-grant.ensures.grant (sym c.first_failing.ensures ∙ w.in_default.is) in
          rw (w.rest-is, w.rules-is) (rest, c.loop-entry.invariant.1 ∙ sym more, omega (arith, c.loop-entry.invariant.2))
    ]
