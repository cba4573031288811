use Rattle.std.proofs.Common.{ap, sym, ◌∙◌}
use Rattle.policy_analysis.proofs.Listed.{none_odd_more, one_odd_more}
use Rattle.policy_analysis.proofs.oddity.push_oddities.Goals as goal
use Rattle.policy_analysis.proofs.oddity.push_oddities.Goals.{else-is_in, then-is_in+in_ok-push}

pub loop-oddity-preserved : goal.loop-oddity-preserved
loop-oddity-preserved c = elim c.if-is_in.branch [
  | then-is_in+in_ok-push w ↦
      one_odd_more c.args.switches c.args.number c.args.grant.now c.loop-oddity.oddity-index _ c.args.found.now.items c.loop-oddity.found.items _ c.loop-oddity-test.true (sym c.is_in.ensures ∙ w.if-is_in.true) c.loop-oddity.invariant
      (ap (λ v. v.items) w.found-is ∙ w.in_ok-push.ensures.items)
  | else-is_in w ↦
      none_odd_more c.args.switches c.args.number c.args.grant.now c.loop-oddity.oddity-index _ c.args.found.now.items c.loop-oddity.found.items _ c.loop-oddity-test.true (sym c.is_in.ensures ∙ w.if-is_in.false) c.loop-oddity.invariant
      (ap (λ v. v.items) w.found-is)
]
