use Rattle.std.proofs.Common.{rules, ◌+◌, ◌-◌, length, arith}
use Rattle.policy_analysis.proofs.Omitting.{kept, none_above, taken}
use Rattle.policy_analysis.proofs.redundant.redundant.Goals as goal
use Rattle.policy_analysis.proofs.redundant.redundant.Goals.{else-branch, then-branch+in_ok-push}

pub loop-done-init : goal.loop-done-init
loop-done-init c = rw c.new-numbers.ensures.items (none_above c.args.grants.now (length c.args.grants.now - 0) (omega arith))

pub loop-done-preserved : goal.loop-done-preserved
loop-done-preserved c = elim c.if-branch.branch [
  | then-branch+in_ok-push w ↦ taken c.args.grants.now c.loop-done.numbers.items c.as_slice.result.now c.if-branch.numbers.items (length c.args.grants.now - c.loop-done.done) (length c.args.grants.now - (c.loop-done.done + 1)) c.loop-done.invariant (omega arith) c.as_slice.ensures.value (search rules) (c.in_ok-is_covered.ensures.yes w.if-branch.true)
  | else-branch w ↦ kept c.args.grants.now c.loop-done.numbers.items c.as_slice.result.now c.if-branch.numbers.items (length c.args.grants.now - c.loop-done.done) (length c.args.grants.now - (c.loop-done.done + 1)) c.loop-done.invariant (omega arith) c.as_slice.ensures.value (search rules) (c.in_ok-is_covered.ensures.no w.if-branch.false)
]
