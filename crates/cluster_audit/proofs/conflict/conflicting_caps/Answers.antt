use Rattle.std.proofs.Common.{ap, sym, ◌∙◌}
use Rattle.capbits.specs.Sets.{caps_in}
use Rattle.cluster_audit.proofs.Gathering.{none_yet}
use Rattle.cluster_audit.proofs.ConflictingCaps.{are_conflicting, no_rival_more, one_rival_more}
use Rattle.cluster_audit.proofs.conflict.conflicting_caps.Goals as goal
use Rattle.cluster_audit.proofs.conflict.conflicting_caps.Goals.{else-has, then-has}

pub loop-cap-init : goal.loop-cap-init
loop-cap-init c = none_yet c.empty-conflicting_caps.result c.empty-conflicting_caps.ensures

pub loop-cap-preserved : goal.loop-cap-preserved
loop-cap-preserved c = elim c.if-has.branch [
  | then-has w ↦ one_rival_more c.args.caps c.loop-cap.conflicting_caps w.of.result c.if-has.conflicting_caps c.loop-cap.cap-index _ c.loop-cap-test.true c.loop-cap.invariant (sym c.has.ensures ∙ w.if-has.true) (w.of.ensures ∙ ap caps_in w.conflicting.ensures) (w.conflicting_caps-is ∙ w.union-conflicting_caps.ensures)
  | else-has w ↦ no_rival_more c.args.caps c.loop-cap.conflicting_caps c.if-has.conflicting_caps c.loop-cap.cap-index _ c.loop-cap-test.true c.loop-cap.invariant (sym c.has.ensures ∙ w.if-has.false) w.conflicting_caps-is
]

pub returns : goal.returns
returns c = are_conflicting c.args.caps c.loop-cap.conflicting_caps c.loop-cap.cap-index c.loop-cap-test.false c.loop-cap.invariant
