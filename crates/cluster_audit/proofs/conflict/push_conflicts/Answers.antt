use Rattle.std.proofs.Common.{◌++◌, [], ◌∷◌, List, Some, None, ap, sym, ◌∙◌}
use Rattle.std.proofs.lemmas.List.{append-nil}
use Rattle.cluster_audit.specs.declared.conflict.Conflict.{Conflict}
use Rattle.cluster_audit.proofs.ConflictingCaps.{conflicts_more}
use Rattle.cluster_audit.proofs.conflict.push_conflicts.Goals as goal
use Rattle.cluster_audit.proofs.conflict.push_conflicts.Goals.{in-Some+in_ok-push, in_default}

pub loop-other-preserved : goal.loop-other-preserved
loop-other-preserved c = elim c.match-conflict_of.branch [
  | in-Some+in_ok-push w ↦
      ap (λ v. v.items) w.found-is
      ∙ w.in_ok-push.ensures.items
      ∙ ap (λ (xs : List Conflict). xs ++ w.in-Some.conflict ∷ []) c.loop-other.invariant
      ∙ conflicts_more c.args.found.now.items c.args.one.now c.args.others.now c.loop-other.other-index c.other-item.result (Some w.in-Some.conflict) c.loop-other-test.true c.other-item.is (sym c.conflict_of.ensures ∙ w.in-Some.is)
  | in_default w ↦
      ap (λ v. v.items) w.found-is
      ∙ c.loop-other.invariant
      ∙ sym (append-nil _)
      ∙ conflicts_more c.args.found.now.items c.args.one.now c.args.others.now c.loop-other.other-index c.other-item.result None c.loop-other-test.true c.other-item.is (sym c.conflict_of.ensures ∙ w.in_default.is)
]
