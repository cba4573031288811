use Rattle.std.proofs.Common.{◌≡◌, Option, None, refl, sym, ap, ◌∙◌}
use Rattle.lockmachine.specs.Scene.{plain, scene}
use Rattle.capstep.proofs.Twice.{given-twice, recorded-twice}
use Rattle.step_acts.proofs.Again.{calls-passed, ends-passed, ends-rejection, ends-without_memory, tree-passed}
use Rattle.step_acts.proofs.Common.{Operation, Outcome, Rejection, Request, Scene, judged_again, operation_after, operation_before, operation_needs}
use Rattle.step_acts.proofs.Common.{rejection_of, tree_after}
use Rattle.step_acts.proofs.Memory.{rename-takes}
use Rattle.step_acts.proofs.serving.serve.Goals.{After-carry_out-arg-2-1, else-not-judged, then-not-judged+in_default}
use Rattle.step_acts.proofs.serving.serve.Goals as goal

-- it is judged as it asks
again : (s : Scene) (q : Request) (operation : Operation) (r : Option Rejection) → operation ≡ q.operation
    → r ≡ rejection_of s (operation_before s q.ino.0 operation) (operation_needs s q.client q.ino.0 operation) (operation_after s q.ino.0 operation) → r ≡ judged_again s q
again s q operation r lent is = is ∙ ap (λ (a : Operation). rejection_of s (operation_before s q.ino.0 a) (operation_needs s q.client q.ino.0 a) (operation_after s q.ino.0 a)) lent

-- nothing rejects it
free : (c : After-carry_out-arg-2-1) → judged_again (plain c.args.scene.now) c.args.request.now ≡ None
free c = elim c.if-not-judged.branch [
  | then-not-judged+in_default w ↦ sym (again (plain c.args.scene.now) c.args.request.now _ _ w.operation_ref-operation.ensures w.operation_rejection.ensures) ∙ w.in_default.is
  | else-not-judged w ↦ c.requires.judged w.if-not-judged.false
]

pub returns-in-Some-clause-ends : goal.returns-in-Some-clause-ends
returns-in-Some-clause-ends c = λ table locks.
    ends-rejection (scene c.args.scene.now.fs c.args.scene.now.tree c.args.scene.now.sessions table locks) c.args.request.now c.in-Some.rejection c.rejected.result.given
    (sym (again (plain c.args.scene.now) c.args.request.now _ _ c.operation_ref-operation.ensures c.operation_rejection.ensures) ∙ c.in-Some.is) (given-twice c.rejected.result _ c.rejected.ensures)

pub returns-in-Some-clause-recorded : goal.returns-in-Some-clause-recorded
returns-in-Some-clause-recorded c = recorded-twice c.rejected.result _ c.rejected.ensures

pub carry_out-requires : goal.carry_out-requires
carry_out-requires c =
    record { passed = calls-passed (plain c.args.scene.now) c.args.request.now (free c) }

pub returns-in-Ok-clause-ends : goal.returns-in-Ok-clause-ends
returns-in-Ok-clause-ends c = λ table locks.
    let s : Scene = scene c.args.scene.now.fs c.args.scene.now.tree c.args.scene.now.sessions table locks in
    ends-passed s c.args.request.now c.in-Ok.served.given (free (goal.at.returns-in-Ok-clause-ends c).After-carry_out-arg-2-1) (given-twice c.in-Ok.served _ (c.in-Ok.ensures.outcome s refl))

pub returns-in-Ok-clause-recorded : goal.returns-in-Ok-clause-recorded
returns-in-Ok-clause-recorded c = recorded-twice c.in-Ok.served _ (c.in-Ok.ensures.outcome (plain c.args.scene.now) refl)

pub returns-in-Ok-clause-tree : goal.returns-in-Ok-clause-tree
returns-in-Ok-clause-tree c =
    let s : Scene = plain c.args.scene.now in
    c.in-Ok.ensures.tree ∙ tree-passed s c.args.request.now ∙ ap (tree_after s.tree c.args.request.now) (sym (given-twice c.in-Ok.served _ (c.in-Ok.ensures.outcome s refl)))

pub returns-then-not-room-clause-ends : goal.returns-then-not-room-clause-ends
returns-then-not-room-clause-ends c = λ table locks.
    ends-without_memory (scene c.args.scene.now.fs c.args.scene.now.tree c.args.scene.now.sessions table locks) c.args.request.now Outcome.OutOfMemory
    (elim c.if-not-judged.branch [
      | then-not-judged+in_default w ↦ sym (again (plain c.args.scene.now) c.args.request.now _ _ w.operation_ref-operation.ensures w.operation_rejection.ensures) ∙ w.in_default.is
      | else-not-judged w ↦ c.requires.judged w.if-not-judged.false
    ]) (rename-takes c.args.request.now.operation (c.requires.room search)) refl

pub returns-in-Err-clause-ends : goal.returns-in-Err-clause-ends
returns-in-Err-clause-ends c = λ table locks.
    ends-without_memory (scene c.args.scene.now.fs c.args.scene.now.tree c.args.scene.now.sessions table locks) c.args.request.now Outcome.OutOfMemory
    (free (goal.at.returns-in-Err-clause-ends c).After-carry_out-arg-2-1) c.in-Err.ensures.memory refl
