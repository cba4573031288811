use Rattle.std.proofs.Common.{◌≡◌, ℕ, Option, List, sym, ap, ◌∙◌}
use Rattle.std.specs.Option.{option_map}
use Rattle.inotree.specs.Tests.{new_site_tests}
use Rattle.capstep.specs.declared.rejection.Rejection.TheVariants.{ByTest}
use Rattle.lockmachine.specs.Scene.{plain}
use Rattle.capstep.proofs.Rejecting.{rejection-after, rejection-before, rejection-denied}
use Rattle.capstep.proofs.Common.{Refusal, Scene, first_failing, operation_after, operation_before, operation_needs}
use Rattle.capstep.proofs.judge.operation_rejection.Goals.{in-Alter, in-Get, in-Rename, in-Rmdir, in-Unlink}
use Rattle.capstep.specs.OperationRefs.{operation_of}
use Rattle.capstep.specs.declared.operations.OperationRef.{OperationRef}
use Rattle.capstep.proofs.judge.operation_rejection.Goals as goal

pub returns-in-Some : goal.returns-in-Some
returns-in-Some c =
    let s : Scene = plain c.args.scene.now in
    let k = c.args.holder in
    let o = operation_of c.args.operation in
    sym (rejection-before s (operation_before s k.ino.0 o) (operation_needs s k.client k.ino.0 o) (operation_after s k.ino.0 o) c.in-Some.refusal (sym c.before_refusal.ensures ∙ c.in-Some.is))

pub returns-in-Some-operation_denial : goal.returns-in-Some-operation_denial
returns-in-Some-operation_denial c =
    let s : Scene = plain c.args.scene.now in
    let k = c.args.holder in
    let o = operation_of c.args.operation in
    sym (rejection-denied s (operation_before s k.ino.0 o) (operation_needs s k.client k.ino.0 o) (operation_after s k.ino.0 o) c.in-Some-operation_denial.denied (sym c.before_refusal.ensures ∙ c.in_default.is)
    (sym c.operation_denial.ensures ∙ c.in-Some-operation_denial.is))

pub returns : goal.returns
returns c =
    let s : Scene = plain c.args.scene.now in
    let k = c.args.holder in
    let o = operation_of c.args.operation in
    let failing : OperationRef → Option Refusal = λ operation. first_failing (operation_after s k.ino.0 (operation_of operation)) in
    let after : c.match-operation.refusal ≡ failing c.args.operation = elim c.match-operation.branch [
      | in-Get w ↦ w.refusal-is ∙ ap failing (sym w.in-Get.is)
      | in-Alter w ↦ w.refusal-is ∙ w.change_refusal-refusal.ensures ∙ ap failing (sym w.in-Alter.is)
      | in-Unlink w ↦ w.refusal-is ∙ w.file_refusal-refusal.ensures ∙ ap failing (sym w.in-Unlink.is)
      | in-Rmdir w ↦ w.refusal-is ∙ w.empty_refusal-refusal.ensures ∙ ap failing (sym w.in-Rmdir.is)
      | in-Rename w ↦ w.refusal-is ∙ w.new_site_refusal-refusal.ensures ∙ ap (λ (name : List ℕ). first_failing (new_site_tests s.tree k.ino.0 w.in-Rename.dir.0 name)) w.as_slice.ensures ∙ ap failing (sym w.in-Rename.is)
    ] in
    ap (option_map ByTest) (sym c.in_ok-refusal.was ∙ after)
    ∙ sym (rejection-after s (operation_before s k.ino.0 o) (operation_needs s k.client k.ino.0 o) (operation_after s k.ino.0 o) (sym c.before_refusal.ensures ∙ c.in_default.is) (sym c.operation_denial.ensures ∙ c.in_default-operation_denial.is))
