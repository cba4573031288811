use Rattle.std.proofs.Common.{◌≡◌, List, [], ◌∷◌, ◌++◌, Option, Some, inl, inr, refl, sym, ap, ◌∙◌}
use Rattle.std.specs.Option.{option_map}
use Rattle.capgrant.specs.declared.access.Access.TheVariants.{Read, Write}
use Rattle.inotree.specs.Tree.{parent}
use Rattle.capstep.specs.Needs.{need_if}
use Rattle.lockmachine.specs.Scene.{plain}
use Rattle.capstep.proofs.Rejecting.{denied-first}
use Rattle.capstep.proofs.Common.{Access, Holder, Ino, Need, Rejection, Scene, denial_of, need, operation_needs, rejection_of}
use Rattle.capstep.proofs.judge.operation_denial.Goals.{in-Alter, in-Get, in-Rename, in-Unlink}
use Rattle.capstep.specs.OperationRefs.{operation_of}
use Rattle.capstep.specs.declared.operations.OperationRef.{OperationRef}
use Rattle.capstep.proofs.judge.operation_denial.Goals as goal

-- the first access is denied
first : (s : Scene) (k : Holder) (operation : OperationRef) (i : Ino) (access : Access) (rest : List Need) (r : Option Rejection) (d : Rejection)
    → operation_needs s k.client k.ino.0 (operation_of operation) ≡ need k.client i.0 access ∷ rest → r ≡ denial_of s.fs s.tree s.sessions (need k.client i.0 access).holder access → r ≡ Some d
    → Some d ≡ rejection_of s [] (operation_needs s k.client k.ino.0 (operation_of operation)) []
first s k operation i access rest r d needs denial is =
    sym (ap (λ (ns : List Need). rejection_of s [] ns []) needs ∙ denied-first s (need k.client i.0 access) rest [] [] d refl (sym denial ∙ is))

pub returns-in-Some-denial : goal.returns-in-Some-denial
returns-in-Some-denial c =
    let s : Scene = plain c.args.scene.now in
    let k : Holder = c.args.holder in
    let i : Ino = c.in-Some.ino in
    let access : Access = c.match-operation.at.1 in
    let needs_of = λ (operation : OperationRef). operation_needs s k.client k.ino.0 (operation_of operation) in
    let at = λ (o : Option Ino). option_map (λ (i : Ino). i.0) o in
    elim c.match-operation.branch [
      | in-Get w ↦
          first s k c.args.operation i access [] c.denial.result c.in-Some-denial.denied
          (ap needs_of w.in-Get.is
          ∙ ap (λ (o : Option Ino). need_if k.client (at o) Read) (sym (ap (λ t. t.0) w.at-is) ∙ c.in-Some.is)
          ∙ ap (λ (a : Access). need k.client i.0 a ∷ []) (sym (ap (λ t. t.1) w.at-is)))
          c.denial.ensures c.in-Some-denial.is
      | in-Alter w ↦
          first s k c.args.operation i access [] c.denial.result c.in-Some-denial.denied
          (ap needs_of w.in-Alter.is
          ∙ ap (λ (a : Access). need k.client k.ino.0 a ∷ []) (sym w.change_access.ensures ∙ sym (ap (λ t. t.1) w.at-is))
          ∙ ap (λ (o : Option Ino). need_if k.client (at o) access) (sym (ap (λ t. t.0) w.at-is) ∙ c.in-Some.is))
          c.denial.ensures c.in-Some-denial.is
      | in-Unlink w ↦
          let stands : needs_of c.args.operation ≡ need_if k.client (parent s.tree.nodes k.ino.0) Write = elim w.in-Unlink.is [ inl e ↦ ap needs_of e | inr e ↦ ap needs_of e ] in
          first s k c.args.operation i access [] c.denial.result c.in-Some-denial.denied
          (stands
          ∙ ap (λ o. need_if k.client o Write) (sym w.parent.ensures ∙ ap at (sym (ap (λ t. t.0) w.at-is) ∙ c.in-Some.is))
          ∙ ap (λ (a : Access). need k.client i.0 a ∷ []) (sym (ap (λ t. t.1) w.at-is)))
          c.denial.ensures c.in-Some-denial.is
      | in-Rename w ↦
          let rest : List Need = need k.client w.in-Rename.dir.0 Write ∷ [] in
          first s k c.args.operation i access rest c.denial.result c.in-Some-denial.denied
          (ap needs_of w.in-Rename.is
          ∙ ap (λ o. need_if k.client o Write ++ rest) (sym w.parent-in-Rename.ensures ∙ ap at (sym (ap (λ t. t.0) w.at-is) ∙ c.in-Some.is))
          ∙ ap (λ (a : Access). need k.client i.0 a ∷ rest) (sym (ap (λ t. t.1) w.at-is)))
          c.denial.ensures c.in-Some-denial.is
    ]
