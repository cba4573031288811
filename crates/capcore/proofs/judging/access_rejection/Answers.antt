use Rattle.std.proofs.Common.{[], ◌∷◌, None, sym, ap, ◌∙◌}
use Rattle.capstep.proofs.Rejecting.{denial-rejection}
use Rattle.capcore.proofs.Common.{Scene, basic_tests, first_denied, need, plain, rejection-before, rejection_by}
use Rattle.capcore.proofs.judging.access_rejection.Goals as goal

pub returns-in-Some : goal.returns-in-Some
returns-in-Some c =
    let s : Scene = plain c.args.scene.now in
    let client = c.args.holder.client in
    let ino = c.args.holder.ino.0 in
    sym (rejection-before s (basic_tests s client ino) (need client ino c.args.access ∷ []) [] c.in-Some.refusal (sym c.basic_refusal.ensures ∙ c.in-Some.is))

pub returns-in-None : goal.returns-in-None
returns-in-None c =
    let s : Scene = plain c.args.scene.now in
    let client = c.args.holder.client in
    let ino = c.args.holder.ino.0 in
    c.denial.ensures
    ∙ denial-rejection s client ino c.args.access
    ∙ ap (λ o. rejection_by s o (first_denied s (need client ino c.args.access ∷ [])) None) (sym (sym c.basic_refusal.ensures ∙ c.in-None.is))
