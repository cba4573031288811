use Rattle.std.proofs.Common.{Some, sym, ap, ◌∙◌}
use Rattle.std.specs.Option.{option_copied}
use Rattle.capgrant.specs.Question.{question}
use Rattle.capgrant.specs.Permitted.{permitted_of}
use Rattle.lockmachine.specs.Policy.{permitted_to, subject_of}
use Rattle.lockmachine.proofs.wants.permitted_for.Goals as goal

pub returns : goal.returns
returns c =
    let path = sym (ap option_copied c.in-Some-Some.is-0) in
    let node = sym (ap option_copied c.in-Some-Some.is-1) in
    c.permitted_by_kept.ensures
    ∙ ap (λ path. permitted_of (question c.args.fs.now c.args.session.now.caller path c.in-Some-Some.node.now.attr) c.args.session.now.grants) c.as_slice.ensures
    ∙ (λ k. permitted_to c.args.fs.now (subject_of (Some c.args.session.now) (path k) (node k)))
