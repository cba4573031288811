use Rattle.std.proofs.Common.{◌≡◌, [], ◌∷◌, ◌++◌, sym, ap, subst, ◌∙◌}
use Rattle.std.specs.Prelude.{IfOk, OnOk}
use Rattle.std.proofs.lemmas.Bool.{cond-false, cond-true}
use Rattle.texts.specs.declared.mds_asked.MdsAccess.TheVariants.{One}
use Rattle.queries.specs.declared.any_path.AnyPath.{AnyPath}
use Rattle.queries.specs.AnyPath.{any_path_of}
use Rattle.queries.specs.Reported.{of_line, scope_of, text_of}
use Rattle.queries.specs.Told.{Told, is_judgement}
use Rattle.queries.specs.Told.Told.{answered, pathless}
use Rattle.queries.proofs.log_text.print_answer.Goals as goal

pub returns-then-has_path-clause-printed : goal.returns-then-has_path-clause-printed
returns-then-has_path-clause-printed c =
    let q = c.args.question.now in
    subst (λ (t : Told). OnOk c.print_told.result (c.print_told.new.reported.items ≡ c.args.reported.now.items ++ text_of (scope_of c.args.line.scope) (of_line c.args.line.number (t ∷ []))))
    (sym (cond-true c.args.has_path (answered q c.args.grants.now) (pathless q.caller (One q.access) (any_path_of q)) c.if-has_path.true)) c.print_told.ensures.printed

pub returns-then-has_path-clause-judged : goal.returns-then-has_path-clause-judged
returns-then-has_path-clause-judged c =
    let q = c.args.question.now in
    subst (λ (t : Told). IfOk c.print_told.result (λ judged. judged ≡ is_judgement t))
    (sym (cond-true c.args.has_path (answered q c.args.grants.now) (pathless q.caller (One q.access) (any_path_of q)) c.if-has_path.true)) c.print_told.ensures.judged

pub returns-clause-printed : goal.returns-clause-printed
returns-clause-printed c =
    let q = c.args.question.now in
    subst (λ (t : Told). OnOk c.print_told-2.result (c.print_told-2.new.reported.items ≡ c.args.reported.now.items ++ text_of (scope_of c.args.line.scope) (of_line c.args.line.number (t ∷ []))))
    (ap (λ (any : AnyPath). pathless q.caller (One q.access) any) c.in_ok-any.ensures
    ∙ sym (cond-false c.args.has_path (answered q c.args.grants.now) (pathless q.caller (One q.access) (any_path_of q)) c.if-has_path.false)) c.print_told-2.ensures.printed

pub returns-clause-judged : goal.returns-clause-judged
returns-clause-judged c =
    let q = c.args.question.now in
    subst (λ (t : Told). IfOk c.print_told-2.result (λ judged. judged ≡ is_judgement t))
    (ap (λ (any : AnyPath). pathless q.caller (One q.access) any) c.in_ok-any.ensures
    ∙ sym (cond-false c.args.has_path (answered q c.args.grants.now) (pathless q.caller (One q.access) (any_path_of q)) c.if-has_path.false)) c.print_told-2.ensures.judged
