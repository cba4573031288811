use Rattle.std.proofs.Common.{◌≡◌, [], ◌∷◌, ◌++◌, sym, ap, subst, ◌∙◌}
use Rattle.std.specs.Prelude.{IfOk, OnOk, position}
use Rattle.std.proofs.lemmas.Bool.{cond-false, cond-true}
use Rattle.release_rules.specs.Failing.{may_allow_somewhere}
use Rattle.release_rules.specs.Releases.{switches_of}
use Rattle.texts.specs.MdsAsked.{asked_there}
use Rattle.queries.specs.declared.any_path.AnyPath.{AnyPath}
use Rattle.queries.specs.declared.mds.MdsAnswer.{MdsAnswer}
use Rattle.queries.specs.AnyPath.{any_path_by, any_path_there}
use Rattle.queries.specs.Mds.{answer_by, mds_question}
use Rattle.queries.specs.Reported.{of_line, scope_of, text_of}
use Rattle.queries.specs.Told.{Told, is_judgement}
use Rattle.queries.specs.Told.Told.{judged_by, pathless}
use Rattle.queries.proofs.log_by.print_said_by.Goals as goal

pub returns-then-has_path-clause-printed : goal.returns-then-has_path-clause-printed
returns-then-has_path-clause-printed c =
    let a = c.args.asking.now in
    let grants = c.args.grants.now in
    let there : Told = pathless a.asking.caller a.access (any_path_by c.args.release a grants) in
    subst (λ (t : Told). OnOk c.print_told.result (c.print_told.new.reported.items ≡ c.args.reported.now.items ++ text_of (scope_of c.args.line.scope) (of_line c.args.line.number (t ∷ []))))
    (ap (λ (x : MdsAnswer). judged_by a x) c.in_ok-answer.ensures ∙ sym (cond-true c.args.has_path (judged_by a (answer_by c.args.release a grants)) there c.if-has_path.true)) c.print_told.ensures.printed

pub returns-then-has_path-clause-judged : goal.returns-then-has_path-clause-judged
returns-then-has_path-clause-judged c =
    let a = c.args.asking.now in
    let grants = c.args.grants.now in
    let there : Told = pathless a.asking.caller a.access (any_path_by c.args.release a grants) in
    subst (λ (t : Told). IfOk c.print_told.result (λ b. b ≡ is_judgement t))
    (ap (λ (x : MdsAnswer). judged_by a x) c.in_ok-answer.ensures ∙ sym (cond-true c.args.has_path (judged_by a (answer_by c.args.release a grants)) there c.if-has_path.true)) c.print_told.ensures.judged

pub returns-clause-printed : goal.returns-clause-printed
returns-clause-printed c =
    let a = c.args.asking.now in
    let grants = c.args.grants.now in
    let place = position (may_allow_somewhere (switches_of c.args.release) (mds_question a.asking (asked_there a.access))) grants in
    let any : c.at_any_path-any.result ≡ any_path_by c.args.release a grants = c.at_any_path-any.ensures ∙ ap (λ (x : MdsAnswer). any_path_there x.verdict place) c.in_ok-answer.ensures in
    let there : Told = pathless a.asking.caller a.access (any_path_by c.args.release a grants) in
    subst (λ (t : Told). OnOk c.print_told-2.result (c.print_told-2.new.reported.items ≡ c.args.reported.now.items ++ text_of (scope_of c.args.line.scope) (of_line c.args.line.number (t ∷ []))))
    (ap (λ (x : AnyPath). pathless a.asking.caller a.access x) any ∙ sym (cond-false c.args.has_path (judged_by a (answer_by c.args.release a grants)) there c.if-has_path.false)) c.print_told-2.ensures.printed

pub returns-clause-judged : goal.returns-clause-judged
returns-clause-judged c =
    let a = c.args.asking.now in
    let grants = c.args.grants.now in
    let place = position (may_allow_somewhere (switches_of c.args.release) (mds_question a.asking (asked_there a.access))) grants in
    let any : c.at_any_path-any.result ≡ any_path_by c.args.release a grants = c.at_any_path-any.ensures ∙ ap (λ (x : MdsAnswer). any_path_there x.verdict place) c.in_ok-answer.ensures in
    let there : Told = pathless a.asking.caller a.access (any_path_by c.args.release a grants) in
    subst (λ (t : Told). IfOk c.print_told-2.result (λ b. b ≡ is_judgement t))
    (ap (λ (x : AnyPath). pathless a.asking.caller a.access x) any ∙ sym (cond-false c.args.has_path (judged_by a (answer_by c.args.release a grants)) there c.if-has_path.false)) c.print_told-2.ensures.judged
