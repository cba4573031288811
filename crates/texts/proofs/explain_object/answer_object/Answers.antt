use Rattle.std.proofs.Common.{◌≡◌, ◌++◌, ap, subst, ◌∙◌}
use Rattle.serde_json.specs.Data.{Members, object}
use Rattle.serde_json.specs.View.{members_view}
use Rattle.texts.specs.Answers.{answer_value, remarks_table, verdict_table, with_question}
use Rattle.texts.specs.Values.{ReadsBack, json_line, numbered, with_all}
use Rattle.texts.proofs.Plain.{plain-answer, plain-as}
use Rattle.texts.proofs.explain_object.answer_object.Goals as goal

pub print_object-requires : goal.print_object-requires
print_object-requires c =
    let q = c.args.question.now in
    let v = c.args.verdict.now in
    let remarks = remarks_table c.args.left c.args.others.now in
    let judged : members_view c.put_verdict.new.members.entries ≡ with_all (verdict_table v) (with_question q (numbered c.args.number)) =
    c.in_ok-put_verdict.ensures ∙ ap (with_all (verdict_table v)) (c.in_ok-put_question.ensures ∙ ap (with_question q) c.in_ok-members.ensures) in
    plain-as (members_view c.put_remarks.new.members.entries) (answer_value c.args.number q v c.args.left c.args.others.now) (ap object (c.in_ok-put_remarks.ensures ∙ ap (with_all remarks) judged)) (plain-answer c.args.number q v c.args.left c.args.others.now)

pub returns-clause-line : goal.returns-clause-line
returns-clause-line c =
    let q = c.args.question.now in
    let v = c.args.verdict.now in
    let remarks = remarks_table c.args.left c.args.others.now in
    let judged : members_view c.put_verdict.new.members.entries ≡ with_all (verdict_table v) (with_question q (numbered c.args.number)) =
    c.in_ok-put_verdict.ensures ∙ ap (with_all (verdict_table v)) (c.in_ok-put_question.ensures ∙ ap (with_question q) c.in_ok-members.ensures) in
    c.in_ok-print_object.ensures.line ∙ ap (λ text. text ++ json_line (object (members_view c.put_remarks.new.members.entries))) c.new-line.ensures.items
    ∙ ap (λ (ms : Members). json_line (object ms)) (c.in_ok-put_remarks.ensures ∙ ap (with_all remarks) judged)

pub returns-clause-reads : goal.returns-clause-reads
returns-clause-reads c =
    let q = c.args.question.now in
    let v = c.args.verdict.now in
    let remarks = remarks_table c.args.left c.args.others.now in
    let judged : members_view c.put_verdict.new.members.entries ≡ with_all (verdict_table v) (with_question q (numbered c.args.number)) =
    c.in_ok-put_verdict.ensures ∙ ap (with_all (verdict_table v)) (c.in_ok-put_question.ensures ∙ ap (with_question q) c.in_ok-members.ensures) in
    subst (λ (ms : Members). ReadsBack (object ms)) (c.in_ok-put_remarks.ensures ∙ ap (with_all remarks) judged) c.in_ok-print_object.ensures.reads
