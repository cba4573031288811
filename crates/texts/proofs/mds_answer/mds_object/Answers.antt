use Rattle.std.proofs.Common.{◌≡◌, ◌++◌, ap, subst, ◌∙◌}
use Rattle.serde_json.specs.Data.{Members, object}
use Rattle.serde_json.specs.View.{members_view}
use Rattle.texts.specs.Answers.{with_question}
use Rattle.texts.specs.MdsAnswers.{mds_table, mds_value}
use Rattle.texts.specs.Values.{ReadsBack, json_line, numbered, with_all}
use Rattle.texts.proofs.Plain.{plain-as, plain-mds}
use Rattle.texts.proofs.mds_answer.mds_object.Goals as goal

pub print_object-requires : goal.print_object-requires
print_object-requires c =
    let q = c.args.question.now in
    let said = c.args.said.now in
    let table = mds_table said.release said.access said.verdict.now said.refused in
    let asked : members_view c.put_question.new.members.entries ≡ with_question q (numbered c.args.number) = c.in_ok-put_question.ensures ∙ ap (with_question q) c.in_ok-members.ensures in
    plain-as (members_view c.put_mds.new.members.entries) (mds_value c.args.number said.release said.access q said.verdict.now said.refused) (ap object (c.in_ok-put_mds.ensures ∙ ap (with_all table) asked)) (plain-mds c.args.number said.release said.access q said.verdict.now said.refused)

pub returns-clause-line : goal.returns-clause-line
returns-clause-line c =
    let q = c.args.question.now in
    let said = c.args.said.now in
    let table = mds_table said.release said.access said.verdict.now said.refused in
    let asked : members_view c.put_question.new.members.entries ≡ with_question q (numbered c.args.number) = c.in_ok-put_question.ensures ∙ ap (with_question q) c.in_ok-members.ensures in
    c.in_ok-print_object.ensures.line ∙ ap (λ text. text ++ json_line (object (members_view c.put_mds.new.members.entries))) c.new-line.ensures.items
    ∙ ap (λ (ms : Members). json_line (object ms)) (c.in_ok-put_mds.ensures ∙ ap (with_all table) asked)

pub returns-clause-reads : goal.returns-clause-reads
returns-clause-reads c =
    let q = c.args.question.now in
    let said = c.args.said.now in
    let table = mds_table said.release said.access said.verdict.now said.refused in
    let asked : members_view c.put_question.new.members.entries ≡ with_question q (numbered c.args.number) = c.in_ok-put_question.ensures ∙ ap (with_question q) c.in_ok-members.ensures in
    subst (λ (ms : Members). ReadsBack (object ms)) (c.in_ok-put_mds.ensures ∙ ap (with_all table) asked) c.in_ok-print_object.ensures.reads
