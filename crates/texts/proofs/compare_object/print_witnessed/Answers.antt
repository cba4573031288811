use Rattle.std.proofs.Common.{◌≡◌, ◌++◌, ap, subst, ◌∙◌}
use Rattle.std.specs.Prelude.{OnOk}
use Rattle.serde_json.specs.Data.{Members, no_members, object}
use Rattle.serde_json.specs.View.{members_view}
use Rattle.texts.specs.Changes.{with_witness, witnessed_value}
use Rattle.texts.specs.Pieces.{table_of}
use Rattle.texts.specs.Values.{ReadsBack, json_line, with_all}
use Rattle.texts.proofs.Plain.{plain-as, plain-witnessed}
use Rattle.texts.proofs.compare_object.print_witnessed.Goals as goal

pub print_object-requires : goal.print_object-requires
print_object-requires c =
    let key = c.args.key.now in
    let w = c.args.witness.now in
    let table = c.args.table.now in
    let begun : members_view c.put_all.new.members.entries ≡ with_all (table_of table) no_members = c.in_ok-put_all.ensures ∙ ap (with_all (table_of table)) (ap members_view c.new-members.ensures.empty) in
    plain-as (members_view c.put_witness.new.members.entries) (witnessed_value key w (table_of table)) (ap object (c.in_ok-put_witness.ensures ∙ ap (with_witness key w) begun)) (plain-witnessed key w table)

pub returns-clause-line : goal.returns-clause-line
returns-clause-line c =
    let table = c.args.table.now in
    let begun : members_view c.put_all.new.members.entries ≡ with_all (table_of table) no_members = c.in_ok-put_all.ensures ∙ ap (with_all (table_of table)) (ap members_view c.new-members.ensures.empty) in
    subst (λ (ms : Members). OnOk c.print_object.result (c.print_object.new.lines.items ≡ c.args.lines.now.items ++ json_line (object ms))) (c.in_ok-put_witness.ensures ∙ ap (with_witness c.args.key.now c.args.witness.now) begun) c.print_object.ensures.line

pub returns-clause-reads : goal.returns-clause-reads
returns-clause-reads c =
    let table = c.args.table.now in
    let begun : members_view c.put_all.new.members.entries ≡ with_all (table_of table) no_members = c.in_ok-put_all.ensures ∙ ap (with_all (table_of table)) (ap members_view c.new-members.ensures.empty) in
    subst (λ (ms : Members). OnOk c.print_object.result (ReadsBack (object ms))) (c.in_ok-put_witness.ensures ∙ ap (with_witness c.args.key.now c.args.witness.now) begun) c.print_object.ensures.reads
