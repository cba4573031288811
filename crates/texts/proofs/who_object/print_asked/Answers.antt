use Rattle.std.proofs.Common.{◌≡◌, ◌++◌, ap, subst, ◌∙◌}
use Rattle.std.specs.Prelude.{OnOk}
use Rattle.serde_json.specs.Data.{Members, no_members, object}
use Rattle.serde_json.specs.View.{members_view}
use Rattle.texts.specs.Pieces.{table_of}
use Rattle.texts.specs.Standings.{client_value, with_client}
use Rattle.texts.specs.Values.{ReadsBack, json_line, with_all}
use Rattle.texts.proofs.Plain.{plain-as, plain-client}
use Rattle.texts.proofs.who_object.print_asked.Goals as goal

pub print_object-requires : goal.print_object-requires
print_object-requires c =
    let client = c.args.client.now in
    let w = c.args.wanted.now in
    let attr = c.args.attr.now in
    let table = c.args.table.now in
    let asked : members_view c.put_client.new.members.entries ≡ with_client client w attr no_members = c.in_ok-put_client.ensures ∙ ap (with_client client w attr) (ap members_view c.new-members.ensures.empty) in
    plain-as (members_view c.put_all.new.members.entries) (client_value client w attr (table_of table)) (ap object (c.in_ok-put_all.ensures ∙ ap (with_all (table_of table)) asked)) (plain-client client w attr table)

pub returns-clause-line : goal.returns-clause-line
returns-clause-line c =
    let client = c.args.client.now in
    let w = c.args.wanted.now in
    let attr = c.args.attr.now in
    let asked : members_view c.put_client.new.members.entries ≡ with_client client w attr no_members = c.in_ok-put_client.ensures ∙ ap (with_client client w attr) (ap members_view c.new-members.ensures.empty) in
    subst (λ (ms : Members). OnOk c.print_object.result (c.print_object.new.lines.items ≡ c.args.lines.now.items ++ json_line (object ms))) (c.in_ok-put_all.ensures ∙ ap (with_all (table_of c.args.table.now)) asked) c.print_object.ensures.line

pub returns-clause-reads : goal.returns-clause-reads
returns-clause-reads c =
    let client = c.args.client.now in
    let w = c.args.wanted.now in
    let attr = c.args.attr.now in
    let asked : members_view c.put_client.new.members.entries ≡ with_client client w attr no_members = c.in_ok-put_client.ensures ∙ ap (with_client client w attr) (ap members_view c.new-members.ensures.empty) in
    subst (λ (ms : Members). OnOk c.print_object.result (ReadsBack (object ms))) (c.in_ok-put_all.ensures ∙ ap (with_all (table_of c.args.table.now)) asked) c.print_object.ensures.reads
