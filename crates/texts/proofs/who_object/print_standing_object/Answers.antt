use Rattle.std.proofs.Common.{◌≡◌, ap, ◌∙◌}
use Rattle.serde_json.specs.Data.{no_members, object}
use Rattle.serde_json.specs.View.{members_view}
use Rattle.texts.specs.Answers.{others_table}
use Rattle.texts.specs.Standings.{standing_table, standing_value, with_client}
use Rattle.texts.specs.Values.{with_all}
use Rattle.texts.proofs.Plain.{plain-as, plain-standing}
use Rattle.texts.proofs.who_object.print_standing_object.Goals as goal

pub print_object-requires : goal.print_object-requires
print_object-requires c =
    let client = c.args.client.now in
    let w = c.args.wanted.now in
    let attr = c.args.attr.now in
    let standing = c.args.standing.now in
    let others = c.args.others.now in
    let asked : members_view c.put_client.new.members.entries ≡ with_client client w attr no_members = c.in_ok-put_client.ensures ∙ ap (with_client client w attr) (ap members_view c.new-members.ensures.empty) in
    let judged : members_view c.put_standing.new.members.entries ≡ with_all (standing_table standing) (with_client client w attr no_members) = c.in_ok-put_standing.ensures ∙ ap (with_all (standing_table standing)) asked in
    plain-as (members_view c.put_others.new.members.entries) (standing_value client w attr standing others) (ap object (c.in_ok-put_others.ensures ∙ ap (with_all (others_table others)) judged)) (plain-standing client w attr standing others)
