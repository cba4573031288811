use Rattle.std.proofs.Common.{map, ap, ◌∙◌}
use Rattle.serde_json.specs.Data.{object}
use Rattle.serde_json.specs.View.{members_view}
use Rattle.texts.specs.Pieces.{pieces_value}
use Rattle.texts.specs.Values.{with_all}
use Rattle.texts.proofs.Plain.{plain-as, plain-pieces}
use Rattle.texts.proofs.Tables.{member_of}
use Rattle.texts.proofs.table.print_pieces.Goals as goal

pub print_object-requires : goal.print_object-requires
print_object-requires c =
    let table = c.args.table.now in
    plain-as (members_view c.put_all.new.members.entries) (pieces_value table) (ap object (c.in_ok-put_all.ensures ∙ ap (with_all (map member_of table)) (ap members_view c.new-members.ensures.empty))) (plain-pieces table)
