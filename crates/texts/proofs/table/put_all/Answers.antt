use Rattle.std.proofs.Common.{ap, ◌∙◌}
use Rattle.serde_json.specs.Data.{put}
use Rattle.serde_json.specs.View.{members_view, view}
use Rattle.texts.specs.Pieces.{piece_value}
use Rattle.texts.proofs.Tables.{Row, no_more, one_more}
use Rattle.texts.proofs.table.put_all.Goals as goal

pub loop-member-preserved : goal.loop-member-preserved
loop-member-preserved c =
    let before = members_view c.loop-member.members.entries in
    one_more c.args.table.now c.loop-member.member-index c.member-item.result (view c.in_ok-value.value) before (members_view c.put.new.map.entries) _ c.loop-member-test.true
    (c.in_ok-value.ensures ∙ ap (λ (m : Row). piece_value m.1) c.member-item.is)
    (c.in_ok-put.ensures.ok ∙ ap (λ (m : Row). put m.0.now (view c.in_ok-value.value) before) c.member-item.is)
    c.loop-member.invariant

pub returns : goal.returns
returns c = no_more c.args.table.now c.loop-member.member-index (members_view c.loop-member.members.entries) _ c.loop-member-test.false c.loop-member.invariant
