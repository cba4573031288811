use Rattle.std.proofs.Common.{◌∙◌}
use Rattle.std.proofs.lemmas.Result.{on_ok_weaker}
use Rattle.cluster_audit.proofs.Beside.{of_access}
use Rattle.cluster_audit.proofs.otherwise.print_access.Goals as goal

pub returns : goal.returns
returns c =
    let g = c.args.granted.now in
    on_ok_weaker c.print_others.result
    (of_access g.detail g.inode.now g.client.now g.holder.now.client g.text.now c.args.grants.now c.args.access c.standing-standing.result c.in_ok-others.others c.as_slice.result.now c.args.lines.now.items c.print_others.new.text.items
    c.standing-standing.ensures c.in_ok-others.ensures (c.as_slice.ensures.value ∙ c.in_ok-front.ensures))
    c.print_others.ensures
