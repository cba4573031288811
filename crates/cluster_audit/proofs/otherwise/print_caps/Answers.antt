use Rattle.std.proofs.Common.{ap, ◌∙◌}
use Rattle.std.proofs.lemmas.Result.{on_ok_weaker}
use Rattle.locktable.specs.Targets.{has_any}
use Rattle.cluster_audit.proofs.Beside.{of_caps}
use Rattle.cluster_audit.proofs.otherwise.print_caps.Goals as goal

pub returns : goal.returns
returns c =
    let g = c.args.granted.now in
    on_ok_weaker c.print_if-2.result
    (of_caps g.detail g.inode.now g.client.now g.holder.now.client g.text.now c.args.grants.now c.args.caps c.has_any-reads.result c.has_any-writes.result c.args.lines.now.items c.print_if.new.lines.items c.print_if-2.new.lines.items
    (c.has_any-reads.ensures ∙ ap (has_any c.args.caps) c.readers_caps.ensures) (c.has_any-writes.ensures ∙ ap (has_any c.args.caps) c.writers_caps.ensures) c.in_ok-print_if.ensures)
    c.print_if-2.ensures
