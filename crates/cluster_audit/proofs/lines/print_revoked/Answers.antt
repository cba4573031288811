use Rattle.std.proofs.Common.{sym, ◌∙◌}
use Rattle.cluster_audit.proofs.lines.print_revoked.Goals as goal

pub returns : goal.returns
returns c = rw (sym c.is_empty.ensures.value ∙ c.if-is_empty.false) c.print_texts.ensures
