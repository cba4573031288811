use Rattle.std.proofs.Common.{◌∙◌}
use Rattle.queries.specs.Cuts.{cut_first}
use Rattle.queries.proofs.Marks.{is_found}
use Rattle.queries.proofs.before.has.Goals as goal

pub returns : goal.returns
returns c = c.is_some.ensures ∙ is_found (cut_first c.args.mark.now c.args.text.now) _ c.cut_first.result c.cut_first.ensures
