use Rattle.std.proofs.Common.{◌∙◌}
use Rattle.queries.specs.Before.{before_in}
use Rattle.queries.proofs.Marks.{is_told}
use Rattle.queries.proofs.before.is_before.Goals as goal

pub returns : goal.returns
returns c = c.is_some.ensures ∙ is_told (before_in c.args.line.now) _ c.before_in.result c.before_in.ensures
