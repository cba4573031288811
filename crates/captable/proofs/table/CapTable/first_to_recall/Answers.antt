use Rattle.std.proofs.Common.{◌∙◌, ap, take}
use Rattle.captable.specs.Table.{Table}
use Rattle.captable.proofs.Beside.{entries_are}
use Rattle.captable.proofs.table.CapTable.first_to_recall.Goals as goal

pub returns-clause-named : goal.returns-clause-named
returns-clause-named c = c.from_vec.ensures ∙ c.in_ok-named.ensures ∙ ap (λ (t : Table). take c.args.n t.recall) (entries_are c.self.view_is)
