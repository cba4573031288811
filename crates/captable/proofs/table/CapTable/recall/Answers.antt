use Rattle.std.proofs.Common.{◌∙◌, ap}
use Rattle.std.specs.List.{fold}
use Rattle.captable.specs.Many.{asking, changed_by}
use Rattle.captable.specs.Table.{Table}
use Rattle.captable.proofs.Recalling.{fold-asked}
use Rattle.captable.proofs.table.CapTable.recall.Goals as goal

pub returns-clause-ok : goal.returns-clause-ok
returns-clause-ok c =
    let now = c.args.self.now in
    c.ask_all.ensures
    ∙ ap (λ (es : Table). record now { entries = es })
    (ap (fold (changed_by asking) now.entries) (c.as_slice.ensures ∙ c.in_ok-named.ensures.named) ∙ fold-asked now.entries c.args.n c.first_to_recall.ensures.sound)
