use Rattle.std.proofs.Common.{ap, sym, unwrap_or}
use Rattle.captable.specs.Kept.{no_sets}
use Rattle.captable.proofs.table.CapTable.kept_near.Goals as goal

pub returns-in-Some : goal.returns-in-Some
returns-in-Some c = ap (λ o. unwrap_or o no_sets) (sym c.in-Some.ensures.sets)
