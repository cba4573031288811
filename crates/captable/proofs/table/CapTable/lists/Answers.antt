use Rattle.std.proofs.Common.{subst}
use Rattle.captable.specs.Nodes.{AreLists}
use Rattle.captable.proofs.Reading.{are_lists}
use Rattle.captable.proofs.Beside.{entries_are}
use Rattle.captable.proofs.table.CapTable.lists.Goals as goal

pub returns-clause-lists : goal.returns-clause-lists
returns-clause-lists c = subst (λ t. AreLists t c.self.inside.lists) (entries_are c.self.view_is) (are_lists c.self.inside.lists c.self.inside.made c.self.invariant.0)
