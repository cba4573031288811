use Rattle.std.proofs.Common.{◌∙◌, ap}
use Rattle.capbits.specs.Refusal.{first_failing}
use Rattle.captable.specs.Tests.{open_tests}
use Rattle.captable.proofs.Reading.{refused-alike}
use Rattle.captable.proofs.Beside.{entries_are}
use Rattle.captable.proofs.table.CapTable.open_refusal.Goals as goal

pub returns : goal.returns
returns c = c.add_refusal.ensures.tests ∙ refused-alike c.self.inside.lists c.self.inside.made c.self.invariant.0 ∙ ap (λ t. first_failing (open_tests t)) (entries_are c.self.view_is)
