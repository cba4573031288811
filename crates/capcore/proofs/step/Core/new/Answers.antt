use Rattle.capstep.proofs.Numbered.{counted-nil}
use Rattle.capcore.proofs.Growing.{first-legal}
use Rattle.capcore.proofs.step.Core.new.Goals as goal

pub invariant_of-result : goal.invariant_of-result
invariant_of-result c = (
  rw c.new-2.ensures.items (first-legal c.args.fs c.args.tree c.in_ok-new.field-0 c.args.max_rows c.new-4.result.changes.items c.requires.strays c.in_ok-new.ensures),
  rw (c.new-2.ensures.items, c.new-3.ensures) counted-nil,
)
