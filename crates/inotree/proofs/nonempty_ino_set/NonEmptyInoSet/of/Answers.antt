use Rattle.std.proofs.Common.{ap, ◌∙◌}
use Rattle.std.specs.FinSet as set
use Rattle.std.specs.Ordering.{nat_cmp}
use Rattle.inotree.specs.InoSets.{InoSet}
use Rattle.inotree.proofs.nonempty_ino_set.NonEmptyInoSet.of.Goals as goal

pub invariant_of-result : goal.invariant_of-result
invariant_of-result c = ap (λ (s : InoSet). set.contains s c.args.ino.0) c.new.ensures ∙ set.contains-empty nat_cmp c.args.ino.0
