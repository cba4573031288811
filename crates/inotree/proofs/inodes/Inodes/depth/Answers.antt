use Rattle.std.proofs.Common.{ap, ◌∙◌, length}
use Rattle.inotree.specs.Tree.{depth}
use Rattle.inotree.proofs.inodes.Inodes.depth.Goals as goal

pub returns-clause-value : goal.returns-clause-value
unfolding depth
returns-clause-value c = c.len.ensures.value ∙ ap length c.read_names_up.ensures
