use Rattle.std.proofs.Common.{ap, ◌∙◌}
use Rattle.inotree.specs.Tree.{Nodes, depth}
use Rattle.inotree.proofs.tree.Tree.depth.Goals as goal

pub returns-clause-value : goal.returns-clause-value
returns-clause-value c = c.depth.ensures.value ∙ ap (λ (t : Nodes). depth t.nodes c.args.ino.0) c.self.view_is
