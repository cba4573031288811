use Rattle.std.proofs.Common.{sym, ap, ◌∙◌, arith}
use Rattle.inotree.specs.Tree.{Nodes, descends}
use Rattle.inotree.proofs.Named.{descends-index, index_inodes}
use Rattle.inotree.proofs.Rising.{are-bounds}
use Rattle.inotree.proofs.tree.Tree.descends.Goals as goal

pub descends-requires-clause-bounds : goal.descends-requires-clause-bounds
descends-requires-clause-bounds c = are-bounds c.self.inside.inodes c.self.inside.names c.self.inside.heights c.self.invariant.1.0 c.self.invariant.1.1

pub descends-requires-clause-names : goal.descends-requires-clause-names
descends-requires-clause-names c = index_inodes c.self.inside.inodes c.self.inside.names c.self.invariant.1.0 c.self.inside.last c.self.invariant.0 (omega arith)

pub returns : goal.returns
returns c =
    c.descends.ensures ∙ sym (descends-index c.self.inside.inodes c.self.inside.names c.self.invariant.1.0 c.args.steps c.args.ino.0)
    ∙ ap (λ (t : Nodes). descends c.args.steps t.nodes c.args.ino.0) c.self.view_is
