use Rattle.std.proofs.Common.{ap, ◌∙◌, ◌==◌}
use Rattle.inotree.proofs.InoSets.{single-beside}
use Rattle.inotree.proofs.nonempty_ino_set.NonEmptyInoSet.is_single.Goals as goal

pub returns : goal.returns
returns c = ap (λ n. n == 0) c.len.ensures.len ∙ single-beside c.self.inside.others c.self.inside.one.0 c.args.self.now c.self.view_is c.self.invariant
