use Rattle.std.proofs.Common.{sym, ap, ◌∙◌, ◌+◌}
use Rattle.inotree.proofs.InoSets.{len-beside}
use Rattle.inotree.proofs.nonempty_ino_set.NonEmptyInoSet.len.Goals as goal

pub returns-clause-len : goal.returns-clause-len
returns-clause-len c = ap (λ n. n + 1) c.len.ensures.len ∙ sym (len-beside c.self.inside.others c.self.inside.one.0 c.args.self.now c.self.view_is c.self.invariant)
