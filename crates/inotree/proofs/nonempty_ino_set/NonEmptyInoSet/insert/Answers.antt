use Rattle.std.proofs.Common.{sym, ap, ◌∙◌}
use Rattle.std.specs.FinSet as set
use Rattle.inotree.proofs.InoSets.{apart-tried, insert-one, insert-tried}
use Rattle.inotree.proofs.nonempty_ino_set.NonEmptyInoSet.insert.Goals as goal

pub returns-then-ino-self-clause-ok : goal.returns-then-ino-self-clause-ok
returns-then-ino-self-clause-ok c = insert-one c.self.inside.others c.self.inside.one.0 c.args.self.now c.self.view_is ∙ ap (set.insert c.args.self.now) (sym c.if-ino-self.true)

pub invariant_of-self : goal.invariant_of-self
invariant_of-self c =
    apart-tried c.self.inside.others c.insert.new.self c.self.inside.one.0 c.args.ino.0 c.insert.result c.if-ino-self.false c.insert.ensures.ok c.insert.ensures.err c.self.invariant

pub returns-clause-ok : goal.returns-clause-ok
returns-clause-ok c = insert-tried c.self.inside.others c.self.inside.one.0 c.args.self.now c.self.view_is c.args.ino.0 c.insert.new.self c.insert.result c.insert.ensures.ok
