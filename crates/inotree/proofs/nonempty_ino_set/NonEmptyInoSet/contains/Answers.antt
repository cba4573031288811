use Rattle.std.proofs.Common.{◌||◌, sym, ap, ◌∙◌}
use Rattle.std.proofs.lemmas.Bool.{eq-eqb, ne_eqb}
use Rattle.std.specs.Cmp.{unsigned_tied}
use Rattle.std.specs.FinSet as set
use Rattle.inotree.proofs.InoSets.{at-beside}
use Rattle.inotree.proofs.nonempty_ino_set.NonEmptyInoSet.contains.Goals as goal

pub returns-then-ino-self : goal.returns-then-ino-self
returns-then-ino-self c =
    let is = eq-eqb c.args.ino.0 c.self.inside.one.0 c.if-ino-self.true in
    is ∙ sym (at-beside c.self.inside.others c.self.inside.one.0 c.args.self.now c.self.view_is c.args.ino.0 ∙ ap (λ b. b || set.contains c.self.inside.others c.args.ino.0) (unsigned_tied c.args.ino.0 c.self.inside.one.0 ∙ is))

pub returns-else-ino-self : goal.returns-else-ino-self
returns-else-ino-self c =
    let apart = ne_eqb c.args.ino.0 c.self.inside.one.0 c.if-ino-self.false in
    c.contains.ensures
    ∙ sym (at-beside c.self.inside.others c.self.inside.one.0 c.args.self.now c.self.view_is c.args.ino.0 ∙ ap (λ b. b || set.contains c.self.inside.others c.args.ino.0) (unsigned_tied c.args.ino.0 c.self.inside.one.0 ∙ apart))
