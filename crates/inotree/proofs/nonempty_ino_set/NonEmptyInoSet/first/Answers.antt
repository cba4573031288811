use Rattle.std.proofs.Common.{arith, inr}
use Rattle.inotree.proofs.InoSets.{least-one, least-other}
use Rattle.inotree.proofs.nonempty_ino_set.NonEmptyInoSet.first.Goals as goal

pub returns-in-None : goal.returns-in-None
returns-in-None c = least-one c.self.inside.others c.self.inside.one.0 c.args.self.now c.self.view_is 0 (omega arith) (λ k h _. c.in-None.ensures k h)

pub returns-in-Some : goal.returns-in-Some
returns-in-Some c = least-one c.self.inside.others c.self.inside.one.0 c.args.self.now c.self.view_is 0 (omega arith) (λ k h less. c.in-Some.ensures.least k h (omega (arith, less, c.if-self-other.true)))

pub returns-in-Some-2 : goal.returns-in-Some-2
returns-in-Some-2 c = least-other c.self.inside.others c.self.inside.one.0 c.args.self.now c.self.view_is 0 c.in-Some.other.0 (inr c.if-self-other.false) c.in-Some.ensures
