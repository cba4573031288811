use Rattle.std.proofs.Common.{◌≡◌, inr, ap, arith, ◌+◌}
use Rattle.capbits.specs.declared.ids.Ino.{Ino}
use Rattle.inotree.proofs.InoSets.{least-one, least-other, next-others}
use Rattle.inotree.proofs.nonempty_ino_set.NonEmptyInoSet.after.Goals as goal

pub returns-then-self-ino : goal.returns-then-self-ino
returns-then-self-ino c = next-others c.self.inside.others c.self.inside.one.0 c.args.self.now c.self.view_is (c.args.ino.0 + 1) c.after-next.result (omega (arith, c.if-self-ino.true)) c.after-next.ensures

pub returns-in-None : goal.returns-in-None
returns-in-None c = least-one c.self.inside.others c.self.inside.one.0 c.args.self.now c.self.view_is (c.args.ino.0 + 1) (omega (arith, c.if-self-ino.false)) (λ k h _. c.in-None.ensures k h)

pub returns-in-Some : goal.returns-in-Some
returns-in-Some c =
    least-one c.self.inside.others c.self.inside.one.0 c.args.self.now c.self.view_is (c.args.ino.0 + 1) (omega (arith, c.if-self-ino.false)) (λ k h less. c.in-Some.ensures.least k h (omega (arith, less, c.if-self-other.true)))

pub returns-in-Some-2 : goal.returns-in-Some-2
returns-in-Some-2 c =
    let first = c.in-Some.is in
    let second = c.in-Some-2.is in
    let same : c.in-Some.other ≡ c.in-Some-2.other = cc in
    let number = ap (λ (other : Ino). other.0) same in
    least-other c.self.inside.others c.self.inside.one.0 c.args.self.now c.self.view_is (c.args.ino.0 + 1) c.in-Some-2.other.0 (inr (omega (arith, number, c.if-self-other.false))) c.in-Some-2.ensures
