use Rattle.std.proofs.Common.{◌≡◌, ◌+◌, Some, take, sym, ap, subst, ◌∙◌, arith}
use Rattle.std.specs.FinMap as map
use Rattle.lockmachine.specs.Counts.{waits_no_longer}
use Rattle.lockmachine.specs.Moves.{parts}
use Rattle.lockmachine.proofs.GivesUp.{GivesUp, gives-all, gives-first, gives-less, gives-none, gives-passed}
use Rattle.lockmachine.proofs.locks.Locks.gives_up.Goals as goal
use Rattle.lockmachine.proofs.locks.Locks.gives_up.Goals.{else-waits_no_longer, then-waits_no_longer}

pub loop-part-init : goal.loop-part-init
loop-part-init c = gives-first c.args.row c.args.left c.args.self.now

pub loop-part-preserved : goal.loop-part-preserved
loop-part-preserved c =
    let row = c.args.row in
    let left = c.args.left in
    let first = c.args.self.now in
    let now = c.loop-part.self in
    let four = c.in-Some.locks in
    let has : map.get first.locks.states row.holder.ino.0 ≡ Some four = sym c.of_ino.ensures ∙ c.in-Some.is in
    let waits = sym (c.waits_no_longer.ensures ∙ ap (waits_no_longer _ row left) c.of_part.ensures) in
    elim c.if-waits_no_longer.branch [
      | then-waits_no_longer w ↦
          subst (λ n. GivesUp row left first n (take (c.loop-part.part-index + 1) parts)) (sym (w.self-is ∙ w.acked.ensures))
          (gives-less row left first now c.loop-part.part-index _ four c.loop-part-test.true has (waits ∙ w.if-waits_no_longer.true) c.loop-part.invariant)
      | else-waits_no_longer w ↦
          subst (λ n. GivesUp row left first n (take (c.loop-part.part-index + 1) parts)) (sym w.self-is)
          (gives-passed row left first now c.loop-part.part-index _ four c.loop-part-test.true has (waits ∙ w.if-waits_no_longer.false) c.loop-part.invariant)
    ]

pub returns-in_default-clause-counts : goal.returns-in_default-clause-counts
returns-in_default-clause-counts c = gives-none c.args.row c.args.left c.args.self.now (sym c.of_ino.ensures ∙ c.in_default.is)

pub returns-clause-counts : goal.returns-clause-counts
returns-clause-counts c =
    let now = c.loop-part.self in
    let last : c.loop-part.part-index ≡ 4 = omega arith in
    gives-all c.args.row c.args.left c.args.self.now now (subst (λ n. GivesUp c.args.row c.args.left c.args.self.now now (take n parts)) last c.loop-part.invariant)

pub returns-clause-locks : goal.returns-clause-locks
returns-clause-locks c = c.loop-part.invariant.locks
