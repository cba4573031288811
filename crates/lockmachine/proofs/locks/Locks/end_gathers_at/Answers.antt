use Rattle.std.proofs.Common.{◌≡◌, ◌+◌, take, sym, subst, ◌∙◌, arith}
use Rattle.lockmachine.specs.Moves.{parts}
use Rattle.lockmachine.proofs.Counted.{EndsCounted, ends-ended, ends-first, ends-passed}
use Rattle.lockmachine.proofs.EndsFirst.{EndsSoFar, all_ended, ends_little}
use Rattle.lockmachine.proofs.locks.Locks.end_gathers_at.Goals as goal
use Rattle.lockmachine.proofs.locks.Locks.end_gathers_at.Goals.{else-may_end_at, then-may_end_at}

pub loop-part-init : goal.loop-part-init
loop-part-init c = ends-first c.args.self.now c.args.ino.0

pub loop-part-preserved : goal.loop-part-preserved
loop-part-preserved c =
    let first = c.args.self.now in
    let now = c.loop-part.self in
    elim c.if-may_end_at.branch [
      | then-may_end_at w ↦
          ends-ended first now _ c.args.ino.0 c.loop-part.part-index _ c.loop-part-test.true c.loop-part.invariant (sym c.may_end_at.ensures ∙ w.if-may_end_at.true) (w.self-is ∙ w.make.ensures)
      | else-may_end_at w ↦
          subst (λ n. EndsCounted first n c.args.ino.0 (take (c.loop-part.part-index + 1) parts)) (sym w.self-is)
          (ends-passed first now c.args.ino.0 c.loop-part.part-index _ c.loop-part-test.true c.loop-part.invariant (sym c.may_end_at.ensures ∙ w.if-may_end_at.false))
    ]

pub returns-clause-ends : goal.returns-clause-ends
returns-clause-ends c = λ fs tree sessions table are below.
    ends_little table c.args.self.now.locks c.loop-part.self.locks c.args.ino.0 (take c.loop-part.part-index parts) (c.loop-part.invariant.so_far table are below) fs tree sessions

pub returns-clause-done : goal.returns-clause-done
returns-clause-done c = λ table are below.
    let last : c.loop-part.part-index ≡ 4 = omega arith in
    all_ended table c.args.self.now.locks c.loop-part.self.locks c.args.ino.0
    (subst (λ n. EndsSoFar table c.args.self.now.locks c.loop-part.self.locks c.args.ino.0 (take n parts)) last (c.loop-part.invariant.so_far table are below))

pub returns-clause-counted : goal.returns-clause-counted
returns-clause-counted c = c.loop-part.invariant.counted

pub returns-clause-elsewhere : goal.returns-clause-elsewhere
returns-clause-elsewhere c = c.loop-part.invariant.elsewhere

pub returns-clause-counts : goal.returns-clause-counts
returns-clause-counts c = c.loop-part.invariant.counts
