use Rattle.std.proofs.Common.{arith}
use Rattle.texts.specs.ScriptLines.{lines}
use Rattle.cli.specs.Jobs.{StopsAt, no_work, work_of}
use Rattle.cli.proofs.Plans.{handed_on, so_far_more, stopped_at}
use Rattle.cli.proofs.plan.read_plan.Goals as goal

pub overflow_add-number : goal.overflow_add-number
overflow_add-number c = omega (arith, c.loop-text.invariant.so_far.left, c.requires.short)

pub loop-text-smaller : goal.loop-text-smaller
loop-text-smaller c = c.in-Some.ensures.shorter

pub loop-text-preserved : goal.loop-text-preserved
loop-text-preserved c = record {
  so_far = so_far_more (work_of c.loop-text.plan) (work_of c.take_line.new.self) c.args.script.now c.loop-text.rest.now c.in-Some.text.now c.in-Some.behind.now c.loop-text.number
      c.loop-text.invariant.so_far c.in-Some.ensures.lines c.in-Some.ensures.shorter c.in_ok-take_line.ensures.ok;
  few = c.in_ok-take_line.ensures.few;
}

pub returns-in_err-take_line-clause-fault : goal.returns-in_err-take_line-clause-fault
returns-in_err-take_line-clause-fault c =
    handed_on _ (StopsAt no_work 1 (lines c.args.script.now)) c.in_err-take_line.field-0.0 c.from_residual.result c.from_residual.ensures.1
    (stopped_at (work_of c.loop-text.plan) c.args.script.now c.loop-text.rest.now c.in-Some.text.now _ c.loop-text.number c.in_err-take_line.field-0.0 c.loop-text.invariant.so_far c.in-Some.ensures.lines c.in_err-take_line.ensures.err)
