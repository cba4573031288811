use Rattle.std.proofs.Common.{◌≤◌, length, vec_len}
use Rattle.cli.specs.Jobs.{work_of}
use Rattle.cli.proofs.Plans.{SoFar}
use Rattle.cli.proofs.plan.read_plan.Given as goal

abbrev pub invariant-loop-text : goal.invariant-loop-text
invariant-loop-text l = record {
  so_far : SoFar (work_of l.plan) l.script l.rest l.number;
  few : vec_len l.plan.jobs ≤ 31;
}

abbrev pub decreases-loop-text : goal.decreases-loop-text
decreases-loop-text l = length l.rest
