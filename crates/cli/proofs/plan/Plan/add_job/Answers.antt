use Rattle.std.proofs.Common.{List, map, inr, refl, ap, ◌∙◌, arith}
use Rattle.cli.specs.declared.plan.Job.{Job}
use Rattle.cli.specs.Jobs.{Calls, calls_of}
use Rattle.cli.proofs.JobLists.{is_unknown, new_gets_job}
use Rattle.cli.proofs.plan.Plan.add_job.Goals as goal

pub returns-then-len-eq-MAX_CLIENTS-clause-err : goal.returns-then-len-eq-MAX_CLIENTS-clause-err
returns-then-len-eq-MAX_CLIENTS-clause-err c =
    inr (refl, is_unknown c.args.client c.args.self.now.jobs.items c.requires.none, omega (arith, c.len.ensures, c.if-len-eq-MAX_CLIENTS.true))

pub returns-clause-ok : goal.returns-clause-ok
returns-clause-ok c =
    let plan = c.args.self.now in
    let jobs = ap (λ (xs : List Job). map calls_of xs) c.in_ok-push.ensures.items ∙ new_gets_job c.args.client c.args.event c.in_ok-job.job plan.jobs.items c.requires.none c.in_ok-job.ensures in
    ap (λ (jobs : List Calls). record { first = plan.first.items; threaded = plan.threaded; jobs = jobs }) jobs
