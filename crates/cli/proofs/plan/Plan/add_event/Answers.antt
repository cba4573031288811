use Rattle.std.proofs.Common.{◌≡◌, List, get_or, ap, rules}
use Rattle.capstep.specs.declared.event.Event.{Event}
use Rattle.cli.specs.declared.plan.Job.{Job}
use Rattle.cli.specs.Jobs.{Calls, calls_by}
use Rattle.cli.proofs.JobLists.{known_gets_event}
use Rattle.cli.proofs.plan.Plan.add_event.Goals as goal

pub returns-clause-ok : goal.returns-clause-ok
returns-clause-ok c =
    let plan = c.args.self.now in
    let old = c.index_mut.result.now in
    let new : Job = record { client = old.client; events = c.push.new.self } in
    let is : old ≡ get_or plan.jobs.items c.args.place old = search rules in
    let same = ap (λ (events : List Event). calls_by old.client events) c.in_ok-push.ensures.items in
    ap (λ (jobs : List Calls). record { first = plan.first.items; threaded = plan.threaded; jobs = jobs }) (known_gets_event c.args.client c.args.event old new plan.jobs.items c.args.place c.requires is same)
