use Rattle.std.proofs.Common.{◌≡◌, drop, fold}
use Rattle.policy_view.specs.Changes.{view_by}
use Rattle.snapshot.specs.Value.{staged_all}
use Rattle.snapshot.proofs.staging.stage_changes.Given as goal

-- the changes that are left lead from what is staged now to where all of them lead
abbrev pub invariant-loop-change : goal.invariant-loop-change
invariant-loop-change l = record {
  desk : l.writer.desk ≡ l.fn.writer.desk;
  view : fold view_by (staged_all l.writer.desk.shown.value (drop l.writer.behind l.writer.log.items)).view (drop l.change-index l.changes) ≡ fold view_by (staged_all l.fn.writer.desk.shown.value (drop l.fn.writer.behind l.fn.writer.log.items)).view l.changes;
}
