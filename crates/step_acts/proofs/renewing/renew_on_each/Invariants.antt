use Rattle.std.proofs.Common.{◌≡◌, length, ◌&&◌}
use Rattle.std.specs.FinSet as set
use Rattle.step_acts.proofs.Common.{permitted}
use Rattle.step_acts.proofs.Renewed.{Along, is_at}
use Rattle.step_acts.specs.Renewing.{has_entry}
use Rattle.step_acts.proofs.renewing.renew_on_each.Given as goal

abbrev pub decreases-inodes : goal.decreases-inodes
decreases-inodes l = length l.walk

abbrev pub invariant-inodes : goal.invariant-inodes
invariant-inodes l = record {
  entries : l.table ≡ record l.fn.table { kept = l.table.kept };
  renewed : Along (permitted l.policy.fs.now l.policy.tree.now l.policy.sessions.now) (λ k. set.contains l.inos k.ino.0 && has_entry l.fn.table.entries k) (is_at l.fn.table.entries l.walk) l.fn.table.kept l.table.kept;
}
