use Rattle.std.proofs.Common.{length, ◌==◌}
use Rattle.step_acts.proofs.Common.{permitted}
use Rattle.step_acts.proofs.Onward.{onward}
use Rattle.step_acts.proofs.Renewed.{passing}
use Rattle.step_acts.proofs.Walking.{Walking}
use Rattle.step_acts.proofs.renewing.renew_client.Given as goal

abbrev pub decreases-holders : goal.decreases-holders
decreases-holders l = length (onward (passing (λ k. k.client.0 == l.fn.client.0) l.fn.table.entries) l.next)

abbrev pub invariant-holders : goal.invariant-holders
invariant-holders l = Walking (λ k. k.client.0 == l.fn.client.0) (permitted l.policy.fs.now l.policy.tree.now l.policy.sessions.now) l.fn.table l.table l.next
