use Rattle.std.proofs.Common.{◌≡◌, ◌≤◌, ◌++◌, take, vec_capacity}
use Rattle.step_acts.proofs.Dropped.{dropped_among}
use Rattle.step_acts.proofs.session_end.drop_requests.Given as goal

abbrev pub invariant-loop-request : goal.invariant-loop-request
invariant-loop-request l = record {
  listed : l.dropped.items ≡ l.fn.dropped.items ++ dropped_among l.client (take l.request-index l.fn.locks.locks.queue);
  room : vec_capacity l.fn.dropped ≤ vec_capacity l.dropped;
}
