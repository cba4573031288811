use Rattle.std.proofs.Common.{◌≡◌, ◌+◌, ◌≤◌, ◌++◌, List, filter, not, length, take, ap, ◌∙◌, arith, length-append}
use Rattle.std.proofs.lemmas.List.{take_all}
use Rattle.lockmachine.specs.Counts.{CountedLocks}
use Rattle.step_acts.proofs.Common.{Request, is_of_client}
use Rattle.step_acts.proofs.Dropped.{dropped-count, dropped-few, dropped_among}
use Rattle.step_acts.proofs.session_end.drop_requests.Goals as goal

pub unreachable-requires : goal.unreachable-requires
unreachable-requires c =
    let queue : List Request = c.args.locks.now.locks.queue in
    let all : length c.requests-request-items.result.now ≡ length queue = ap length c.requests-request-items.ensures.requests in
    let fits : c.loop-request.request-index ≤ length queue = omega (arith, all, c.loop-request-test.true) in
    let listed = ap length c.loop-request.invariant.listed ∙ length-append c.args.dropped.now.items (dropped_among c.args.client (take c.loop-request.request-index queue)) in
    let few = dropped-few c.args.client queue c.loop-request.request-index fits in
    omega (arith, all, listed, few, c.loop-request-test.true, c.loop-request.invariant.room, c.requires.room, c.in_default.ensures.full)

pub returns-clause-room : goal.returns-clause-room
returns-clause-room c =
    let queue : List Request = c.args.locks.now.locks.queue in
    let all : length c.requests-request-items.result.now ≡ length queue = ap length c.requests-request-items.ensures.requests in
    let whole : take c.loop-request.request-index queue ≡ queue = take_all c.loop-request.request-index queue (omega (arith, all, c.loop-request-test.false)) in
    let listed : length c.loop-request.dropped.items ≡ length c.args.dropped.now.items + length (dropped_among c.args.client queue) =
    ap length (c.loop-request.invariant.listed ∙ ap (λ (qs : List Request). c.args.dropped.now.items ++ dropped_among c.args.client qs) whole)
    ∙ length-append c.args.dropped.now.items (dropped_among c.args.client queue) in
    let left : length c.drop_requests_of.new.self.locks.queue ≡ length (filter (λ q. not (is_of_client c.args.client q)) queue) = ap (λ (l : CountedLocks). length l.locks.queue) c.drop_requests_of.ensures in
    let count = dropped-count c.args.client queue in
    omega (arith, listed, left, count, c.loop-request.invariant.room, c.requires.room)
