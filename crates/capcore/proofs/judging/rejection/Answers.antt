use Rattle.std.proofs.Common.{sym, ap, ◌∙◌}
use Rattle.std.specs.Option.{option_map}
use Rattle.capcore.proofs.Common.{ByTest, Holder, Operation, Scene, judged, operation_after, operation_before, operation_needs, operation_of, plain}
use Rattle.capcore.proofs.Common.{queue_tests, session_tests}
use Rattle.capcore.proofs.LockRequests.{enqueuing-rejection, operation-for}
use Rattle.capcore.proofs.Rejections.{rejection-behind, rejection-within}
use Rattle.capcore.specs.UnderWay.{event_of, operation_event}
use Rattle.capcore.specs.declared.parts.LockEvent.{LockEvent}
use Rattle.capcore.proofs.judging.rejection.Goals as goal

-- the tests before it is judged, and the one behind
pub returns-in-Some-operation_rejection : goal.returns-in-Some-operation_rejection
returns-in-Some-operation_rejection c = λ known.
    let s : Scene = plain c.args.scene.now in
    let k : Holder = c.in-OfLock.holder in
    let operation : Operation = operation_of c.in-OfLock.operation in
    sym (ap (λ (a : LockEvent). judged s (event_of a)) c.in-OfLock.is ∙ enqueuing-rejection (operation_event k.client k.ino c.in-OfLock.operation) k operation s (operation-for k.client k.ino c.in-OfLock.operation)
    ∙ rejection-within s (session_tests s.sessions k.client.0) (operation_before s k.ino.0 operation) (operation_needs s k.client k.ino.0 operation) (operation_after s k.ino.0 operation) (queue_tests s.locks)
    (sym c.session_refusal.ensures ∙ c.in_default.is) c.in-Some-operation_rejection.rejection (sym c.operation_rejection.ensures ∙ c.in-Some-operation_rejection.is))

pub returns-in_ok-refusal-in-OfLock : goal.returns-in_ok-refusal-in-OfLock
returns-in_ok-refusal-in-OfLock c = λ known.
    let s : Scene = plain c.args.scene.now in
    let k : Holder = c.in-OfLock.holder in
    let operation : Operation = operation_of c.in-OfLock.operation in
    sym (ap (λ (a : LockEvent). judged s (event_of a)) c.in-OfLock.is ∙ enqueuing-rejection (operation_event k.client k.ino c.in-OfLock.operation) k operation s (operation-for k.client k.ino c.in-OfLock.operation)
    ∙ rejection-behind s (session_tests s.sessions k.client.0) (operation_before s k.ino.0 operation) (operation_needs s k.client k.ino.0 operation) (operation_after s k.ino.0 operation) (queue_tests s.locks)
    (sym c.session_refusal.ensures ∙ c.in_default.is) (sym c.operation_rejection.ensures ∙ c.in_default-operation_rejection.is)
    ∙ ap (option_map ByTest) (sym c.enqueue_refusal.ensures ∙ c.in_ok-refusal-in-OfLock.was))
