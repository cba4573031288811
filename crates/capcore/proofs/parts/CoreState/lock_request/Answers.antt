use Rattle.std.proofs.Common.{Contains, Some, is_some, ◌≡◌, ◌+◌, ◌∷◌, [], length, None, refl, sym, ap, subst, ◌∙◌, arith}
use Rattle.std.proofs.lemmas.List.{length-append}
use Rattle.std.proofs.lemmas.List.Elements.{Contains-push}
use Rattle.std.specs.FinSet as set
use Rattle.capcore.proofs.Begun.{one-begun}
use Rattle.capcore.proofs.Common.{Affected, AffectsOne, AreCounted, Awaits, CountedLocks, Event, Holder, InoSet, IsJudged, IsLockMap, LockMap, Operation}
use Rattle.capcore.proofs.Common.{Request, Scene, StepOutput, Ticket, alike-less, arrival_tests, changes-still, direct, enqueues, found_by_number}
use Rattle.capcore.proofs.Common.{judged_again, next_request, one-counts, one-inode, operation_needs, operation_of, plain, rejection_of, request_at, room-for}
use Rattle.capcore.proofs.Common.{still-there, view_of, waiting_tests, with_request}
use Rattle.capcore.proofs.LockRequests.{below-of_operation, enqueuing-affects, enqueuing-again, enqueuing-direct, enqueuing-rejection, operation-for}
use Rattle.capcore.proofs.LockRequests.{order-of_operation, room-left}
use Rattle.capcore.specs.UnderWay.{operation_event, state_of}
use Rattle.capcore.specs.declared.parts.ReplyDue.TheVariants.{Awaited}
use Rattle.capcore.specs.declared.parts.CoreState.{CoreState}
use Rattle.capcore.proofs.parts.CoreState.lock_request.Goals as goal

pub enqueue_tested-ticket-requires-clause-room : goal.enqueue_tested-ticket-requires-clause-room
enqueue_tested-ticket-requires-clause-room c =
    let s = plain c.args.self.now.scene in
    let k : Holder = c.args.holder in
    let operation : Operation = operation_of c.args.operation in
    let free : rejection_of s (arrival_tests s k.client k.ino.0 operation) (operation_needs s k.client k.ino.0 operation) (waiting_tests s k.ino.0 operation) ≡ None =
    sym (enqueuing-rejection (operation_event k.client k.ino c.args.operation) k operation s (operation-for k.client k.ino c.args.operation)) ∙ c.requires.may.passed in
    room-left s k operation free

pub enqueue_tested-ticket-requires-clause-numbers : goal.enqueue_tested-ticket-requires-clause-numbers
enqueue_tested-ticket-requires-clause-numbers c =
    let left = c.requires.may.numbers in
    let given = left.1 in
    omega (arith, given.last, left.2)

-- it is judged on the tree of its arrival
judged_once : (s : Scene) (k : Holder) (operation : Operation) (locks : LockMap) → locks ≡ with_request s.locks k.client k.ino operation → IsLockMap locks
    → rejection_of s (arrival_tests s k.client k.ino.0 operation) (operation_needs s k.client k.ino.0 operation) (waiting_tests s k.ino.0 operation) ≡ None
    → (ticket : Ticket) → ticket.0 ≡ s.locks.last + 1 → IsJudged (Some ticket) (record s { locks = locks })
judged_once s k operation locks queued order free ticket next = λ t q own there.
    let request : Request = next_request s.locks k.client k.ino operation in
    let same : ticket ≡ t = cc in
    let found = found_by_number locks request order (subst (λ (l : LockMap). Contains l.queue request) (sym queued) (Contains-push s.locks.queue request)) in
    let both : Some request ≡ Some q = sym found ∙ ap (request_at locks) (sym next ∙ ap (λ (n : Ticket). n.0) same) ∙ there in
    let itself : request ≡ q = cc in
    subst (λ (r : Request). judged_again (record s { locks = locks }) r ≡ None) itself (enqueuing-again s k operation free)

pub returns-clause-begun : goal.returns-clause-begun
returns-clause-begun c =
    let p : CoreState = c.args.self.now in
    let k : Holder = c.args.holder in
    let operation : Operation = operation_of c.args.operation in
    let e : Event = operation_event k.client k.ino c.args.operation in
    let may = c.requires.may in
    let counted : CountedLocks = c.enqueue_tested-ticket.new.self in
    let locks : LockMap = counted.locks in
    let ticket = c.enqueue_tested-ticket.result in
    let q : CoreState = record { scene = record p.scene { locks = counted }; messages = c.reserve.new.self } in
    let output : StepOutput = record c.begin.new.self { changes = c.clear.new.self; judged = Some ticket } in
    let all : counted ≡ record p.scene.locks { locks = with_request p.scene.locks.locks k.client k.ino operation } =
    c.enqueue_tested-ticket.ensures.queued ∙ ap (λ o. record p.scene.locks { locks = with_request p.scene.locks.locks k.client k.ino o }) c.in_ok-copy.ensures in
    let queued : locks ≡ with_request p.scene.locks.locks k.client k.ino operation = ap (λ (l : CountedLocks). l.locks) all in
    let by_itself : direct (state_of p) e ≡ enqueues (state_of p) k.client k.ino operation = enqueuing-direct (state_of p) e k operation (operation-for k.client k.ino c.args.operation) may.passed in
    let free : rejection_of (plain p.scene) (arrival_tests (plain p.scene) k.client k.ino.0 operation) (operation_needs (plain p.scene) k.client k.ino.0 operation) (waiting_tests (plain p.scene) k.ino.0 operation) ≡ None =
    sym (enqueuing-rejection e k operation (plain p.scene) (operation-for k.client k.ino c.args.operation)) ∙ may.passed in
    let next = c.enqueue_tested-ticket.ensures.ticket in
    let queue : length locks.queue ≡ length p.scene.locks.locks.queue + 1 =
    ap (λ (l : LockMap). length l.queue) queued ∙ length-append p.scene.locks.locks.queue (next_request p.scene.locks.locks k.client k.ino operation ∷ []) in
    let order : IsLockMap locks = subst IsLockMap (sym queued) (order-of_operation (plain p.scene) k operation may.order free) in
    let begun = c.in_ok-begin.ensures in
    let none = ap length c.clear.ensures.items in
    let one = ap (λ (inos : InoSet). set.len inos) c.of.ensures ∙ one-counts k.ino.0 in
    let left = ap length c.reserve.ensures.items in
    one-begun p q output e k may (enqueues (state_of p) k.client k.ino operation) by_itself (refl, refl) (λ count given. below-of_operation count (state_of p) k operation given)
    (λ i. record (plain p.scene) { locks = queued i }) c.reserve.ensures.items
    (Affected.Inodes c.of.result) (Awaited ticket) (ap set.contains c.of.ensures ∙ one-inode k.ino.0) (ap (λ n. Awaits (record { 0 = n })) next) refl (next, ap (λ (l : LockMap). l.last) queued)
    (subst (λ (l : LockMap). AffectsOne k.ino.0 (state_of p) (record (plain p.scene) { locks = l })) (sym queued) (enqueuing-affects (state_of p) k operation may.whole.0 may.table free)) may.table
    (still-there p.scene.table.entries p.scene.table.entries p.scene.table.kept p.scene.table.kept (λ j f there. ap is_some there) (λ j f there. refl)) may.whole.2.1 (alike-less p.scene.table.entries p.scene.table.entries (λ j f there. (f, there, refl)))
    (subst (AreCounted p.scene.table.entries) (sym all) may.whole.3) order
    (room-for c.begin.new.self output.changes (Some ticket) (c.waiting-waiting.result + 1) (length locks.queue) begun.room (omega (arith, queue, c.waiting-waiting.ensures.waiting)))
    (judged_once (plain p.scene) k operation locks queued order free ticket next)
    (omega (arith, none, one, queue, begun.places, c.clear.ensures.room, c.waiting-waiting.ensures.waiting))
    (omega (arith, queue, left, c.in_default.ensures.ok, c.waiting-waiting.ensures.waiting))
    tt (changes-still output.changes.items (view_of (state_of p)) c.clear.ensures.items)

pub returns-in-Err-clause-whole : goal.returns-in-Err-clause-whole
returns-in-Err-clause-whole c =
    let whole = c.requires.may.whole in
    rw c.reserve.ensures.items (whole.0, omega (arith, c.in-Err.ensures.err, whole.1), whole.2, whole.3)
