-- One inode where nobody who waits at another may be served: who is served is found among its own requests, and where it has none,
-- nothing stands first in its queues.
use Rattle.std.proofs.Common.{◌≡◌, ℕ, zero, suc, Bool, true, false, cond, not, ◌&&◌, ◌||◌, ◌==◌, Option, Some, None, List, [], ◌∷◌, refl, sym, ap, subst, ◌∙◌}
use Rattle.std.proofs.Common.{Contains, true≢false, arith}
use Rattle.std.specs.List.{find, list_any}
use Rattle.std.specs.Option.{option_map}
use Rattle.std.proofs.lemmas.Bool.{eqb-false, eqb-true}
use Rattle.capbits.specs.declared.cap.Part.{Part}
use Rattle.capbits.specs.declared.ids.Ticket.{Ticket}
use Rattle.locktable.specs.Targets.{target_of}
use Rattle.locktable.specs.declared.states.StableState.{StableState}
use Rattle.locktable.specs.declared.states.LockState.{LockState}
use Rattle.locktable.specs.declared.states.LockState.TheVariants.{Gather, Stable}
use Rattle.lockmachine.specs.declared.moves.Move.{Move}
use Rattle.lockmachine.specs.declared.moves.Move.TheVariants.{Begin, Serve}
use Rattle.lockmachine.specs.declared.moves.QueueScope.{QueueScope}
use Rattle.lockmachine.specs.declared.moves.QueueScope.TheVariants.{Everybody, Here, Nobody}
use Rattle.lockmachine.specs.declared.request.Request.{Request}
use Rattle.lockmachine.specs.declared.wants.Wants.{Wants}
use Rattle.lockmachine.specs.Requests.{first_for, head_of, head_of_operation, part_of_operation, same_part, waits_for}
use Rattle.lockmachine.specs.Locks.{IsLockMap, LockMap, lock_at, request_at}
use Rattle.lockmachine.specs.Scene.{Scene, target_by}
use Rattle.lockmachine.specs.Moves.{first_move, is_first, is_servable, is_served_in, may_begin_in, may_serve, parts, present_state, same_state}
use Rattle.lockmachine.specs.Runs.{ChangesLocksOf}
use Rattle.lockmachine.specs.Cursors.{IsDoneAt, NobodyElsewhere, Suffices, WaitAt, beginning, beginning_by, may_begin_by, may_wait}
use Rattle.lockmachine.specs.Waiters.{queue_if}
use Rattle.lockmachine.proofs.Finding.{find_none}
use Rattle.lockmachine.proofs.Queue.{found_by_number, least_served}
use Rattle.lockmachine.proofs.Waiting.{held-up-unserved}

neither : (a b : Bool) → (a || b) ≡ false → (a ≡ false) × (b ≡ false)
neither true b e = absurd (cc)
neither false b e = (refl, e)

none_any : {T : Type 0} (p : T → Bool) (xs : List T) → list_any p xs ≡ false → (x : T) → Contains xs x → p x ≡ false
none_any p [] none x (k, room, at) = absurd (omega arith)
none_any p (y ∷ ys) none x (zero, room, at) = let e : y ≡ x = at in ap p (sym e) ∙ (neither (p y) (list_any p ys) none).0
none_any p (y ∷ ys) none x (suc k, room, at) = none_any p ys (neither (p y) (list_any p ys) none).1 x (k, omega arith, at)

pub find_same : {T : Type 0} (p r : T → Bool) (xs : List T) → ((x : T) → Contains xs x → p x ≡ r x) → find p xs ≡ find r xs
find_same p r [] same = refl
find_same p r (y ∷ ys) same =
    ap (λ b. cond b (Some y) (find p ys)) (same y (zero, omega arith, refl))
    ∙ ap (λ o. cond (r y) (Some y) o) (find_same p r ys (λ x (inside : Contains ys x). same x (suc inside.0, omega (arith, inside.1), inside.2)))

-- where no request waits at the inode

pub none-here : (locks : LockMap) (ino : ℕ) → list_any (waits_for ino) locks.queue ≡ false → find (λ q. waits_for ino q && may_serve locks q) locks.queue ≡ None
none-here locks ino none = find_none (λ q. waits_for ino q && may_serve locks q) locks.queue (λ q inside. ap (λ b. b && may_serve locks q) (none_any (waits_for ino) locks.queue none q inside))

none-first : (queue : List Request) (ino : ℕ) → list_any (waits_for ino) queue ≡ false → (part : Part) → first_for queue ino part ≡ None
none-first [] ino none part = refl
none-first (q ∷ queue) ino none part =
    ap (λ b. cond (b && same_part (part_of_operation q.operation) part) (Some q) (first_for queue ino part)) (neither (waits_for ino q) (list_any (waits_for ino) queue) none).0
    ∙ none-first queue ino (neither (waits_for ino q) (list_any (waits_for ino) queue) none).1 part

same-target : (queue : List Request) (wants : Wants) (ino : ℕ) → list_any (waits_for ino) queue ≡ false → (part : Part) (state : StableState) → target_by [] wants ino part state ≡ target_by queue wants ino part state
same-target queue wants ino none part state = ap (λ o. target_of part state (head_of o) wants.loner wants.wanted) (sym (none-first queue ino none part))

same-begin : (queue : List Request) (wants : Wants) (ino : ℕ) → list_any (waits_for ino) queue ≡ false → (part : Part) (lock : Option LockState) → may_begin_in [] wants (ino, part) lock ≡ may_begin_in queue wants (ino, part) lock
same-begin queue wants ino none part None = refl
same-begin queue wants ino none part (Some (Stable state)) = ap (λ to. not (same_state to state)) (same-target queue wants ino none part state)
same-begin queue wants ino none part (Some (Gather from to)) = refl

same-beginning : (locks : LockMap) (wants : Wants) (ino : ℕ) → list_any (waits_for ino) locks.queue ≡ false
    → option_map (λ part. beginning_by [] locks wants (ino, part)) (find (λ part. may_begin_in [] wants (ino, part) (lock_at locks ino part)) parts)
    ≡ option_map (λ part. beginning locks wants (ino, part)) (find (λ part. may_begin_by locks wants (ino, part)) parts)
same-beginning locks wants ino none k =
    option_map (λ part. Begin (record { 0 = ino }) part (same-target locks.queue wants ino none part (present_state (lock_at locks ino part)) k))
    (find (λ part. same-begin locks.queue wants ino none part (lock_at locks ino part) k) parts)

-- where it is known whether one may
abbrev begins_if : LockMap → Wants → ℕ → Bool → Option Move
begins_if locks wants ino waits = option_map (λ part. beginning_by (queue_if waits locks.queue) locks wants (ino, part)) (find (λ part. may_begin_in (queue_if waits locks.queue) wants (ino, part) (lock_at locks ino part)) parts)

scope_begins : (locks : LockMap) (wants : Wants) (ino : ℕ) (scope : QueueScope) → Suffices scope locks ino → begins_if locks wants ino (may_wait scope) ≡ begins_if locks wants ino true
scope_begins locks wants ino Everybody is = refl
scope_begins locks wants ino Here is = refl
scope_begins locks wants ino Nobody is = same-beginning locks wants ino is.1

pub scope-beginning : (locks : LockMap) (wants : Wants) (ino : ℕ) (scope : QueueScope) (waits : Bool) → waits ≡ may_wait scope → Suffices scope locks ino
    → begins_if locks wants ino waits ≡ option_map (λ part. beginning locks wants (ino, part)) (find (λ part. may_begin_by locks wants (ino, part)) parts)
scope-beginning locks wants ino scope waits is suffices = ap (begins_if locks wants ino) is ∙ scope_begins locks wants ino scope suffices

-- where nobody who waits at another inode may be served

by_place : (locks : LockMap) (q : Request) (b : Bool) → (b ≡ false → may_serve locks q ≡ false) → (b && may_serve locks q) ≡ may_serve locks q
by_place locks q true away = refl
by_place locks q false away = sym (away refl)

pub served-here : (locks : LockMap) (ino : ℕ) → NobodyElsewhere locks ino → find (λ q. waits_for ino q && may_serve locks q) locks.queue ≡ find (may_serve locks) locks.queue
served-here locks ino nobody = find_same _ _ locks.queue (λ q inside. by_place locks q (waits_for ino q) (nobody q inside))

-- moves at the inode leave it so
pub nobody-kept : (ino : ℕ) (old new : LockMap) → ChangesLocksOf ino old new → NobodyElsewhere old ino → NobodyElsewhere new ino
nobody-kept ino old new changes nobody q inside away =
    let part = part_of_operation q.operation in
    ap (λ queue. is_first queue q && is_servable new q) changes.queue
    ∙ ap (λ o. is_first old.queue q && is_served_in o (head_of_operation q.client q.operation)) (changes.others q.ino.0 part (eqb-false q.ino.0 ino away))
    ∙ nobody q (subst (λ (qs : List Request). Contains qs q) changes.queue inside) away

pub suffices-stays : (scope : QueueScope) (ino : ℕ) (old new : LockMap) → ChangesLocksOf ino old new → Suffices scope old ino → Suffices scope new ino
suffices-stays Everybody ino old new changes is = is
suffices-stays Here ino old new changes is = nobody-kept ino old new changes is
suffices-stays Nobody ino old new changes is = (nobody-kept ino old new changes is.0, ap (list_any (waits_for ino)) changes.queue ∙ is.1)

-- who waits elsewhere is held up
pub nobody-held : (s : Scene) (ino : ℕ) → WaitAt (λ other. other == ino) s → NobodyElsewhere s.locks ino
nobody-held s ino wait q inside away = held-up-unserved s q (wait q inside away)

-- nobody at all may be served
pub nobody-done : (s : Scene) (here ino : ℕ) → IsDoneAt s here → NobodyElsewhere s.locks ino
nobody-done s here ino done q inside away = done.serves q inside

-- the request that is served waits at the inode
pub served-alone : (s : Scene) (ino : ℕ) (ticket : Ticket) → IsLockMap s.locks → NobodyElsewhere s.locks ino → first_move s ≡ Serve ticket
    → (q : Request) → request_at s.locks ticket.0 ≡ Some q → q.ino.0 ≡ ino
served-alone s ino ticket is nobody move q waits =
    let served = least_served s ticket is move in
    let found : request_at s.locks ticket.0 ≡ Some served.0 = subst (λ (t : Ticket). request_at s.locks t.0 ≡ Some served.0) served.1 (found_by_number s.locks served.0 is served.2.waits) in
    let both : Some served.0 ≡ Some q = sym found ∙ waits in
    let same : served.0 ≡ q = cc in
    subst (λ (r : Request). r.ino.0 ≡ ino) same (here served.0 served.2.waits served.2.may)
  where
    here : (r : Request) → Contains s.locks.queue r → may_serve s.locks r ≡ true → r.ino.0 ≡ ino
    here r inside may = elim (r.ino.0 == ino) as (λ b. (r.ino.0 == ino) ≡ b → r.ino.0 ≡ ino) [
      | true ↦ λ is. eqb-true r.ino.0 ino is
      | false ↦ λ away. absurd (true≢false (sym may ∙ nobody r inside away))
    ] refl
