-- Who waits outside of some inodes is held up by a gather that is open, and stays so.
use Rattle.std.proofs.Common.{◌≡◌, ◌≢◌, ℕ, Bool, true, false, not, ◌&&◌, Option, Some, None, List, [], ◌∷◌, filter, refl, sym, ap, subst, ◌∙◌, Contains}
use Rattle.std.proofs.Common.{true≢false}
use Rattle.std.specs.Prelude.{IsTrue}
use Rattle.std.specs.Cmp.{nat_eq_equiv}
use Rattle.std.specs.List.{find}
use Rattle.std.specs.Option.{option_map_or}
use Rattle.capbits.specs.declared.cap.Part.{Part}
use Rattle.capbits.specs.declared.ids.Ticket.{Ticket}
use Rattle.inotree.specs.Tree.{Nodes}
use Rattle.locktable.specs.declared.states.StableState.{StableState}
use Rattle.locktable.specs.declared.states.LockState.{LockState}
use Rattle.locktable.specs.declared.states.LockState.TheVariants.{Gather, Stable}
use Rattle.lockmachine.specs.declared.request.Request.{Request}
use Rattle.lockmachine.specs.declared.moves.Move.{Move}
use Rattle.lockmachine.specs.declared.moves.Move.TheVariants.{Begin, End, Serve, Settled}
use Rattle.lockmachine.specs.Requests.{first_for, head_of_operation, is_for, is_numbered, part_of_operation, same_part}
use Rattle.lockmachine.specs.Locks.{IsLockMap, LockMap, lock_at, request_at, without_request}
use Rattle.lockmachine.specs.Scene.{Scene, wanted_in_all}
use Rattle.lockmachine.specs.Moves.{IsAtRestOutside, IsLockAtRest, LockId, coming_state, first_move, is_open, is_served_in, may_begin_in, may_end_in, may_serve}
use Rattle.lockmachine.specs.Moves.{moved, present_state, with_moved}
use Rattle.lockmachine.specs.Runs.{Runs, is_of_lock}
use Rattle.lockmachine.specs.Cursors.{IsHeldUp, WaitAt}
use Rattle.lockmachine.proofs.Finding.{contains-filter, fails_at}
use Rattle.lockmachine.proofs.Moving.{IsMove, first_is, with_lock-each}
use Rattle.lockmachine.proofs.Queue.{found_by_number, least_served}

-- ---- where the locks are quiet, who waits is held up

-- who waits for a lock has a first to wait for it
some_first : (p : Request → Bool) (qs : List Request) (q : Request) → Contains qs q → p q ≡ true → find p qs ≢ None
some_first p qs q inside passes none = true≢false (sym passes ∙ fails_at p qs none q inside)

for_itself : (q : Request) → is_for q.ino.0 (part_of_operation q.operation) q ≡ true
for_itself q = rw (nat_eq_equiv.refl q.ino.0) (itself (part_of_operation q.operation))
  where
    itself : (part : Part) → same_part part part ≡ true
    itself part = nat_eq_equiv.refl _

pub resting-waits-at : (at : ℕ → Bool) (s : Scene) → IsAtRestOutside at s → WaitAt at s
resting-waits-at at s resting q inside off =
    let part = part_of_operation q.operation in
    let first = some_first (is_for q.ino.0 part) s.locks.queue q inside (for_itself q) in
    held first (lock_at s.locks q.ino.0 part) refl (resting.each_other q.ino.0 part off)
  where
    held : first_for s.locks.queue q.ino.0 (part_of_operation q.operation) ≢ None → (o : Option LockState) → lock_at s.locks q.ino.0 (part_of_operation q.operation) ≡ o
        → IsLockAtRest s q.ino.0 (part_of_operation q.operation) o → IsHeldUp s q
    held first None is none = absurd (first none)
    held first (Some (Stable state)) is stays = absurd (first stays.1)
    held first (Some (Gather from to)) is stays = record { from = from; to = to; gathers = is; is_held = stays }

and_false : (b : Bool) → (b && false) ≡ false
and_false true = refl
and_false false = refl

pub held-up-unserved : (s : Scene) (q : Request) → IsHeldUp s q → may_serve s.locks q ≡ false
held-up-unserved s q held =
    let first = option_map_or (is_numbered q.ticket.0) (first_for s.locks.queue q.ino.0 (part_of_operation q.operation)) false in
    ap (λ o. first && is_served_in o (head_of_operation q.client q.operation)) held.gathers ∙ and_false first

-- and so outside of more
pub waits-wider : (at wider : ℕ → Bool) (s : Scene) → ((q : ℕ) → wider q ≡ false → at q ≡ false) → WaitAt at s → WaitAt wider s
waits-wider at wider s more wait q inside off = wait q inside (more q.ino.0 off)

-- ---- moves between two servings leave them so

-- a move that begins or ends a gather leaves the queue and the last number
pub queue-moved : (locks : LockMap) (step : Move) → IsTrue (is_of_lock step) → ((moved locks step).queue ≡ locks.queue) × ((moved locks step).last ≡ locks.last)
queue-moved locks (Begin ino part to) of_lock = (refl, refl)
queue-moved locks (End ino part) of_lock = (refl, refl)
queue-moved locks (Serve ticket) of_lock = absurd (true≢false (sym of_lock))
queue-moved locks Settled of_lock = absurd (true≢false (sym of_lock))

-- the lock is in a gather that is open
abbrev IsOpenGather : Scene → LockId → StableState → StableState → Option LockState → Type 0
IsOpenGather s at from to o = (is_open s at.0 at.1 to ≡ true) × (o ≡ Some (Gather from to))

begun_not : (s : Scene) (at : LockId) (from to : StableState) (o : Option LockState) → IsOpenGather s at from to o → may_begin_in s.locks.queue (wanted_in_all s at.0) at o ≢ true
begun_not s at from to o held may = true≢false (sym may ∙ ap (may_begin_in s.locks.queue (wanted_in_all s at.0) at) held.1)

ended_not : (s : Scene) (at : LockId) (from to : StableState) (o : Option LockState) → IsOpenGather s at from to o → may_end_in s.table at o ≢ true
ended_not s at from to o held may = true≢false (sym may ∙ ap (may_end_in s.table at) held.1 ∙ ap not held.0)

-- a move leaves it so
open-moved : (s : Scene) (step : Move) → IsMove s step → IsTrue (is_of_lock step) → (at : LockId) (from to : StableState)
    → IsOpenGather s at from to (lock_at s.locks at.0 at.1) → lock_at (moved s.locks step) at.0 at.1 ≡ Some (Gather from to)
open-moved s (Begin ino part goes) is of_lock at from to =
    with_lock-each s.locks ino.0 part (Gather (present_state (lock_at s.locks ino.0 part)) goes)
    (λ b (p : LockId) o. IsOpenGather s p from to (lock_at s.locks p.0 p.1) → o ≡ Some (Gather from to))
    (λ held. absurd (begun_not s (ino.0, part) from to (lock_at s.locks ino.0 part) held is.0)) (λ p held. held.1) at
open-moved s (End ino part) is of_lock at from to =
    with_lock-each s.locks ino.0 part (Stable (coming_state (lock_at s.locks ino.0 part)))
    (λ b (p : LockId) o. IsOpenGather s p from to (lock_at s.locks p.0 p.1) → o ≡ Some (Gather from to))
    (λ held. absurd (ended_not s (ino.0, part) from to (lock_at s.locks ino.0 part) held is)) (λ p held. held.1) at
open-moved s (Serve ticket) is of_lock at from to = absurd (true≢false (sym of_lock))
open-moved s Settled is of_lock at from to = absurd (true≢false (sym of_lock))

held-moved : (s : Scene) (step : Move) → IsMove s step → IsTrue (is_of_lock step) → (q : Request) → IsHeldUp s q → IsHeldUp (with_moved s step) q
held-moved s step is of_lock q held = record {
  from = held.from;
  to = held.to;
  gathers = open-moved s step is of_lock (q.ino.0, part_of_operation q.operation) held.from held.to (held.is_held, held.gathers);
  is_held = held.is_held;
}

pub waits-stay-at : (at : ℕ → Bool) (old : Scene) (steps : List Move) (new : Scene) → Runs old steps new → WaitAt at old → WaitAt at new
waits-stay-at at old [] new is wait = subst (WaitAt at) (sym is) wait
waits-stay-at at old (step ∷ steps) new (first, of_lock, rest) wait =
    waits-stay-at at (with_moved old step) steps new rest (λ q inside off.
    (let was : Contains old.locks.queue q = subst (λ (qs : List Request). Contains qs q) (queue-moved old.locks step of_lock).0 inside in
    held-moved old step (subst (IsMove old) first (first_is old)) of_lock q (wait q was off)))

-- ---- so do requests that are taken out

waits-fewer : (at : ℕ → Bool) (s : Scene) (tree : Nodes) (p : Request → Bool) → WaitAt at s → WaitAt at (record s { tree = tree; locks = record s.locks { queue = filter p s.locks.queue } })
waits-fewer at s tree p wait q inside off =
    let held = wait q (contains-filter p s.locks.queue q inside) off in
    record { from = held.from; to = held.to; gathers = held.gathers; is_held = held.is_held }

pub waits-less-at : (at : ℕ → Bool) (s : Scene) (tree : Nodes) (ticket : ℕ) → WaitAt at s → WaitAt at (record s { tree = tree; locks = without_request s.locks ticket })
waits-less-at at s tree ticket = waits-fewer at s tree (λ q. not (is_numbered ticket q))

-- ---- who is served

-- a request that may be served waits at one of the inodes
may-at : (at : ℕ → Bool) (s : Scene) (q : Request) → WaitAt at s → Contains s.locks.queue q → may_serve s.locks q ≡ true → at q.ino.0 ≡ true
may-at at s q wait inside may = elim (at q.ino.0) as (λ b. at q.ino.0 ≡ b → b ≡ true) [
  | true ↦ λ e. refl
  | false ↦ λ e. absurd (true≢false (sym may ∙ held-up-unserved s q (wait q inside e)))
] refl

pub served-at : (at : ℕ → Bool) (s : Scene) (ticket : Ticket) → IsLockMap s.locks → WaitAt at s → first_move s ≡ Serve ticket
    → (q : Request) × (request_at s.locks ticket.0 ≡ Some q) × Contains s.locks.queue q × (at q.ino.0 ≡ true) × (q.ticket ≡ ticket)
served-at at s ticket is wait move =
    let served = least_served s ticket is move in
    let q = served.0 in
    let first = served.2 in
    let found = subst (λ (t : Ticket). request_at s.locks t.0 ≡ Some q) served.1 (found_by_number s.locks q is first.waits) in
    (q, found, first.waits, may-at at s q wait first.waits first.may, served.1)
