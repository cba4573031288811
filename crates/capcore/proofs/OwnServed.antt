-- A request that is served in the step that brought it is never denied or refused: it was let wait, and nothing is served before
-- it, so that the tree is as it was.
use Rattle.std.proofs.Common.{◌≡◌, ℕ, Bool, true, false, ◌&&◌, ◌==◌, cond, Option, Some, None, List, [], ◌∷◌, ◌++◌, refl, sym, ap, subst, ◌∙◌, Contains}
use Rattle.std.proofs.Common.{true≢false, unwrap_or, arith}
use Rattle.std.proofs.lemmas.Bool.{eqb-true, true_from_ne_false}
use Rattle.std.proofs.lemmas.List.Elements.{Contains-push}
use Rattle.std.proofs.lemmas.List.Folds.{find-append}
use Rattle.std.specs.Cmp.{nat_eq_equiv}
use Rattle.std.specs.List.{find}
use Rattle.std.specs.Option.{option_map_or}
use Rattle.capbits.specs.Sets.{and_parts}
use Rattle.lockmachine.proofs.Exact.{begins_not, ends_not, serves_not, settled}
use Rattle.lockmachine.proofs.Moving.{IsMove, first_is}
use Rattle.lockmachine.proofs.Queue.{least_served, moved-stays}
use Rattle.lockmachine.proofs.Rest.{same_part_is}
use Rattle.capstep.specs.Serving.{passed_as}
use Rattle.lockmachine.specs.Moves.{IsAtRest, begun_locks, gathered_locks, is_first, is_servable, may_begin, may_end, may_serve}
use Rattle.lockmachine.specs.Requests.{part_of_operation, part_place, same_part}
use Rattle.capcore.proofs.Common.{As_judged, Began, Begin, ClientId, End, Gather, Gathered, Ino, IsLockAtRest, IsLockMap, LockId, LockMap, LockState, Made}
use Rattle.capcore.proofs.Common.{MakesAll, MayEndAs, Operation, Outcome, Part, Rejection, Reply, Request, Scene, Serve, Served, Stable, Ticket}
use Rattle.capcore.proofs.Common.{Without_memory, awaited_as, coming_state, ended_in, first_for, first_move, found_by_number, is_at, is_for, is_numbered}
use Rattle.capcore.proofs.Common.{is_of_ticket, is_rejection, judged_again, lock_at, next_request, no_moves, outcome_reply, outcome_unless, present_state}
use Rattle.capcore.proofs.Common.{with_lock, with_lock-each, with_request}

-- ---- how a request ends that nothing rejects

module _ (ticket : Ticket) where
  abbrev replied : Outcome → Reply
  replied o = unwrap_or (outcome_reply o) (Reply.Waiting ticket)

  passed-unrejected : (s : Scene) (ino : ℕ) (operation : Operation) → is_rejection (replied (passed_as s ino operation)) ≡ false
  passed-unrejected s ino operation = grind arith

  -- it is neither denied nor refused
  unrejected : (s : Scene) (q : Request) (o : Outcome) → judged_again s q ≡ None → MayEndAs s q o → is_rejection (replied o) ≡ false
  unrejected s q o free (As_judged) = ap (λ (j : Option Rejection). is_rejection (replied (outcome_unless s q j))) free ∙ passed-unrejected s q.ino.0 q.operation
  unrejected s q o free (Without_memory nothing takes) = refl

-- ---- a request that has just come to wait

-- the queue is still this, and no lock has moved but this one
record IsMovedAlone (old : Scene) (queue : List Request) (ino : ℕ) (part : Part) (locks : LockMap) : Type 0 where
  same_queue : locks.queue ≡ queue
  others : (id : LockId) → is_at ino part id ≡ false → lock_at locks id.0 id.1 ≡ lock_at old.locks id.0 id.1
  order : IsLockMap locks

module _ (old : Scene) (client : ClientId) (inode : Ino) (operation : Operation) (rest : IsAtRest old) where
  abbrev q : Request
  q = next_request old.locks client inode operation

  abbrev ino : ℕ
  ino = inode.0

  abbrev part : Part
  part = part_of_operation operation

  abbrev queue : List Request
  queue = old.locks.queue ++ q ∷ []

  -- the scene with these locks
  abbrev now : LockMap → Scene
  now locks = record old { locks = locks }

  -- nothing is served yet, and no lock has moved but the one that it waits for
  abbrev IsAlone : LockMap → Type 0
  IsAlone locks = IsMovedAlone old queue ino part locks

  -- ---- who is first for a lock

  -- and for no other
  for_no_other : (id : LockId) → is_at ino part id ≡ false → is_for id.0 id.1 q ≡ false
  for_no_other id off = (λ i. nat_eq_equiv.symm ino id.0 i && nat_eq_equiv.symm (part_place part) (part_place id.1) i) ∙ off

  its_lock : (i : ℕ) (p : Part) → is_at ino part (i, p) ≡ true → (i ≡ ino) × (p ≡ part)
  its_lock i p here = let both = and_parts (i == ino) (same_part p part) here in (eqb-true i ino both.0, same_part_is p part both.1)

  first_elsewhere : (id : LockId) → is_at ino part id ≡ false → first_for queue id.0 id.1 ≡ first_for old.locks.queue id.0 id.1
  first_elsewhere id off = grind (arith, find-append, for_no_other)

  first_here : first_for old.locks.queue ino part ≡ None → first_for queue ino part ≡ Some q
  first_here nobody = grind (arith, find-append)

  -- ---- every other lock is quiet

  module _ (locks : LockMap) (alone : IsAlone locks) where
    resting-other : (id : LockId) → is_at ino part id ≡ false → IsLockAtRest (now locks) id.0 id.1 (lock_at locks id.0 id.1)
    resting-other id off = grind (arith, first_elsewhere)

    -- so what moves is its own
    only_here : (p : LockId → Bool) → ((id : LockId) → is_at ino part id ≡ false → p id ≡ false) → (id : LockId) → p id ≡ true → is_at ino part id ≡ true
    only_here p elsewhere id passes = true_from_ne_false (is_at ino part id) (λ e. true≢false (sym passes ∙ elsewhere id e))

    begins_here : (id : LockId) → may_begin (now locks) id ≡ true → is_at ino part id ≡ true
    begins_here = only_here (may_begin (now locks)) (λ id off. begins_not (now locks) id (lock_at locks id.0 id.1) (resting-other id off))

    ends_here : (id : LockId) → may_end (now locks) id ≡ true → is_at ino part id ≡ true
    ends_here = only_here (may_end (now locks)) (λ id off. ends_not (now locks) id (lock_at locks id.0 id.1) (resting-other id off))

    -- and a move of it leaves it alone
    still_alone : (i : ℕ) (p : Part) (lock : LockState) → is_at ino part (i, p) ≡ true → IsLockMap (with_lock locks i p lock) → IsAlone (with_lock locks i p lock)
    still_alone i p lock here order = record { same_queue = alone.same_queue; others = λ id off. stays id off ∙ alone.others id off; order = order }
      where
        same_id : (id : LockId) → is_at i p id ≡ is_at ino part id
        same_id id = let same = its_lock i p here in λ k. is_at (same.0 k) (same.1 k) id

        stays : (id : LockId) → is_at ino part id ≡ false → lock_at (with_lock locks i p lock) id.0 id.1 ≡ lock_at locks id.0 id.1
        stays id off =
            with_lock-each locks i p lock (λ b (id : LockId) o. b ≡ false → o ≡ lock_at locks id.0 id.1) (λ e. absurd (true≢false e)) (λ id e. refl) id
            (same_id id ∙ off)

    -- ---- what is served first

    module _ (nobody : first_for old.locks.queue ino part ≡ None) where
      of_it : (r : Request) → may_serve locks r ≡ true → is_at ino part (r.ino.0, part_of_operation r.operation) ≡ true
      of_it r may = true_from_ne_false (is_at ino part (r.ino.0, part_of_operation r.operation))
          (λ e. true≢false (sym may ∙ serves_not (now locks) r (lock_at locks r.ino.0 (part_of_operation r.operation)) (resting-other (r.ino.0, part_of_operation r.operation) e)))

      its_number : (r : Request) → may_serve locks r ≡ true → q.ticket.0 ≡ r.ticket.0
      its_number r may =
          let same = its_lock r.ino.0 (part_of_operation r.operation) (of_it r may) in
          let first = (and_parts (is_first locks.queue r) (is_servable locks r) may).0 in
          eqb-true q.ticket.0 r.ticket.0
          (sym
          (ap (λ rs. option_map_or (is_numbered r.ticket.0) (first_for rs r.ino.0 (part_of_operation r.operation)) false) alone.same_queue
          ∙ (λ k. option_map_or (is_numbered r.ticket.0) (first_for queue (same.0 k) (same.1 k)) false)
          ∙ ap (λ o. option_map_or (is_numbered r.ticket.0) o false) (first_here nobody))
          ∙ first)

      -- it is the request itself
      served-itself : (r : Request) → first_move (now locks) ≡ Serve r.ticket → find (is_numbered r.ticket.0) locks.queue ≡ Some r → Contains locks.queue q → r ≡ q
      served-itself r first found inside = grind (arith, least_served, its_number, found_by_number)

  -- ---- the step

  abbrev NotRejected : List Made → Type 0
  NotRejected moves = is_rejection (awaited_as q.ticket (find (is_of_ticket q.ticket) (ended_in moves))) ≡ false

  module _ (free : judged_again old q ≡ None) (nobody : first_for old.locks.queue ino part ≡ None) where
    not-rejection : (locks : LockMap) (moves : List Made) (last : Scene) → IsAlone locks → MakesAll (now locks) moves last → NotRejected moves
    not-rejection locks [] last alone made = refl
    not-rejection locks (Began i p to ∷ moves) last alone (mid, (first, is), made) =
        let may = subst (IsMove (now locks)) first (first_is (now locks)) in
        not-rejection (begun_locks locks i.0 p to) moves last
        (still_alone locks alone i.0 p (Gather (present_state (lock_at locks i.0 p)) to) (begins_here locks alone (i.0, p) may.0) (moved-stays locks (Begin i p to) alone.order))
        (subst (λ (s : Scene). MakesAll s moves last) is made)
    not-rejection locks (Gathered i p ∷ moves) last alone (mid, (first, is), made) =
        let may = subst (IsMove (now locks)) first (first_is (now locks)) in
        not-rejection (gathered_locks locks i.0 p) moves last
        (still_alone locks alone i.0 p (Stable (coming_state (lock_at locks i.0 p))) (ends_here locks alone (i.0, p) may) (moved-stays locks (End i p) alone.order))
        (subst (λ (s : Scene). MakesAll s moves last) is made)
    not-rejection locks (Served r o ∷ moves) last alone (mid, (first, found, may, is), made) =
        let inside : Contains locks.queue q = subst (λ rs. Contains rs q) (sym alone.same_queue) (Contains-push old.locks.queue q) in
        let itself : r ≡ q = served-itself locks alone nobody r first found inside in
        let number : (r.ticket.0 == q.ticket.0) ≡ true = ap (λ (x : Request). x.ticket.0 == q.ticket.0) itself ∙ nat_eq_equiv.refl q.ticket.0 in
        ap (λ b. is_rejection (awaited_as q.ticket (cond b (Some (record { client = r.client; ticket = r.ticket; outcome = o })) (find (is_of_ticket q.ticket) (ended_in moves))))) number
        ∙ unrejected q.ticket (now locks) q o free (subst (λ (x : Request). MayEndAs (now locks) x o) itself may)

  module _ (order : IsLockMap (with_request old.locks client inode operation)) where
    abbrev waiting : LockMap
    waiting = with_request old.locks client inode operation

    alone-first : IsAlone waiting
    alone-first = record { same_queue = refl; others = λ id off. refl; order = order }

    -- behind an open gather it waits on, and nothing moves
    rests-on : IsLockAtRest (now waiting) ino part (lock_at waiting ino part) → IsAtRest (now waiting)
    rests-on here = record {
      each = λ i p. elim (is_at ino part (i, p)) as (λ b. is_at ino part (i, p) ≡ b → IsLockAtRest (now waiting) i p (lock_at waiting i p)) [
        | true ↦ λ e. (let same = its_lock i p e in
            subst (λ (id : LockId). IsLockAtRest (now waiting) id.0 id.1 (lock_at waiting id.0 id.1)) (λ k. (sym same.0 k, sym same.1 k)) here)
        | false ↦ λ off. resting-other waiting alone-first (i, p) off
      ] refl;
    }

    pub own-not_rejected : (moves : List Made) (last : Scene) → judged_again old q ≡ None → MakesAll (now waiting) moves last → NotRejected moves
    own-not_rejected moves last free made = by_lock (lock_at old.locks ino part) refl (rest.each ino part)
      where
        by_lock : (o : Option LockState) → lock_at old.locks ino part ≡ o → IsLockAtRest old ino part o → NotRejected moves
        by_lock None is resting = not-rejection free resting waiting moves last alone-first made
        by_lock (Some (Stable state)) is resting = not-rejection free resting.1 waiting moves last alone-first made
        by_lock (Some (Gather from to)) is resting =
            let none = no_moves (now waiting) moves last (settled (now waiting) (rests-on (subst (IsLockAtRest (now waiting) ino part) (sym is) resting))) made in
            subst NotRejected (sym none.0) refl
