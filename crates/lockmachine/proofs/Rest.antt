-- Where no move applies and nobody waits where there is no lock, each lock is quiet.
use Rattle.std.proofs.Common.{◌≡◌, ◌≢◌, ℕ, zero, suc, Bool, true, false, ◌&&◌, ◌||◌, not, ◌==◌, cond, Option, Some, None, List, [], ◌∷◌, refl, sym, ap, ◌∙◌}
use Rattle.std.proofs.Common.{subst}
use Rattle.std.specs.List.{find, flat_map, list_any}
use Rattle.std.specs.Option.{is_some, option_map, option_map_or}
use Rattle.std.specs.FinMap as map
use Rattle.std.specs.Ordering.{eq_by_cmp, nat_cmp}
use Rattle.std.specs.Cmp.{nat_eq_equiv, unsigned_tied}
use Rattle.std.proofs.lemmas.Bool.{both_ways, eqb-true}
use Rattle.capbits.specs.declared.cap.Part.{Part}
use Rattle.capbits.specs.declared.cap.Part.TheVariants.{A, F, L, X}
use Rattle.capbits.specs.declared.ids.ClientId.{ClientId}
use Rattle.capbits.specs.Sets.{and_parts}
use Rattle.locktable.specs.declared.states.StableState.{StableState}
use Rattle.locktable.specs.declared.states.StableState.TheVariants.{Excl, Lock, Mix, Sync}
use Rattle.locktable.specs.declared.states.LockState.{LockState}
use Rattle.locktable.specs.declared.states.LockState.TheVariants.{Gather, Stable}
use Rattle.locktable.specs.declared.targets.Head.TheVariants.{Empty}
use Rattle.locktable.specs.Targets.{is_served, target_of, target_serves}
use Rattle.lockmachine.specs.declared.states.InodeLocks.{InodeLocks}
use Rattle.lockmachine.specs.declared.request.Operation.{Operation}
use Rattle.lockmachine.specs.declared.request.Operation.TheVariants.{Alter, Get, Rename, Rmdir, Unlink}
use Rattle.lockmachine.specs.declared.request.Request.{Request}
use Rattle.lockmachine.specs.declared.moves.Move.TheVariants.{Settled}
use Rattle.lockmachine.specs.Requests.{first_for, head_of_operation, is_for, is_numbered, part_of_operation, part_place, same_part}
use Rattle.lockmachine.specs.Inodes.{lock_in}
use Rattle.lockmachine.specs.Locks.{lock_at}
use Rattle.lockmachine.specs.Scene.{Scene, loner, target, wanted}
use Rattle.lockmachine.specs.Moves.{IsAtRest, IsLockAtRest, LockId, WaitAtLocks, first_move, is_open, is_served_in, lock_ids, lock_ids_of, may_begin, may_end}
use Rattle.lockmachine.specs.Moves.{may_serve, same_state}
use Rattle.lockmachine.specs.Cursors.{begin_or_rest, end_or_serve, serve_or_begin}
use Rattle.lockmachine.proofs.FirstMove.{first-found}

-- ---- what is known where no move applies

record NoMove (s : Scene) : Type 0 where
  ends : find (may_end s) (lock_ids s.locks) ≡ None
  serves : find (may_serve s.locks) s.locks.queue ≡ None
  begins : find (may_begin s) (lock_ids s.locks) ≡ None

no_end : (s : Scene) (o : Option LockId) → end_or_serve s o ≡ Settled → (o ≡ None) × (serve_or_begin s (find (may_serve s.locks) s.locks.queue) ≡ Settled)
no_end s None is = (refl, is)
no_end s (Some at) is = absurd (cc)

no_serve : (s : Scene) (o : Option Request) → serve_or_begin s o ≡ Settled → (o ≡ None) × (begin_or_rest s (find (may_begin s) (lock_ids s.locks)) ≡ Settled)
no_serve s None is = (refl, is)
no_serve s (Some q) is = absurd (cc)

no_begin : (s : Scene) (o : Option LockId) → begin_or_rest s o ≡ Settled → o ≡ None
no_begin s None is = refl
no_begin s (Some at) is = absurd (cc)

no_move : (s : Scene) → first_move s ≡ Settled → NoMove s
no_move s is =
    let e = no_end s (find (may_end s) (lock_ids s.locks)) (sym (first-found s) ∙ is) in
    let v = no_serve s (find (may_serve s.locks) s.locks.queue) e.1 in
    record { ends = e.0; serves = v.0; begins = no_begin s (find (may_begin s) (lock_ids s.locks)) v.1 }

-- ---- what a test that finds nothing says

pub not_found : {T : Type 0} (p : T → Bool) (x : T) (xs : List T) → find p (x ∷ xs) ≡ None → (p x ≡ false) × (find p xs ≡ None)
not_found p x xs none =
    elim (p x) as (λ b. cond b (Some x) (find p xs) ≡ None → (b ≡ false) × (find p xs ≡ None)) [
      | true ↦ λ none. absurd (cc)
      | false ↦ λ none. (refl, none)
    ] none

-- what one test finds passes it, and fails each test that finds nothing
pub found_not : {T : Type 0} (p r : T → Bool) (xs : List T) (x : T) → find p xs ≡ Some x → find r xs ≡ None → (p x ≡ true) × (r x ≡ false)
found_not p r [] x found none = absurd (cc)
found_not p r (y ∷ ys) x found none =
    let n = not_found r y ys none in
    elim (p y) as (λ b. p y ≡ b → cond b (Some y) (find p ys) ≡ Some x → (p x ≡ true) × (r x ≡ false)) [
      | true ↦ λ py found. (let e : y ≡ x = cc in (rw (← e) py, rw (← e) n.0))
      | false ↦ λ py found. found_not p r ys x found n.1
    ] refl found

pub same_key : (ino x : ℕ) → eq_by_cmp nat_cmp ino x ≡ true → x ≡ ino
same_key ino x e = sym (eqb-true ino x (sym (unsigned_tied ino x) ∙ e))

-- a test that finds none of the locks fails at each
pub none_at : (p : LockId → Bool) (inos : List ℕ) → find p (flat_map lock_ids_of inos) ≡ None → (ino : ℕ) → list_any (eq_by_cmp nat_cmp ino) inos ≡ true → (part : Part) → p (ino, part) ≡ false
none_at p [] none ino among part = absurd (cc)
none_at p (y ∷ ys) none ino among part =
    let later = flat_map lock_ids_of ys in
    let a = not_found p (y, A) ((y, L) ∷ (y, X) ∷ (y, F) ∷ later) none in
    let l = not_found p (y, L) ((y, X) ∷ (y, F) ∷ later) a.1 in
    let x = not_found p (y, X) ((y, F) ∷ later) l.1 in
    let f = not_found p (y, F) later x.1 in
    elim (eq_by_cmp nat_cmp ino y) as (λ b. eq_by_cmp nat_cmp ino y ≡ b → (b || list_any (eq_by_cmp nat_cmp ino) ys) ≡ true → p (ino, part) ≡ false) [
      | true ↦ λ e among. rw (← same_key ino y e) (elim part as (λ part. p (y, part) ≡ false) [ A ↦ a.0 | L ↦ l.0 | X ↦ x.0 | F ↦ f.0 ])
      | false ↦ λ e among. none_at p ys f.1 ino among part
    ] refl among

-- ---- tests that say that two are the same

not_false : (b : Bool) → not b ≡ false → b ≡ true
not_false true e = refl
not_false false e = absurd (cc)

second_false : (a b : Bool) → a ≡ true → (a && b) ≡ false → b ≡ false
second_false true b e f = f
second_false false b e f = absurd (cc)

part_at : ℕ → Part
part_at zero = A
part_at (suc zero) = L
part_at (suc (suc zero)) = X
part_at (suc (suc (suc n))) = F

part_at-place : (part : Part) → part_at (part_place part) ≡ part
unfolding part_at
part_at-place A = refl
part_at-place L = refl
part_at-place X = refl
part_at-place F = refl

pub same_part_is : (a b : Part) → same_part a b ≡ true → a ≡ b
same_part_is a b e = sym (part_at-place a) ∙ ap part_at (eqb-true (part_place a) (part_place b) e) ∙ part_at-place b

same_state_is : (a b : StableState) → same_state a b ≡ true → a ≡ b
same_state_is Sync Sync e = refl
same_state_is Lock Lock e = refl
same_state_is Mix Mix e = refl
same_state_is (Excl c) (Excl d) e = λ i. Excl (record { 0 = eqb-true c.0 d.0 e i })
same_state_is Sync Lock e = absurd (cc)
same_state_is Sync Mix e = absurd (cc)
same_state_is Sync (Excl d) e = absurd (cc)
same_state_is Lock Sync e = absurd (cc)
same_state_is Lock Mix e = absurd (cc)
same_state_is Lock (Excl d) e = absurd (cc)
same_state_is Mix Sync e = absurd (cc)
same_state_is Mix Lock e = absurd (cc)
same_state_is Mix (Excl d) e = absurd (cc)
same_state_is (Excl c) Sync e = absurd (cc)
same_state_is (Excl c) Lock e = absurd (cc)
same_state_is (Excl c) Mix e = absurd (cc)

-- ---- one lock

-- a request is something at the head of a queue
no_empty_head : (client : ClientId) (operation : Operation) → head_of_operation client operation ≢ Empty
no_empty_head client (Get part) e = absurd (cc)
no_empty_head client (Alter change) e = absurd (cc)
no_empty_head client Unlink e = absurd (cc)
no_empty_head client Rmdir e = absurd (cc)
no_empty_head client (Rename dir name) e = absurd (cc)

-- where nothing may be served, a lock at its target has no queue
module _ (s : Scene) (ino : ℕ) (part : Part) (state : StableState) (stable : lock_at s.locks ino part ≡ Some (Stable state)) (none : find (may_serve s.locks) s.locks.queue ≡ None) where
  unserved : (q : Request) → first_for s.locks.queue ino part ≡ Some q → is_served state (head_of_operation q.client q.operation) ≡ false
  unserved q first =
      let f = found_not (is_for ino part) (may_serve s.locks) s.locks.queue q first none in
      let both = and_parts (q.ino.0 == ino) (same_part (part_of_operation q.operation) part) f.0 in
      let at_ino : q.ino.0 ≡ ino = eqb-true q.ino.0 ino both.0 in
      let at_part : part_of_operation q.operation ≡ part = same_part_is (part_of_operation q.operation) part both.1 in
      let no : (option_map_or (is_numbered q.ticket.0) (first_for s.locks.queue ino part) false && is_served_in (lock_at s.locks ino part) (head_of_operation q.client q.operation)) ≡ false = rw (at_ino, at_part) at f.1 in
      let no' : ((q.ticket.0 == q.ticket.0) && is_served state (head_of_operation q.client q.operation)) ≡ false = rw (first, stable) at no in
      second_false (q.ticket.0 == q.ticket.0) (is_served state (head_of_operation q.client q.operation)) (nat_eq_equiv.refl q.ticket.0) no'

  no_queue : (o : Option Request) → first_for s.locks.queue ino part ≡ o → target s ino part state ≡ state → first_for s.locks.queue ino part ≡ None
  no_queue None is here = is
  no_queue (Some q) is here =
      let first = head_of_operation q.client q.operation in
      let there : target_of part state first (loner s ino) (wanted s ino) ≡ state = rw is at here in
      let served = target_serves part state first (loner s ino) (wanted s ino) (no_empty_head q.client q.operation) in
      absurd (both_ways _ (unserved q is) (subst (λ st. is_served st first ≡ true) there served))

module _ (s : Scene) (n : NoMove s) (ino : ℕ) (part : Part) (among : list_any (eq_by_cmp nat_cmp ino) (map.keys s.locks.states) ≡ true) where
  resting_lock : (lock : LockState) → lock_at s.locks ino part ≡ Some lock → IsLockAtRest s ino part (Some lock)
  resting_lock (Stable state) is =
      let no : may_begin s (ino, part) ≡ false = none_at (may_begin s) (map.keys s.locks.states) n.begins ino among part in
      let stays : not (same_state (target s ino part state) state) ≡ false = rw is at no in
      let here : target s ino part state ≡ state = same_state_is _ state (not_false _ stays) in
      (here, no_queue s ino part state is n.serves (first_for s.locks.queue ino part) refl here)
  resting_lock (Gather from to) is =
      let no : may_end s (ino, part) ≡ false = none_at (may_end s) (map.keys s.locks.states) n.ends ino among part in
      let gathers : not (is_open s ino part to) ≡ false = rw is at no in
      not_false (is_open s ino part to) gathers

resting : (s : Scene) (wait : WaitAtLocks s) (n : NoMove s) (ino : ℕ) (part : Part) (o : Option InodeLocks) → map.get s.locks.states ino ≡ o → IsLockAtRest s ino part (option_map (lock_in part) o)
resting s wait n ino part None is = wait ino part (ap (option_map (lock_in part)) is)
resting s wait n ino part (Some locks) is =
    resting_lock s n ino part (sym (map.contains_key-keys s.locks.states ino) ∙ ap is_some is) (lock_in part locks) (ap (option_map (lock_in part)) is)

pub at_rest : (s : Scene) → WaitAtLocks s → first_move s ≡ Settled → IsAtRest s
at_rest s wait is = record { each = λ ino part. resting s wait (no_move s is) ino part (map.get s.locks.states ino) refl }
