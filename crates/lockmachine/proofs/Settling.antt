-- Moves at one inode, where it is its turn.
use Rattle.std.proofs.Common.{◌≡◌, ◌≢◌, ℕ, ◌+◌, ◌<◌, true, cond, ◌&&◌, ◌==◌, List, [], ◌∷◌, ◌++◌, refl, sym, ap, subst, ◌∙◌, arith, eq-eqb}
use Rattle.std.specs.Prelude.{IsTrue}
use Rattle.capbits.specs.declared.ids.Ticket.{Ticket}
use Rattle.capbits.specs.declared.cap.Part.{Part}
use Rattle.capbits.specs.declared.cap.Part.TheVariants.{A, F, L, X}
use Rattle.locktable.specs.declared.states.LockState.{LockState}
use Rattle.locktable.specs.declared.states.LockState.TheVariants.{Gather, Stable}
use Rattle.lockmachine.specs.declared.moves.Move.{Move}
use Rattle.lockmachine.specs.declared.moves.Move.TheVariants.{Begin, End, Serve, Settled}
use Rattle.lockmachine.specs.Requests.{same_part}
use Rattle.lockmachine.specs.Locks.{LockMap, lock_at, with_lock}
use Rattle.lockmachine.specs.Scene.{Scene}
use Rattle.lockmachine.specs.Moves.{LockId, coming_state, first_move, moved, present_state, with_moved}
use Rattle.lockmachine.specs.Runs.{ChangesLocksOf, Runs, is_begin_of, is_end_of, is_of_lock}
use Rattle.lockmachine.specs.Cursors.{IsCursorAt, IsNextAt}
use Rattle.lockmachine.proofs.Moving.{IsMove, first_is, with_lock-each}
use Rattle.lockmachine.proofs.Ending.{begins_left, ends_left, locks_of, one_left, runs-then}
use Rattle.lockmachine.proofs.Cursors.{cursor-stays}

-- ---- the moves that are left at the inode

abbrev pub lock_left : Scene → LockId → ℕ
lock_left s at = begins_left s at (locks_of s at) + ends_left s at (locks_of s at)

abbrev pub moves_left : Scene → ℕ → ℕ
moves_left s ino = lock_left s (ino, A) + lock_left s (ino, L) + lock_left s (ino, X) + lock_left s (ino, F)

-- a move of one of its locks
abbrev IsMoveAt : ℕ → Move → Type 0
IsMoveAt ino (Begin i part to) = i.0 ≡ ino
IsMoveAt ino (End i part) = i.0 ≡ ino
IsMoveAt ino (Serve ticket) = ⊥
IsMoveAt ino Settled = ⊥

abbrev made : Move → LockId → ℕ
made step at = cond (is_begin_of at step) 1 0 + cond (is_end_of at step) 1 0

one_made : (ino : ℕ) (step : Move) → IsMoveAt ino step → 0 < made step (ino, A) + made step (ino, L) + made step (ino, X) + made step (ino, F)
one_made ino (Begin i part to) at =
    let here : (ino == i.0) ≡ true = eq-eqb ino i.0 (sym at) in
    elim part as (λ p. 0 < (cond ((ino == i.0) && same_part A p) 1 0 + 0) + (cond ((ino == i.0) && same_part L p) 1 0 + 0) + (cond ((ino == i.0) && same_part X p) 1 0 + 0) + (cond ((ino == i.0) && same_part F p) 1 0 + 0)) [
      | A ↦ rw here (omega arith)
      | L ↦ rw here (omega arith)
      | X ↦ rw here (omega arith)
      | F ↦ rw here (omega arith)
    ]
one_made ino (End i part) at =
    let here : (ino == i.0) ≡ true = eq-eqb ino i.0 (sym at) in
    elim part as (λ p. 0 < (0 + cond ((ino == i.0) && same_part A p) 1 0) + (0 + cond ((ino == i.0) && same_part L p) 1 0) + (0 + cond ((ino == i.0) && same_part X p) 1 0) + (0 + cond ((ino == i.0) && same_part F p) 1 0)) [
      | A ↦ rw here (omega arith)
      | L ↦ rw here (omega arith)
      | X ↦ rw here (omega arith)
      | F ↦ rw here (omega arith)
    ]
one_made ino (Serve ticket) at = absurd at
one_made ino Settled at = absurd at

fewer : (s : Scene) (ino : ℕ) (step : Move) → IsMove s step → IsTrue (is_of_lock step) → IsMoveAt ino step → moves_left (with_moved s step) ino < moves_left s ino
fewer s ino step is of_lock at =
    let a = one_left s step is of_lock (ino, A) in
    let l = one_left s step is of_lock (ino, L) in
    let x = one_left s step is of_lock (ino, X) in
    let f = one_left s step is of_lock (ino, F) in
    let some = one_made ino step at in
    omega (arith, a.0, a.1, l.0, l.1, x.0, x.1, f.0, f.1, some)

-- ---- each move is made at the inode

-- what is next there, and neither serves nor rests, begins or ends a gather there
record IsFirstAt (s : Scene) (ino : ℕ) (step : Move) : Type 0 where
  first : first_move s ≡ step
  here : IsMoveAt ino step
  of_lock : IsTrue (is_of_lock step)

first_at : (s : Scene) (ino : ℕ) (step : Move) → IsNextAt s ino step → step ≢ Settled → ((ticket : Ticket) → step ≢ Serve ticket) → IsFirstAt s ino step
first_at s ino (Begin i part to) next unsettled unserved = record { first = next.0; here = next.1; of_lock = refl }
first_at s ino (End i part) next unsettled unserved = record { first = next.0; here = next.1; of_lock = refl }
first_at s ino (Serve ticket) next unsettled unserved = absurd (unserved ticket refl)
first_at s ino Settled next unsettled unserved = absurd (unsettled refl)

-- ---- a move, and a run of them

-- the move puts one lock of the inode in another state
record IsOfOne (t new : LockMap) (ino : ℕ) : Type 0 where
  part : Part
  lock : LockState
  is : new ≡ with_lock t ino part lock

of_one : (t : LockMap) (ino : ℕ) (step : Move) → IsMoveAt ino step → IsOfOne t (moved t step) ino
of_one t ino (Begin i p to) at =
    let lock = Gather (present_state (lock_at t i.0 p)) to in
    record { part = p; lock = lock; is = ap (λ n. with_lock t n p lock) at }
of_one t ino (End i p) at =
    let lock = Stable (coming_state (lock_at t i.0 p)) in
    record { part = p; lock = lock; is = ap (λ n. with_lock t n p lock) at }
of_one t ino (Serve ticket) at = absurd at
of_one t ino Settled at = absurd at

elsewhere_stays : (t : LockMap) (ino : ℕ) (p : Part) (lock : LockState) (other : ℕ) (part : Part) → other ≢ ino → lock_at (with_lock t ino p lock) other part ≡ lock_at t other part
elsewhere_stays t ino p lock other part =
    with_lock-each t ino p lock (λ b (at : LockId) o. at.0 ≢ ino → o ≡ lock_at t at.0 at.1) (λ off. absurd (off refl)) (λ at off. refl) (other, part)

pub runs_more : (a : Scene) (steps : List Move) (b : Scene) (step : Move) → Runs a steps b → first_move b ≡ step → IsTrue (is_of_lock step) → Runs a (steps ++ step ∷ []) (with_moved b step)
runs_more a steps b step runs first of_lock = runs-then a steps b (step ∷ []) (with_moved b step) runs (first, of_lock, refl)

-- what holds after each move
pub record SoFar (first now : Scene) (ino : ℕ) : Type 0 where
  pub steps : List Move
  pub runs : Runs first steps now
  pub cursor : IsCursorAt now ino
  pub elsewhere : ChangesLocksOf ino first.locks now.locks

pub record OneMore (first now new : Scene) (ino : ℕ) : Type 0 where
  pub so_far : SoFar first new ino
  pub fewer : moves_left new ino < moves_left now ino

-- one lock of the inode in another state
pub one_changed : (t : LockMap) (ino : ℕ) (part : Part) (lock : LockState) → ChangesLocksOf ino t (with_lock t ino part lock)
one_changed t ino part lock = record { others = elsewhere_stays t ino part lock; queue = refl; last = refl }

pub one_more : (first now : Scene) (ino : ℕ) (step : Move) (new : LockMap) → SoFar first now ino → IsNextAt now ino step → step ≢ Settled → ((ticket : Ticket) → step ≢ Serve ticket) → new ≡ moved now.locks step
    → OneMore first now (record now { locks = new }) ino
one_more first now ino step new so next unsettled unserved new_is =
    let at = first_at now ino step next unsettled unserved in
    let move = subst (IsMove now) at.first (first_is now) in
    let one = of_one now.locks ino step at.here in
    let kept = elsewhere_stays now.locks ino one.part one.lock in
    subst (λ (t : LockMap). OneMore first now (record now { locks = t }) ino) (sym (new_is ∙ one.is))
    (record {
      so_far = record {
        steps = so.steps ++ step ∷ [];
        runs = subst (λ (t : LockMap). Runs first (so.steps ++ step ∷ []) (record now { locks = t })) one.is (runs_more first so.steps now step so.runs at.first at.of_lock);
        cursor = cursor-stays ino now (with_lock now.locks ino one.part one.lock) (one_changed now.locks ino one.part one.lock) so.cursor;
        elsewhere = record { others = λ other part n. kept other part n ∙ so.elsewhere.others other part n; queue = so.elsewhere.queue; last = so.elsewhere.last };
      };
      fewer = subst (λ (t : LockMap). moves_left (record now { locks = t }) ino < moves_left now ino) one.is (fewer now ino step move at.of_lock at.here);
    })
