-- Between two servings locks come to rest: each begins at most one gather, and ends at most two.
use Rattle.std.proofs.Common.{◌≡◌, ℕ, ◌+◌, ◌≤◌, Bool, true, false, not, cond, Option, Some, None, List, [], ◌∷◌, ◌++◌, refl, sym, ap, subst, ◌∙◌, arith}
use Rattle.std.proofs.Common.{count_by, true≢false, zero-add}
use Rattle.std.specs.Prelude.{IsTrue}
use Rattle.std.specs.Option.{option_map}
use Rattle.std.proofs.lemmas.List.Elements.{All-append}
use Rattle.std.proofs.lemmas.List.Sums.{sum_by-cons}
use Rattle.locktable.specs.declared.states.StableState.{StableState}
use Rattle.locktable.specs.declared.states.LockState.{LockState}
use Rattle.locktable.specs.declared.states.LockState.TheVariants.{Gather, Stable}
use Rattle.locktable.specs.Targets.{target_stays}
use Rattle.lockmachine.specs.declared.moves.Move.{Move}
use Rattle.lockmachine.specs.declared.moves.Move.TheVariants.{Begin, End, Serve, Settled}
use Rattle.lockmachine.specs.Locks.{lock_at}
use Rattle.lockmachine.specs.Scene.{Scene, head_in, loner, target, wanted, wanted_in_all}
use Rattle.lockmachine.specs.Moves.{LockId, coming_state, may_begin_in, may_end_in, present_state, same_state, with_moved}
use Rattle.lockmachine.specs.Runs.{AreFew, EndLittle, MoveLittle, Runs, is_begin_of, is_end, is_end_of, is_of_lock}
use Rattle.lockmachine.proofs.Exact.{same_state_itself}
use Rattle.lockmachine.proofs.Moving.{IsMove, first_is, with_lock-each}

-- ---- the moves that a lock has left

-- a lock that is stable in the state is at its target
abbrev stays_in : Scene → LockId → StableState → Bool
stays_in s at state = same_state (target s at.0 at.1 state) state

-- the gathers that it is still to begin: one, unless it is at its target or on its way there
abbrev pub begins_left : Scene → LockId → Option LockState → ℕ
begins_left s at None = 0
begins_left s at (Some (Stable state)) = cond (stays_in s at state) 0 1
begins_left s at (Some (Gather from to)) = cond (stays_in s at to) 0 1

-- and those that it is still to end: one more, if it gathers
abbrev pub ends_left : Scene → LockId → Option LockState → ℕ
ends_left s at None = 0
ends_left s at (Some (Stable state)) = cond (stays_in s at state) 0 1
ends_left s at (Some (Gather from to)) = 1 + cond (stays_in s at to) 0 1

-- with so many begun and ended now, as many as before are left
abbrev pub IsLeft : Scene → Scene → LockId → ℕ → ℕ → Option LockState → Option LockState → Type 0
IsLeft s t at begun ended before now = (begun + begins_left t at now ≡ begins_left s at before) × (ended + ends_left t at now ≡ ends_left s at before)

same_left : (s : Scene) (at : LockId) (o : Option LockState) → IsLeft s s at 0 0 o o
same_left s at o = (zero-add (begins_left s at o), zero-add (ends_left s at o))

-- a target is its own target
stays_there : (s : Scene) (at : LockId) (state : StableState) → stays_in s at (target s at.0 at.1 state) ≡ true
stays_there s at state =
    ap (λ t. same_state t (target s at.0 at.1 state)) (target_stays at.1 state (head_in s.locks.queue at.0 at.1) (loner s at.0) (wanted s at.0))
    ∙ same_state_itself (target s at.0 at.1 state)

begin_left : (s : Scene) (at : LockId) (o : Option LockState) → may_begin_in s.locks.queue (wanted_in_all s at.0) at o ≡ true
    → IsLeft s s at 1 0 o (option_map (λ _. Gather (present_state o) (target s at.0 at.1 (present_state o))) o)
begin_left s at None may = absurd (cc)
begin_left s at (Some (Gather from to)) may = absurd (cc)
begin_left s at (Some (Stable state)) may =
    let there = stays_there s at state in
    let elsewhere = was_false (stays_in s at state) may in
    (ap (λ b. 1 + cond b 0 1) there ∙ sym (ap (λ b. cond b 0 1) elsewhere), ap (λ b. 0 + (1 + cond b 0 1)) there ∙ sym (ap (λ b. cond b 0 1) elsewhere))
  where
    was_false : (b : Bool) → not b ≡ true → b ≡ false
    was_false false e = refl
    was_false true e = absurd (cc)

end_left : (s : Scene) (at : LockId) (o : Option LockState) → may_end_in s.table at o ≡ true → IsLeft s s at 0 1 o (option_map (λ _. Stable (coming_state o)) o)
end_left s at None may = absurd (cc)
end_left s at (Some (Stable state)) may = absurd (cc)
end_left s at (Some (Gather from to)) may = (zero-add _, refl)

-- ---- one move, and a run of moves

abbrev pub locks_of : Scene → LockId → Option LockState
locks_of s at = lock_at s.locks at.0 at.1

pub one_left : (s : Scene) (step : Move) → IsMove s step → IsTrue (is_of_lock step) → (at : LockId)
    → IsLeft s (with_moved s step) at (cond (is_begin_of at step) 1 0) (cond (is_end_of at step) 1 0) (locks_of s at) (locks_of (with_moved s step) at)
one_left s (Begin ino part to) is of_lock at =
    with_lock-each s.locks ino.0 part (Gather (present_state (lock_at s.locks ino.0 part)) to) (λ b p o. IsLeft s s p (cond b 1 0) 0 (locks_of s p) o)
    (subst (λ goes. IsLeft s s (ino.0, part) 1 0 (lock_at s.locks ino.0 part) (option_map (λ _. Gather (present_state (lock_at s.locks ino.0 part)) goes) (lock_at s.locks ino.0 part))) (sym is.1)
    (begin_left s (ino.0, part) (lock_at s.locks ino.0 part) is.0))
    (λ p. same_left s p (locks_of s p)) at
one_left s (End ino part) is of_lock at =
    with_lock-each s.locks ino.0 part (Stable (coming_state (lock_at s.locks ino.0 part))) (λ b p o. IsLeft s s p 0 (cond b 1 0) (locks_of s p) o)
    (end_left s (ino.0, part) (lock_at s.locks ino.0 part) is) (λ p. same_left s p (locks_of s p)) at
one_left s (Serve ticket) is of_lock at = absurd (true≢false (sym of_lock))
one_left s Settled is of_lock at = absurd (true≢false (sym of_lock))

run_left : (s : Scene) (steps : List Move) (t : Scene) → Runs s steps t → (at : LockId) → IsLeft s t at (count_by (is_begin_of at) steps) (count_by (is_end_of at) steps) (locks_of s at) (locks_of t at)
run_left s [] t is at = subst (λ (t : Scene). IsLeft s t at 0 0 (locks_of s at) (locks_of t at)) (sym is) (same_left s at (locks_of s at))
run_left s (step ∷ steps) t (first, of_lock, rest) at =
    let one = one_left s step (subst (IsMove s) first (first_is s)) of_lock at in
    let more = run_left (with_moved s step) steps t rest at in
    (adds _ _ _ _ _ _ (sum_by-cons (λ x. cond (is_begin_of at x) 1 0) step steps) one.0 more.0, adds _ _ _ _ _ _ (sum_by-cons (λ x. cond (is_end_of at x) 1 0) step steps) one.1 more.1)
  where
    adds : (whole first rest now mid before : ℕ) → whole ≡ first + rest → first + mid ≡ before → rest + now ≡ mid → whole + now ≡ before
    adds whole first rest now mid before w f r = omega arith

pub few : (s : Scene) (steps : List Move) (t : Scene) → Runs s steps t → AreFew steps
few s steps t runs = record {
  begun = λ at. within _ _ _ 1 (run_left s steps t runs at).0 (one_begin at (locks_of s at));
  ended = λ at. within _ _ _ 2 (run_left s steps t runs at).1 (two_ends at (locks_of s at));
}
  where
    within : (made left before most : ℕ) → made + left ≡ before → before ≤ most → made ≤ most
    within made left before most is room = omega arith

    either : (b : Bool) → cond b 0 1 ≤ 1
    either true = omega arith
    either false = omega arith

    one_begin : (at : LockId) (o : Option LockState) → begins_left s at o ≤ 1
    one_begin at None = omega arith
    one_begin at (Some (Stable state)) = either (stays_in s at state)
    one_begin at (Some (Gather from to)) = either (stays_in s at to)

    two_ends : (at : LockId) (o : Option LockState) → ends_left s at o ≤ 2
    two_ends at None = omega arith
    two_ends at (Some (Stable state)) = let h = either (stays_in s at state) in omega arith
    two_ends at (Some (Gather from to)) = let h = either (stays_in s at to) in omega arith

-- ---- one run after another

pub runs-then : (a : Scene) (first : List Move) (b : Scene) (then : List Move) (c : Scene) → Runs a first b → Runs b then c → Runs a (first ++ then) c
runs-then a [] b then c is runs = subst (λ (s : Scene). Runs s then c) is runs
runs-then a (step ∷ steps) b then c (now, of_lock, rest) runs = (now, of_lock, runs-then (with_moved a step) steps b then c rest runs)

pub little-then : (a b c : Scene) → MoveLittle a b → MoveLittle b c → MoveLittle a c
little-then a b c (first, few_first, runs_first) (then, few_then, runs_then) =
    let all = runs-then a first b then c runs_first runs_then in
    (first ++ then, few a (first ++ then) c all, all)

pub ends-little : (old new : Scene) → EndLittle old new → MoveLittle old new
ends-little old new (steps, ends, few, runs) = (steps, few, runs)

pub ends-then : (a b c : Scene) → EndLittle a b → EndLittle b c → EndLittle a c
ends-then a b c (first, ends_first, few_first, runs_first) (then, ends_then, few_then, runs_then) =
    let all = runs-then a first b then c runs_first runs_then in
    (first ++ then, All-append (λ step. is_end step ≡ true) first then ends_first ends_then, few a (first ++ then) c all, all)
