-- Locks change by the moves of a step alone: each other lock that is there at its end is as it was right after the event.
use Rattle.std.proofs.Common.{◌≡◌, ℕ, Bool, true, false, Some, List, [], ◌∷◌, refl, sym, ap, ◌∙◌, true≢false, arith}
use Rattle.std.proofs.lemmas.Bool.{or_parts}
use Rattle.std.specs.List.{list_any}
use Rattle.std.specs.Option.{option_map}
use Rattle.std.specs.FinMap as map
use Rattle.capcore.proofs.Strays.{retained-gone, retained-here}
use Rattle.capstep.specs.Finish.{is_in_use, issue}
use Rattle.capstep.specs.Headline.{OtherLocksStay, is_of_lock_at}
use Rattle.capcore.proofs.Common.{Began, DirectReply, Ended, Event, Gather, Gathered, LockId, LockMap, LockState, Made, Makes, MakesAll, Part, Reply, Scene}
use Rattle.capcore.proofs.Common.{Served, Stable, State, StepBy, coming_state, direct, is_at, lock_at, lock_in, present_state, shown, sized_in, sizes_owed}
use Rattle.capcore.proofs.Common.{state_after, with_lock, with_lock-each}

-- ---- the moves

-- a lock in another state leaves each other lock
other_lock : (locks : LockMap) (ino : ℕ) (part : Part) (lock : LockState) (at : LockId) → is_at ino part at ≡ false
    → lock_at (with_lock locks ino part lock) at.0 at.1 ≡ lock_at locks at.0 at.1
other_lock locks ino part lock =
    with_lock-each locks ino part lock (λ b (at : LockId) o. b ≡ false → o ≡ lock_at locks at.0 at.1) (λ off. absurd (true≢false off)) (λ at off. refl)

one_stays : (s t : Scene) (m : Made) (ino : ℕ) (part : Part) → Makes s m t → is_of_lock_at ino part m ≡ false → lock_at t.locks ino part ≡ lock_at s.locks ino part
one_stays s t (Began i p to) ino part (first, is) off =
    ap (λ (s : Scene). lock_at s.locks ino part) is ∙ other_lock s.locks i.0 p (Gather (present_state (lock_at s.locks i.0 p)) to) (ino, part) off
one_stays s t (Gathered i p) ino part (first, is) off =
    ap (λ (s : Scene). lock_at s.locks ino part) is ∙ other_lock s.locks i.0 p (Stable (coming_state (lock_at s.locks i.0 p))) (ino, part) off
one_stays s t (Served q o) ino part (first, found, may, is) off = ap (λ (s : Scene). lock_at s.locks ino part) is

all_stay : (s : Scene) (moves : List Made) (t : Scene) (ino : ℕ) (part : Part) → MakesAll s moves t → list_any (is_of_lock_at ino part) moves ≡ false
    → lock_at t.locks ino part ≡ lock_at s.locks ino part
all_stay s [] t ino part is off = ap (λ (s : Scene). lock_at s.locks ino part) is
all_stay s (m ∷ moves) t ino part (mid, one, made) off =
    let each = or_parts (is_of_lock_at ino part m) (list_any (is_of_lock_at ino part) moves) off in
    all_stay mid moves t ino part made each.1 ∙ one_stays s mid m ino part one each.0

-- ---- the end of the step

-- what a client is told leaves the locks
shown_locks : (a : DirectReply) (s : State) → (shown a s).scene.locks ≡ s.scene.locks
shown_locks a s = grind arith

-- a lock that is there at the end was so once the locks had settled
lock_before : (s : Scene) (kept : ℕ → Bool) (ino : ℕ) (part : Part) (lock : LockState)
    → option_map (lock_in part) (map.get (map.retain_keys s.locks.states kept) ino) ≡ Some lock → lock_at s.locks ino part ≡ Some lock
lock_before s kept ino part lock there = grind (arith, retained-here, retained-gone)

-- locks change by the moves of the step alone
pub other-locks : (old : State) (e : Event) (moves : List Made) (reply : Reply) (ended : List Ended) (new : State) → StepBy old e moves reply ended new
    → OtherLocksStay new.scene.locks (direct old e).state.scene moves
other-locks old e moves reply ended new by ino part lock off there =
    let last = state_after old (direct old e) moves by.settled in
    let at_end : lock_at last.scene.locks ino part ≡ Some lock =
    sym (ap (λ (s : State). lock_at s.scene.locks ino part) by.new_is ∙ ap (λ (locks : LockMap). lock_at locks ino part) (shown_locks (direct old e).reply_due last)) ∙ there in
    sym (all_stay (direct old e).state.scene moves by.settled ino part by.settles.made off)
    ∙ lock_before by.settled (is_in_use (issue (sizes_owed (sized_in moves) by.settled))) ino part lock at_end
