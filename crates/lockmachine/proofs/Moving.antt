-- What the first move is, and what one lock in another state leaves.
use Rattle.std.proofs.Common.{◌≡◌, ◌≢◌, ℕ, Bool, true, false, cond, ◌&&◌, ◌==◌, Option, Some, None, refl, sym, ap, subst, ◌∙◌}
use Rattle.std.specs.List.{find}
use Rattle.std.specs.Option.{option_map, option_map_or}
use Rattle.std.specs.FinMap as map
use Rattle.std.specs.Cmp.{nat_cmp_total}
use Rattle.std.proofs.lemmas.Bool.{eqb-false, eqb-true}
use Rattle.capbits.specs.declared.cap.Part.{Part}
use Rattle.capbits.specs.declared.cap.Part.TheVariants.{A, F, L, X}
use Rattle.capbits.specs.Sets.{and_parts}
use Rattle.capbits.proofs.Maps.{insert-here, insert-other}
use Rattle.locktable.specs.declared.states.LockState.{LockState}
use Rattle.captable.proofs.Searches.{find_passes}
use Rattle.lockmachine.specs.declared.states.InodeLocks.{InodeLocks}
use Rattle.lockmachine.specs.declared.request.Request.{Request}
use Rattle.lockmachine.specs.declared.moves.Move.{Move}
use Rattle.lockmachine.specs.declared.moves.Move.TheVariants.{Begin, End, Serve, Settled}
use Rattle.lockmachine.specs.Inodes.{StateMap, lock_in, with_lock_in}
use Rattle.lockmachine.specs.Requests.{same_part}
use Rattle.lockmachine.specs.Locks.{LockMap, lock_at, with_lock}
use Rattle.lockmachine.specs.Scene.{Scene, target}
use Rattle.lockmachine.specs.Moves.{LockId, first_move, lock_ids, may_begin, may_end, may_serve, present_state}
use Rattle.lockmachine.specs.Cursors.{begin_or_rest, end_or_serve, serve_or_begin}
use Rattle.lockmachine.proofs.FirstMove.{first-found}
use Rattle.lockmachine.proofs.Rest.{same_part_is}

-- ---- what the first move is

abbrev pub IsMove : Scene → Move → Type 0
IsMove s (Begin ino part to) = (may_begin s (ino.0, part) ≡ true) × (to ≡ target s ino.0 part (present_state (lock_at s.locks ino.0 part)))
IsMove s (End ino part) = may_end s (ino.0, part) ≡ true
IsMove s (Serve ticket) = (q : Request) × (find (may_serve s.locks) s.locks.queue ≡ Some q)
IsMove s Settled = Unit {0}

module _ (s : Scene) where
  by_begin : (o : Option LockId) → find (may_begin s) (lock_ids s.locks) ≡ o → IsMove s (begin_or_rest s o)
  by_begin None found = tt
  by_begin (Some at) found = (find_passes (may_begin s) (lock_ids s.locks) at found, refl)

  by_serve : (o : Option Request) → find (may_serve s.locks) s.locks.queue ≡ o → IsMove s (serve_or_begin s o)
  by_serve None found = by_begin (find (may_begin s) (lock_ids s.locks)) refl
  by_serve (Some q) found = (q, found)

  by_end : (o : Option LockId) → find (may_end s) (lock_ids s.locks) ≡ o → IsMove s (end_or_serve s o)
  by_end None found = by_serve (find (may_serve s.locks) s.locks.queue) refl
  by_end (Some at) found = find_passes (may_end s) (lock_ids s.locks) at found

  pub first_is : IsMove s (first_move s)
  first_is = subst (IsMove s) (sym (first-found s)) (by_end (find (may_end s) (lock_ids s.locks)) refl)

-- ---- one lock in another state

-- the lock is that of the part of the inode
abbrev pub is_at : ℕ → Part → LockId → Bool
is_at ino part at = (at.0 == ino) && same_part at.1 part

with_lock-is : (part q : Part) (lock : LockState) (l : InodeLocks) → Some (lock_in q (with_lock_in part lock l)) ≡ cond (same_part q part) (Some lock) (Some (lock_in q l))
with_lock-is A A lock l = refl
with_lock-is A L lock l = refl
with_lock-is A X lock l = refl
with_lock-is A F lock l = refl
with_lock-is L A lock l = refl
with_lock-is L L lock l = refl
with_lock-is L X lock l = refl
with_lock-is L F lock l = refl
with_lock-is X A lock l = refl
with_lock-is X L lock l = refl
with_lock-is X X lock l = refl
with_lock-is X F lock l = refl
with_lock-is F A lock l = refl
with_lock-is F L lock l = refl
with_lock-is F X lock l = refl
with_lock-is F F lock l = refl

module _ (t : LockMap) (ino : ℕ) (part : Part) (lock : LockState) where
  -- where the inode's locks are these, and the part's is in the other state
  abbrev changed : Option InodeLocks → StateMap
  changed o = option_map_or (λ l. map.insert t.states ino (with_lock_in part lock l)) o t.states

  elsewhere : (o : Option InodeLocks) (other : ℕ) → other ≢ ino → map.get (changed o) other ≡ map.get t.states other
  elsewhere None other n = refl
  elsewhere (Some l) other n = insert-other nat_cmp_total map.nat_cmp-IsAntisymmetric t.states ino (with_lock_in part lock l) other n

  neither : (b : Bool) → ◌≡◌ {A = Option LockState} None (cond b None None)
  neither true = refl
  neither false = refl

  here : (o : Option InodeLocks) (q : Part) → map.get t.states ino ≡ o
      → option_map (lock_in q) (map.get (changed o) ino) ≡ cond (same_part q part) (option_map (λ _. lock) (option_map (lock_in q) o)) (option_map (lock_in q) o)
  here None q is = ap (option_map (lock_in q)) is ∙ neither (same_part q part)
  here (Some l) q is = ap (option_map (lock_in q)) (insert-here nat_cmp_total map.nat_cmp-IsAntisymmetric t.states ino (with_lock_in part lock l)) ∙ with_lock-is part q lock l

  by_test : (at : LockId) (b : Bool) → (at.0 == ino) ≡ b
      → lock_at (with_lock t ino part lock) at.0 at.1 ≡ cond (b && same_part at.1 part) (option_map (λ _. lock) (lock_at t at.0 at.1)) (lock_at t at.0 at.1)
  by_test at true e =
      subst (λ i. lock_at (with_lock t ino part lock) i at.1 ≡ cond (same_part at.1 part) (option_map (λ _. lock) (lock_at t i at.1)) (lock_at t i at.1)) (sym (eqb-true at.0 ino e))
      (here (map.get t.states ino) at.1 refl)
  by_test at false e = ap (option_map (lock_in at.1)) (elsewhere (map.get t.states ino) at.0 (eqb-false at.0 ino e))

  same_id : (at : LockId) → is_at ino part at ≡ true → ◌≡◌ {A = LockId} (ino, part) at
  same_id at e =
      let both = and_parts (at.0 == ino) (same_part at.1 part) e in
      let inos = sym (eqb-true at.0 ino both.0) in
      let parts = sym (same_part_is at.1 part both.1) in
      λ k. (inos k, parts k)

  -- what holds of the lock in the other state, and of each other lock as it is, holds of each lock
  pub with_lock-each : (P : Bool → LockId → Option LockState → Type 0) → P true (ino, part) (option_map (λ _. lock) (lock_at t ino part)) → ((at : LockId) → P false at (lock_at t at.0 at.1))
      → (at : LockId) → P (is_at ino part at) at (lock_at (with_lock t ino part lock) at.0 at.1)
  with_lock-each P changed kept at =
      subst (P (is_at ino part at) at) (sym (by_test at (at.0 == ino) refl))
      (elim (is_at ino part at) as (λ b. is_at ino part at ≡ b → P b at (cond b (option_map (λ _. lock) (lock_at t at.0 at.1)) (lock_at t at.0 at.1))) [
        | true ↦ λ e. subst (λ (p : LockId). P true p (option_map (λ _. lock) (lock_at t p.0 p.1))) (same_id at e) changed
        | false ↦ λ e. kept at
      ] refl)
