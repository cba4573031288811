-- A state that is sound but for strays is sound once these are forgotten.
use Rattle.std.proofs.Common.{◌≡◌, ℕ, Bool, true, false, cond, ◌||◌, Option, Some, None, List, [], ◌∷◌, refl, sym, ap, subst, ◌∙◌, Contains, true≢false}
use Rattle.std.proofs.Common.{IsTrue, All, filter, arith}
use Rattle.std.proofs.lemmas.List.Elements.{All-contains, All-contains_itself, All-weaker}
use Rattle.std.specs.List.{list_any}
use Rattle.std.specs.Option.{option_map}
use Rattle.std.specs.FinMap as map
use Rattle.lockmachine.specs.Scene.{target_by}
use Rattle.lockmachine.specs.Wants.{Want, in_all}
use Rattle.capcore.proofs.CommonPieces.{EntryRow, Gone, IsAtRest, IsInRow, IsLockAtRest, IsSound, IsSoundEntry, IsTree, LockState, Part, Scene, Stable, State, issuable}
use Rattle.capcore.proofs.CommonPieces.{effective_want, first_for, has_session, is_in_use, is_of_inode, is_row_of, lock_at, lock_in, presence, wants-stay}
use Rattle.capcore.proofs.CommonPieces.{with_scene}
use Rattle.capcore.proofs.LeftAlone.{found-contains}
use Rattle.capcore.proofs.Placed.{placed}
use Rattle.capcore.proofs.Strays.{alike-retained, goes, in_use-held, retained, retained-gone, retained-here, stays-in_use}
use Rattle.capcore.specs.Affected.{forget_among, stays}

-- ---- what is due

-- by the same locks, of what is wanted as before, the same is due
pub same-issuable : (s t : Scene) (row : EntryRow) → effective_want s.fs s.tree s.sessions row ≡ effective_want t.fs t.tree t.sessions row
    → ((part : Part) → lock_at s.locks row.holder.ino.0 part ≡ lock_at t.locks row.holder.ino.0 part) → issuable s row ≡ issuable t row
same-issuable s t row want locks = grind arith

-- ---- states that are sound but for strays

-- what each row of the list has, all have
pub all_rows : (Q : EntryRow → Type 0) (rows : List EntryRow) → ((row : EntryRow) → Contains rows row → Q row) → All Q rows
all_rows Q rows each = All-weaker (Contains rows) Q each rows (All-contains_itself rows)

-- where nobody has an entry, nobody waits: no gather is open, and a lock that is stable and at rest has no queue
nothing_on : (p : EntryRow → Bool) (rows : List EntryRow) → list_any p rows ≡ false → filter p rows ≡ []
nothing_on p [] none = refl
nothing_on p (x ∷ xs) none = elim (p x) as (λ b. (b || list_any p xs) ≡ false → cond b (x ∷ filter p xs) (filter p xs) ≡ []) [
  | true ↦ λ none. absurd (true≢false none)
  | false ↦ λ none. nothing_on p xs none
] none

nobody_waits : (s : Scene) (ino : ℕ) (part : Part) (o : Option LockState) → list_any (is_of_inode (record { 0 = ino })) s.table.rows ≡ false → IsLockAtRest s ino part o
    → first_for s.locks.queue ino part ≡ None
nobody_waits s ino part o nobody resting = grind (arith, nothing_on)

-- the state is sound, but that nobody need have an entry on those of these inodes that are strays
pub record IsSoundBut (at : ℕ → Bool) (s : State) : Type 0 where
  pub entries : All (IsSoundEntry s.scene) s.scene.table.rows
  pub waiting : All (λ q. IsTrue (has_session s.scene.sessions q.client.0)) s.scene.locks.queue
  pub messages : All (λ m. IsTrue (has_session s.scene.sessions m.client.0)) s.messages
  pub locked : (q : ℕ) → map.contains_key s.scene.locks.states q ≡ map.contains_key s.scene.tree.nodes q
  pub strays : (q : ℕ) → at q ≡ false → presence s.scene.tree.nodes q ≡ Gone → IsTrue (list_any (is_of_inode (record { 0 = q })) s.scene.table.rows)
  pub in_rows : All (λ row. (part : Part) → IsInRow s.scene row part) s.scene.table.rows
  pub at_rest : IsAtRest s.scene

-- ---- forgetting

-- what is left of the scene
module _ (at : ℕ → Bool) (s : Scene) where
  abbrev left : Scene
  left = forget_among at s

  abbrev keeps : ℕ → Bool
  keeps = stays at s

  same_lock : (q : ℕ) (part : Part) → keeps q ≡ true → lock_at left.locks q part ≡ lock_at s.locks q part
  same_lock q part is = ap (option_map (lock_in part)) (retained-here s.locks.states keeps q is)

  no_lock : (q : ℕ) (part : Part) → keeps q ≡ false → lock_at left.locks q part ≡ None
  no_lock q part is = ap (option_map (lock_in part)) (retained-gone s.locks.states keeps q is)

  want_left : IsTree s.tree → (row : EntryRow) → is_in_use s row.holder.ino.0 ≡ true → effective_want s.fs left.tree s.sessions row ≡ effective_want s.fs s.tree s.sessions row
  want_left tree row used = grind (arith, alike-retained, stays-in_use)

  -- the same is due on an inode that is in use
  pub issuable-left : IsTree s.tree → (row : EntryRow) → is_in_use s row.holder.ino.0 ≡ true → issuable left row ≡ issuable s row
  issuable-left tree row used = same-issuable left s row (want_left tree row used) (λ part. same_lock row.holder.ino.0 part (stays-in_use at s row.holder.ino.0 used))

module _ (at : ℕ → Bool) (s : State) (sound : IsSoundBut at s) (tree : IsTree s.scene.tree) where
  abbrev after : Scene
  after = forget_among at s.scene

  abbrev stay : ℕ → Bool
  stay = stays at s.scene

  row_stays : (row : EntryRow) → Contains s.scene.table.rows row → stay row.holder.ino.0 ≡ true
  row_stays row inside = stays-in_use at s.scene row.holder.ino.0 (in_use-held s.scene row inside)

  resting_left : (q : ℕ) (part : Part) (o : Option LockState) → IsLockAtRest s.scene q part o → IsLockAtRest after q part o
  resting_left q part (Some (Stable state)) resting = (
    ap (λ (ws : List Want). target_by s.scene.locks.queue (in_all ws) q part state)
        (wants-stay s.scene after.tree s.scene.sessions q (all_rows _ s.scene.table.rows (λ row inside. want_left at s.scene tree row (in_use-held s.scene row inside)))) ∙ resting.0,
    resting.1,
  )
  resting_left q part o resting = resting

  rest_left : IsAtRest after
  rest_left = record {
    each = λ q part. elim (stay q) as (λ b. stay q ≡ b → IsLockAtRest after q part (lock_at after.locks q part)) [
      | true ↦ λ e. subst (IsLockAtRest after q part) (sym (same_lock at s.scene q part e)) (resting_left q part (lock_at s.scene.locks q part) (sound.at_rest.each q part))
      | false ↦ λ e. subst (IsLockAtRest after q part) (sym (no_lock at s.scene q part e))
          (nobody_waits s.scene q part (lock_at s.scene.locks q part) (goes at s.scene q e).2 (sound.at_rest.each q part))
    ] refl;
  }

  pub sound-forgotten : IsSound (with_scene s after)
  sound-forgotten = record {
    entries = all_rows (IsSoundEntry after) s.scene.table.rows (λ row inside. grind (arith, All-contains, retained-here, row_stays, issuable-left, in_use-held));
    waiting = sound.waiting;
    messages = sound.messages;
    locked = λ q. grind (arith, retained);
    strays = λ q gone. grind (arith, retained-here, retained-gone);
    in_place = λ row part found.
        let inside = found-contains (is_row_of row.holder) s.scene.table.rows row found in
        placed after row inside part (grind (arith, same_lock, row_stays, All-contains, inside));
    at_rest = rest_left;
  }
