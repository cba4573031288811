-- What leaves alone all that entries, requests and locks depend on keeps a sound state sound, and leaves nothing to do.
pub use Rattle.capcore.proofs.CommonPieces.{found-contains}
use Rattle.std.proofs.Common.{◌≡◌, ℕ, suc, Bool, false, cond, Option, Some, None, is_some, List, [], ◌∷◌, filter, refl, sym, ap, subst, ◌∙◌, Contains, arith}
use Rattle.std.proofs.Common.{IsTrue}
use Rattle.std.proofs.lemmas.List.Elements.{All-contains, All-contains_itself, All-weaker}
use Rattle.std.specs.Option.{option_map}
use Rattle.std.specs.FinMap as map
use Rattle.capbits.specs.Caps.{caps_where, has}
use Rattle.capbits.specs.Sets.{no_caps}
use Rattle.locktable.specs.Targets.{target_of}
use Rattle.locktable.specs.declared.targets.Head.TheVariants.{Empty}
use Rattle.lockmachine.specs.Scene.{rows_on, wanted}
use Rattle.capcore.proofs.CommonPieces.{AreKnown, ClientViews, EntryRow, IsInPlace, IsLockAtRest, IsSound, IsSoundEntry, IsTable, LockState, Node, Nodes, Part, Scene}
use Rattle.capcore.proofs.CommonPieces.{SessionTable, Stable, StableState, State, StateMap, Sync, against, finished, first_for, has_session, in_sync, is_open}
use Rattle.capcore.proofs.CommonPieces.{is_row_of, lock_at, lock_in, minus, row_of-entry, wants, wants-stay, with_scene}
use Rattle.capcore.proofs.SoundEnd.{same-finished}
use Rattle.capcore.specs.Sparing.{SparesEntries, with_parts}

-- a quiet lock stays quiet where the same requests wait, clients want the same of its inode, and its gather is as open
pub still_resting : (old new : Scene) (ino : ℕ) (part : Part) → new.locks.queue ≡ old.locks.queue → wants new ino ≡ wants old ino
    → ((goal : StableState) → is_open new ino part goal ≡ is_open old ino part goal) → (lock : Option LockState) → IsLockAtRest old ino part lock → IsLockAtRest new ino part lock
still_resting old new ino part queue wanted as_open lock resting = grind arith

-- ---- lists of rows

none_passes : (p : EntryRow → Bool) (rows : List EntryRow) → ((row : EntryRow) → Contains rows row → p row ≡ false) → filter p rows ≡ []
none_passes p [] fails = refl
none_passes p (x ∷ xs) fails =
    ap (λ b. cond b (x ∷ filter p xs) (filter p xs)) (fails x (0, omega arith, refl))
    ∙ none_passes p xs (λ row inside. fails row (suc inside.0, omega (arith, inside.1), inside.2))

-- ---- a lock of a new inode

each_in_sync : (part : Part) → lock_in part in_sync ≡ Stable Sync
each_in_sync part = grind arith

unwanted : (part : Part) → target_of part Sync Empty None no_caps ≡ Sync
unfolding target_of no_caps has caps_where
unwanted part = grind arith

pub none_if : {X : Type 0} (o : Option X) → is_some o ≡ false → o ≡ None
none_if o out = grind arith

pub some_same : (o : Option Node) → is_some (option_map (λ node. in_sync) o) ≡ is_some o
some_same o = grind arith

module _ (s : State) (sound : IsSound s) where
  -- an inode that is not there has no locks, nobody waits there, and nobody has an entry on it
  pub no_locks : (ino : ℕ) → map.contains_key s.scene.tree.nodes ino ≡ false → map.get s.scene.locks.states ino ≡ None
  no_locks ino out = none_if (map.get s.scene.locks.states ino) (sound.locked ino ∙ out)

  nobody_waits : (ino : ℕ) (part : Part) → map.contains_key s.scene.tree.nodes ino ≡ false → first_for s.scene.locks.queue ino part ≡ None
  nobody_waits ino part out = subst (λ o. IsLockAtRest s.scene ino part (option_map (lock_in part) o)) (no_locks ino out) (sound.at_rest.each ino part)

  sound_row : (row : EntryRow) → Contains s.scene.table.rows row → IsSoundEntry s.scene row
  sound_row row inside = All-contains (IsSoundEntry s.scene) s.scene.table.rows row sound.entries inside

  no_rows : (ino : ℕ) → map.contains_key s.scene.tree.nodes ino ≡ false → rows_on s.scene ino ≡ []
  no_rows ino out = grind (arith, none_passes)

-- ---- what is left alone

module _ (s : State) (sound : IsSound s) (tree : Nodes) (sessions : SessionTable) (states : StateMap) (spares : SparesEntries s.scene tree sessions states) where
  abbrev new : Scene
  new = with_parts s.scene tree sessions states

  same_locks : (row : EntryRow) → Contains s.scene.table.rows row → map.get states row.holder.ino.0 ≡ map.get s.scene.locks.states row.holder.ino.0
  same_locks row inside = let entry = sound_row s sound row inside in spares.locks row.holder.ino.0 entry.on_inode

  same_against : (row : EntryRow) → Contains s.scene.table.rows row → against new row ≡ against s.scene row
  same_against row inside = grind arith

  entry_stays : (row : EntryRow) → Contains s.scene.table.rows row → IsSoundEntry new row
  entry_stays row inside = grind arith

  -- ---- locks

  resting_new : (ino : ℕ) (part : Part) → map.contains_key s.scene.tree.nodes ino ≡ false → (o : Option Node) → IsLockAtRest new ino part (option_map (lock_in part) (option_map (λ node. in_sync) o))
  resting_new ino part out o = grind (arith, nobody_waits, each_in_sync, no_rows, unwanted)

  resting_at : (ino : ℕ) (part : Part) (b : Bool) → map.contains_key s.scene.tree.nodes ino ≡ b → IsLockAtRest new ino part (option_map (lock_in part) (map.get states ino))
  resting_at ino part b here = grind (arith, wants-stay, resting_new)

  locked_at : (ino : ℕ) (b : Bool) → map.contains_key s.scene.tree.nodes ino ≡ b → map.contains_key states ino ≡ map.contains_key tree.nodes ino
  locked_at ino b here = grind arith

  -- ---- what is held

  in_place : (row : EntryRow) (part : Part) → Contains s.scene.table.rows row → IsInPlace s.scene row part (lock_at s.scene.locks row.holder.ino.0 part)
      → IsInPlace new row part (option_map (lock_in part) (map.get states row.holder.ino.0))
  in_place row part inside placed = grind (arith, same_locks, same_against)

  -- ---- all together

  pub stays-sound : IsSound (with_scene s (with_parts s.scene tree sessions states))
  stays-sound = record {
    entries = All-weaker (Contains s.scene.table.rows) (IsSoundEntry new) entry_stays s.scene.table.rows (All-contains_itself s.scene.table.rows);
    waiting = All-weaker (λ q. IsTrue (has_session s.scene.sessions q.client.0)) (λ q. IsTrue (has_session sessions q.client.0)) (λ q. spares.connected q.client.0) s.scene.locks.queue sound.waiting;
    messages = All-weaker (λ m. IsTrue (has_session s.scene.sessions m.client.0)) (λ m. IsTrue (has_session sessions m.client.0)) (λ m. spares.connected m.client.0) s.messages sound.messages;
    locked = λ ino. locked_at ino (map.contains_key s.scene.tree.nodes ino) refl;
    strays = λ ino gone. sound.strays ino (spares.strays ino gone);
    in_place = λ row part found. in_place row part (found-contains (is_row_of row.holder) s.scene.table.rows row found) (sound.in_place row part found);
    at_rest = record { each = λ ino part. resting_at ino part (map.contains_key s.scene.tree.nodes ino) refl };
  }

  pub stays-finished : IsTable s.scene.table → finished s.scene (with_parts s.scene tree sessions states) (with_parts s.scene tree sessions states) ≡ with_parts s.scene tree sessions states
  stays-finished table =
      same-finished (with_scene s (with_parts s.scene tree sessions states)) stays-sound table s.scene (λ row inside. ap (minus row.entry.held) (sym (same_against row inside)))

  -- what is known of each entry is known
  pub stays-known : (sets : ClientViews) → AreKnown sets s.scene → AreKnown sets (with_parts s.scene tree sessions states)
  stays-known sets known k e there =
      let row : EntryRow = record { holder = k; entry = e } in
      let inside : Contains s.scene.table.rows row = found-contains (is_row_of k) s.scene.table.rows row (row_of-entry s.scene.table k e there) in
      known k e there ∙ ap (λ caps. Some (minus e.held caps)) (sym (same_against row inside))
