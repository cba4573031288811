-- Where nobody has an entry and nobody waits, locks in SYNC are settled.
use Rattle.std.proofs.Common.{◌≡◌, ℕ, false, Option, Some, None, [], refl, ap, ◌∙◌}
use Rattle.std.specs.List.{find}
use Rattle.std.specs.FinMap as map
use Rattle.capbits.specs.declared.cap.Part.{Part}
use Rattle.capbits.specs.declared.cap.Part.TheVariants.{A, F, L, X}
use Rattle.capbits.specs.declared.ids.ClientId.{ClientId}
use Rattle.capbits.specs.Caps.{Caps, caps_where, has}
use Rattle.capbits.specs.Sets.{no_caps}
use Rattle.locktable.specs.declared.states.StableState.{StableState}
use Rattle.locktable.specs.declared.states.StableState.TheVariants.{Sync}
use Rattle.locktable.specs.declared.states.LockState.TheVariants.{Stable}
use Rattle.locktable.specs.declared.targets.Head.TheVariants.{Empty}
use Rattle.locktable.specs.Targets.{target_of}
use Rattle.lockmachine.specs.declared.states.InodeLocks.{InodeLocks}
use Rattle.lockmachine.specs.declared.moves.Move.TheVariants.{Settled}
use Rattle.lockmachine.specs.Inodes.{in_sync, lock_in}
use Rattle.lockmachine.specs.Scene.{Scene, target}
use Rattle.lockmachine.specs.Moves.{LockId, first_move, lock_ids, may_begin, may_end, may_serve}
use Rattle.lockmachine.specs.Cursors.{begin_or_rest, end_or_serve, serve_or_begin}
use Rattle.lockmachine.proofs.FirstMove.{first-found}
use Rattle.lockmachine.proofs.Finding.{find_none}

-- the locks of an inode, if it has any, are in SYNC
abbrev pub InSync : Scene → Type 0
InSync s = (ino : ℕ) (locks : InodeLocks) → map.get s.locks.states ino ≡ Some locks → locks ≡ in_sync

-- a lock that nobody wants stays where it is
unwanted : (part : Part) (state : StableState) (loner : Option (ClientId × Caps)) → target_of part state Empty loner no_caps ≡ state
unfolding target_of no_caps has caps_where
unwanted A state loner = refl
unwanted L state loner = refl
unwanted X state loner = refl
unwanted F state loner = refl

each_in_sync : (part : Part) → lock_in part in_sync ≡ Stable Sync
each_in_sync A = refl
each_in_sync L = refl
each_in_sync X = refl
each_in_sync F = refl

module _ (s : Scene) (rows : s.table.rows ≡ []) (queue : s.locks.queue ≡ []) (sync : InSync s) where
  stays : (ino : ℕ) (part : Part) (state : StableState) → target s ino part state ≡ state
  stays ino part state = rw (rows, queue) (unwanted part state None)

  in_no_gather : (at : LockId) (o : Option InodeLocks) → map.get s.locks.states at.0 ≡ o → may_end s at ≡ false
  in_no_gather at None is = rw is refl
  in_no_gather at (Some locks) is = rw (is, sync at.0 locks is, each_in_sync at.1) refl

  at_target : (at : LockId) (o : Option InodeLocks) → map.get s.locks.states at.0 ≡ o → may_begin s at ≡ false
  at_target at None is = rw is refl
  at_target at (Some locks) is = rw (is, sync at.0 locks is, each_in_sync at.1, stays at.0 at.1 Sync) refl

  pub idle : first_move s ≡ Settled
  idle =
      first-found s
      ∙ ap (end_or_serve s) (find_none (may_end s) (lock_ids s.locks) (λ at inside. in_no_gather at (map.get s.locks.states at.0) refl))
      ∙ ap (λ q. serve_or_begin s (find (may_serve s.locks) q)) queue
      ∙ ap (begin_or_rest s) (find_none (may_begin s) (lock_ids s.locks) (λ at inside. at_target at (map.get s.locks.states at.0) refl))
