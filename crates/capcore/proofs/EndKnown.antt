-- At the end of a step that affected some inodes it is known of each entry what its client is to know of.
use Rattle.std.proofs.Common.{◌≡◌, ℕ, Bool, true, false, Some, List, Contains, sym, ap, subst, ◌∙◌, true≢false}
use Rattle.std.proofs.lemmas.Bool.{false_from_ne_true}
use Rattle.captable.proofs.ByHolder.{row_found}
use Rattle.captable.specs.Table.{entry_of}
use Rattle.capcore.proofs.Knowing.{still-known}
use Rattle.capcore.proofs.SizesOwed.{sizes-known}
use Rattle.capcore.specs.Affected.{pending_then}
use Rattle.step_acts.specs.Known.{KnownAnew}
use Rattle.lockmachine.specs.Scene.{pending_of}
use Rattle.capcore.proofs.Common.{Affects, AreKnown, ClientViews, Ended, EndsWith, EntryRow, Ino, IsSound, IsTable, Knows, Scene, SettlesWith, State}
use Rattle.capcore.proofs.Common.{StillKnown, finished_at, known_in, known_of, row_elsewhere, sizes_owed}

module _ (before was now : ClientViews) (from : ℕ → Bool) (old affected : State) (sound : IsSound old) (old_table : IsTable old.scene.table) (table : IsTable affected.scene.table)
    (affects : Affects from old affected) (known : AreKnown before old.scene) (still : StillKnown old.scene.table affected.scene.table before was) (knows : Knows (known_in was) old.scene affected.scene.table)
    (last : Scene) (ended_now : List Ended) (ends : EndsWith from was now affected.scene last ended_now) where
  abbrev settles : SettlesWith ends.at from affected.scene ends.settled ended_now ends.sized
  settles = ends.settles

  -- elsewhere entries are as they were
  elsewhere : (row : EntryRow) → Contains affected.scene.table.rows row → from row.holder.ino.0 ≡ false → known_of was row.holder ≡ Some (pending_of old.scene row)
  elsewhere row inside off =
      let inside_old : Contains old.scene.table.rows row = row_elsewhere from old.scene.table affected.scene.table affects.same.entries row inside off in
      still-known before was old.scene affected.scene.table known still row.holder row.entry row.entry
      (ap entry_of (row_found affected.scene.table row table inside)) (ap entry_of (row_found old.scene.table row old_table inside_old))

  off_from : (row : EntryRow) → ends.at row.holder.ino.0 ≡ false → from row.holder.ino.0 ≡ false
  off_from row off = false_from_ne_true (from row.holder.ino.0) (λ is. true≢false (sym (settles.settles.among row.holder.ino.0 is) ∙ off))

  pub ends-known : AreKnown now last
  ends-known =
      subst (AreKnown now) (sym (ends.finished ∙ ap (λ (sized : List Ino). finished_at ends.at (known_in was) (sizes_owed sized ends.settled)) settles.sized_is))
      (sizes-known ends.at from (known_in was) old affected settles.moves ends.settled sound ends.tree table affects knows settles.settles was now
      (λ row inside off. elsewhere row inside (off_from row off))
      (subst (λ (sized : List Ino). KnownAnew (λ k. ends.at k.ino.0) (pending_then (sizes_owed sized ends.settled)) (sizes_owed sized ends.settled).table was now) settles.sized_is ends.kept))
