-- A recall is a whole step: it marks entries as asked for, by which nothing is judged, moved or issued.
use Rattle.std.proofs.Common.{◌≡◌, ◌≤◌, ℕ, Bool, true, ◌||◌, List, [], take, refl, sym, subst, arith}
use Rattle.std.proofs.lemmas.List.Elements.{All-map}
use Rattle.capstep.specs.Recorded.{twice}
use Rattle.capcore.proofs.SoundEnd.{same-finished}
use Rattle.capcore.proofs.Telling.{as_sized, as_told, retold, retold-sound, retold_table}
use Rattle.capcore.proofs.Common.{AreGiven, ClientViews, EntryRow, Event, HoldAlike, Holder, IsReplied, IsSound, IsTable, IsTable-recalled, Reply, State}
use Rattle.capcore.proofs.Common.{StepReply, Table, alike-where, finished, is_among, recalled, with_table}
use Rattle.capcore.proofs.Sounding.{later-given}
use Rattle.capcore.proofs.Steps.{direct-answered}
use Rattle.capcore.proofs.Unaffected.{alike-kept}
use Rattle.capcore.specs.UnderWay.{AreKept}

-- who was named is asked, and who was asked before
abbrev asked_too : List Holder → EntryRow → Bool
asked_too named row = is_among named row.holder || row.entry.asked

recalled-retold : (t : Table) (n : ℕ) → recalled t n ≡ retold_table as_told as_sized (asked_too (take n t.recall)) t
recalled-retold t n = grind arith

module _ (old : State) (sound : IsSound old) (count : ℕ) where
  abbrev named : List Holder
  named = take count old.scene.table.recall

  abbrev new : State
  new = with_table old (recalled old.scene.table count)

  pub recalled-sound : IsSound (with_table old (recalled old.scene.table count))
  recalled-sound =
      subst (λ t. IsSound (with_table old t)) (sym (recalled-retold old.scene.table count))
      (retold-sound old as_told as_sized (asked_too named) old.messages sound.messages (λ row below. below) sound)

  -- what each client is to know that it holds is what it was
  pub recalled-finished : IsTable old.scene.table → finished old.scene (with_table old (recalled old.scene.table count)).scene (with_table old (recalled old.scene.table count)).scene ≡ (with_table old (recalled old.scene.table count)).scene
  recalled-finished table = same-finished new recalled-sound (IsTable-recalled old.scene.table count table) old.scene (λ row inside. refl)

  pub recall-answered : (step_reply : StepReply) → IsTable old.scene.table → step_reply.reply ≡ twice (Reply.Recalled (take count old.scene.table.recall)) → step_reply.ended ≡ []
      → IsReplied old (Event.Recall count) step_reply (with_table old (recalled old.scene.table count))
  recall-answered step_reply table answers none =
      direct-answered old new (Event.Recall count) refl (Reply.Recalled (take count old.scene.table.recall)) (record { reply_is = refl; state_is = refl })
      recalled-sound (recalled-finished table) step_reply
      (λ most given. later-given most new (
      subst (λ t. AreGiven most (with_table old t)) (sym (recalled-retold old.scene.table count))
      (record { entries = All-map (λ row. row.entry.seq ≤ most) (retold as_told as_sized (asked_too named)) old.scene.table.rows given.entries; last = given.last; made = given.made }))) answers none

  -- each entry holds what it held
  pub recalled-stays : (sets : ClientViews) → AreKept sets old.scene → AreKept sets (with_table old (recalled old.scene.table count)).scene
  recalled-stays sets kept =
      alike-kept sets old.scene (recalled old.scene.table count)
      (subst (HoldAlike old.scene.table) (sym (recalled-retold old.scene.table count))
      (alike-where (λ row. true) (λ row. (retold as_told as_sized (asked_too named) row).entry) old.scene.table (λ row. refl))) kept
