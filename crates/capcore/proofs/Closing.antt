-- What the calls of the step of an event about one inode come to.
use Rattle.std.proofs.Common.{◌≡◌, ◌≤◌, ◌<◌, ◌^◌, ◌-◌, ℕ, ◌+◌, ◌==◌, Bool, true, false, is_some, List, Contains, refl, sym, ap, subst, ◌∙◌, arith, IsTrue, All}
use Rattle.std.proofs.lemmas.Bool.{eqb-true}
use Rattle.std.proofs.lemmas.List.Elements.{All-contains, All-weaker}
use Rattle.capcore.proofs.Forgotten.{all_rows}
use Rattle.lockmachine.proofs.SameOutside.{outside-one, rest-outside}
use Rattle.capcore.specs.Affected.{finished_entry}
use Rattle.capcore.proofs.Common.{Affects, AffectsOne, ArePermittedIn, ClientViews, Ended, EndsWith, EntryRow, HaveOwnNumbers, Ino, IsAffectedEntry, IsLockMap}
use Rattle.capcore.proofs.Common.{IsSound, IsSoundEntry, IsTable, MakesAll, MayEnd, MaySettle, Scene, SessionTable, SettlesWith, State, Ticket, but_for}
use Rattle.capcore.proofs.Common.{earlier, entries_on, filter-contains, first_for, has_session, is_of_inode, is_sized, known_in, lock_at, moved-all, owed}
use Rattle.capcore.proofs.Common.{row_elsewhere, sizes_owed, table-where, with_scene}
use Rattle.capcore.proofs.EndedIn.{earlier-all, earlier-but_own, own-numbers}

-- ---- the numbers of those that a settling ends

module _ (at from : ℕ → Bool) (first settled : Scene) (ended_now : List Ended) (sized : List Ino) (settles : SettlesWith at from first settled ended_now sized) where
  made : MakesAll first settles.moves settled
  made = settles.settles.settles.made

  pub ended_now-own_numbers : HaveOwnNumbers ended_now
  ended_now-own_numbers = subst HaveOwnNumbers (sym settles.ended_is) (own-numbers first settles.moves settled made)

  pub ended_now-all : IsLockMap first.locks → earlier first.locks.last ended_now ≡ ended_now
  ended_now-all order = subst (λ (ms : List Ended). earlier first.locks.last ms ≡ ms) (sym settles.ended_is) (earlier-all first settled settles.moves made order)

  pub ended_now-but_own : IsLockMap first.locks → (last : ℕ) (own : Ticket) → own.0 ≡ last + 1 → first.locks.last ≡ last + 1 → earlier last ended_now ≡ but_for own ended_now
  ended_now-but_own order last own next given =
      subst (λ (ms : List Ended). earlier last ms ≡ but_for own ms) (sym settles.ended_is) (earlier-but_own first settled settles.moves made order last own next given)

-- ---- at the end the sessions are as they were, and each entry has one row still

pub ends-sessions : (from : ℕ → Bool) (was now : ClientViews) (first last : Scene) (ended_now : List Ended) → EndsWith from was now first last ended_now → last.sessions ≡ first.sessions
ends-sessions from was now first last ended_now ends = grind arith

pub ends-table : (from : ℕ → Bool) (was now : ClientViews) (first last : Scene) (ended_now : List Ended) → EndsWith from was now first last ended_now → IsTable first.table → IsTable last.table
ends-table from was now first last ended_now ends table =
    let then = sizes_owed ends.sized ends.settled in
    let moved = moved-all first ends.settles.moves ends.settled (made ends.at from first ends.settled ended_now ends.sized ends.settles) in
    subst (λ (s : Scene). IsTable s.table) (sym ends.finished)
    (table-where (λ row. ends.at row.holder.ino.0) (finished_entry (known_in was) then) then.table
    (table-where (is_sized ends.sized) owed ends.settled.table (subst IsTable (sym moved.table) table)))

-- ---- the entries, when the event alone has been applied

module _ (from : ℕ → Bool) (old affected : State) (sound : IsSound old) (affects : Affects from old affected) where
  abbrev rows : List EntryRow
  rows = affected.scene.table.rows

  -- what an entry on one of the inodes has, and what each entry of a sound state has elsewhere, all have
  affects-all : (Q : EntryRow → Type 0) → ((row : EntryRow) → IsAffectedEntry affected.scene row → Q row)
      → ((row : EntryRow) → Contains old.scene.table.rows row → from row.holder.ino.0 ≡ false → IsSoundEntry old.scene row → Q row) → All Q rows
  affects-all Q here elsewhere = all_rows Q rows (λ row inside. by_test row inside (from row.holder.ino.0) refl)
    where
      by_test : (row : EntryRow) → Contains rows row → (b : Bool) → from row.holder.ino.0 ≡ b → Q row
      by_test row inside true on = here row (affects.each row inside on)
      by_test row inside false off =
          let was = row_elsewhere from old.scene.table affected.scene.table affects.same.entries row inside off in
          elsewhere row was off (All-contains (IsSoundEntry old.scene) old.scene.table.rows row sound.entries was)

  affects-clients : All (λ row. IsTrue (has_session affected.scene.sessions row.holder.client.0)) rows
  affects-clients =
      affects-all (λ row. IsTrue (has_session affected.scene.sessions row.holder.client.0)) (λ row entry. entry.of_session)
      (λ row was off entry. ap is_some (affects.same.sessions row was off) ∙ entry.of_session)

  -- so the locks may settle behind it and the step may end
  pub affects-settles : IsLockMap affected.scene.locks → MaySettle from affected.scene
  affects-settles order = record { resting = rest-outside from old.scene affected.scene sound.at_rest affects.same; order = order }

  pub affects-ends : (sets : ClientViews) (count : ℕ) → count < 2 ^ 32 → All (λ row. row.entry.seq ≤ count) rows → ArePermittedIn sets affected.scene → MayEnd sets affected.scene
  affects-ends sets count less given permitted = record {
    numbers = All-weaker (λ (row : EntryRow). row.entry.seq ≤ count) (λ (row : EntryRow). row.entry.seq < 2 ^ 64 - 1) (λ row few. omega (arith, few, less)) rows given;
    clients = affects-clients;
    permitted = permitted;
  }

-- it affects the inodes of which there is but this one
pub affects-one : (ino : ℕ) (old : State) (first : Scene) → IsSound old → AffectsOne ino old first → Affects (λ other. other == ino) old (with_scene old first)
affects-one ino old first sound one = record {
  same = outside-one ino old.scene first one.same;
  states = one.states;
  exist = one.exist;
  locked = one.locked;
  waiting = one.waiting;
  messages = subst (λ (t : SessionTable). All (λ m. IsTrue (has_session t m.client.0)) old.messages) (sym one.same.sessions) sound.messages;
  at_lock = λ i part is none.
      ap (λ i. first_for first.locks.queue i part) (eqb-true i ino is)
      ∙ one.at_lock part (ap (λ i. lock_at first.locks i part) (sym (eqb-true i ino is)) ∙ none);
  each = λ row inside is.
      All-contains (IsAffectedEntry first) (entries_on first.table (record { 0 = ino })) row one.each
      (filter-contains (is_of_inode (record { 0 = ino })) first.table.rows row inside is);
  calm = one.calm;
}
