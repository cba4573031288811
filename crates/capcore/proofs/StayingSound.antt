-- A sound state stays sound after the step of an event that affected some inodes.
use Rattle.std.proofs.Common.{◌≡◌, ◌≤◌, ℕ, ◌+◌, ◌==◌, Bool, true, false, is_some, List, refl, sym, ap, subst, ◌∙◌, ◌++◌, Contains, arith, IsTrue, All, nat_le}
use Rattle.std.proofs.lemmas.List.Elements.{All-append, All-contains, All-filter, All-map, All-same, All-weaker}
use Rattle.std.specs.Cmp.{nat_eq_equiv}
use Rattle.std.specs.List.{list_any}
use Rattle.std.specs.FinMap as map
use Rattle.capbits.specs.Caps.{has}
use Rattle.lockmachine.proofs.Rest.{at_rest}
use Rattle.capstep.specs.Step.{earlier}
use Rattle.capcore.proofs.CommonPieces.{AreGiven, Caps, ClientId, EntryRow, Gone, Holder, IsAtRest, IsInRow, IsLockMap, IsSound, IsSoundEntry, IsSubset}
use Rattle.capcore.proofs.CommonPieces.{IsTable, IsTree, Made, P, Part, Scene, SessionTable, State, Table, allowed_under, ended_in, find-filter_kept}
use Rattle.capcore.proofs.CommonPieces.{has_session, is_of_inode, is_row_of, issuable, meet, presence, row_found, same-is, state_at_end}
use Rattle.capcore.proofs.EndsThere.{off_issuable}
use Rattle.capcore.proofs.EntryRequests.{IsSoundInRow, sound-row, sound_in_row-left}
use Rattle.capcore.proofs.Forgotten.{all_rows, sound-forgotten}
use Rattle.capcore.proofs.IssuedRows.{by_place, effective-ended, ended_row, holds-issuable, holds-pin, in_row-ended, issued_at, last_row, of_inode-last, on_it}
use Rattle.capcore.proofs.IssuedRows.{rest-issued, revoked-ended, seq-ended, told-ended, want-ended}
use Rattle.capcore.proofs.Moved.{IsMoved, Waited, all-waiting, ended-waited, moved-all, nobody-moved, nothing-served}
use Rattle.capcore.proofs.SameOff.{IsSameFrom, any_elsewhere, from-first, not-among, row_elsewhere}
use Rattle.capcore.proofs.Telling.{any-map_same}
use Rattle.capcore.specs.Affected.{Affects, IsAffectedEntry, Knows, SettlesAt, finished_at}

-- ---- the step

module _ (at from : ℕ → Bool) (known : Holder → Caps) (old affected : State) (moves : List Made) (settled : Scene) (sound : IsSound old) (tree : IsTree settled.tree) (table : IsTable affected.scene.table)
    (order : IsLockMap affected.scene.locks) (affects : Affects from old affected) (knows : Knows known old.scene affected.scene.table) (settles : SettlesAt at from moves affected.scene settled) where
  abbrev first : Scene
  first = affected.scene

  abbrev last : Scene
  last = issued_at known settled at

  abbrev on : EntryRow → Bool
  on = on_it known settled at

  abbrev last_of : EntryRow → EntryRow
  last_of = last_row known settled at

  abbrev rows : List EntryRow
  rows = settled.table.rows

  -- the entries are those that the event left; and where one has not its pin yet, the tree is as the event left it
  module _ (moved : IsMoved first settled) (same : IsSameFrom at old.scene settled) (knows_then : Knows known old.scene settled.table)
      (calm : (row : EntryRow) → Contains first.table.rows row → has row.entry.held P ≡ false → settled.tree ≡ first.tree) where
    -- ---- rest

    rest_last : IsAtRest last
    rest_last = rest-issued known settled at (at_rest settled (grind (arith, nobody-moved)) settles.settles.settled)

    -- ---- rows of other inodes are those of the old state

    first_row : (row : EntryRow) → Contains rows row → Contains first.table.rows row
    first_row row inside = subst (λ (t : Table). Contains t.rows row) moved.table inside

    old_row : (row : EntryRow) → Contains rows row → from row.holder.ino.0 ≡ false → Contains old.scene.table.rows row
    old_row row inside off = row_elsewhere from old.scene.table first.table affects.same.entries row (first_row row inside) off

    of_its_inode : (k : Holder) (row : EntryRow) → is_row_of k row ≡ true → is_of_inode k.ino row ≡ true
    of_its_inode k row is = ap (λ (h : Holder). h.ino.0 == k.ino.0) (sym (same-is k row.holder is)) ∙ nat_eq_equiv.refl k.ino.0

    -- what every state keeps of such a row, it keeps; so by itself the event leaves each row as one of its inode
    sound_row : (row : EntryRow) → Contains rows row → from row.holder.ino.0 ≡ false → IsSoundInRow old.scene row
    sound_row row inside off = sound-row old sound row (old_row row inside off) (grind (arith, find-filter_kept, of_its_inode, row_found, first_row))

    affected_row : (row : EntryRow) → Contains rows row → IsAffectedEntry first row
    affected_row row inside =
        elim (from row.holder.ino.0) as (λ b. from row.holder.ino.0 ≡ b → IsAffectedEntry first row) [
          | true ↦ λ is. affects.each row (first_row row inside) is
          | false ↦ λ off. sound_in_row-left old.scene first row (ap is_some (affects.same.sessions row (old_row row inside off) off)) affects.states affects.exist (sound_row row inside off)
        ] refl

    -- ---- what is held is in its rows

    in_row_settled : (row : EntryRow) → Contains rows row → (part : Part) → IsInRow settled row part
    in_row_settled row inside part = moved.in_rows row part (first_row row inside) ((affected_row row inside).in_row part)

    in_row_last : (row : EntryRow) → Contains rows row → (part : Part) → IsInRow settled (last_of row) part
    in_row_last row inside part =
        by_place known settled at (λ r. IsInRow settled r part) row (λ here. in_row-ended known settled row part (in_row_settled row inside part)) (λ off. in_row_settled row inside part)

    -- ---- entries

    has_session_still : (client : ℕ) → IsTrue (has_session first.sessions client) → IsTrue (has_session settled.sessions client)
    has_session_still client is = subst (λ (t : SessionTable). IsTrue (has_session t client)) (sym moved.sessions) is

    entry_here : (row : EntryRow) → Contains rows row → IsAffectedEntry first row → IsSoundEntry last (ended_row known settled row)
    entry_here row inside entry = record {
      of_session = has_session_still row.holder.client.0 entry.of_session;
      on_inode = moved.nodes row.holder.ino.0 ∙ entry.on_inode;
      holds_pin = holds-pin known settled row (grind arith);
      wants_pin = ap (λ caps. has caps P) (want-ended known settled row) ∙ entry.wants_pin;
      has_issuable = λ c is_issuable. holds-issuable known settled row c (ap (λ caps. has caps c) (sym issuable_as_before) ∙ is_issuable);
      told = told-ended known settled row entry.told;
      revoked = revoked-ended known settled row entry.revoked;
    }
      where
        issuable_as_before : issuable last (ended_row known settled row) ≡ issuable settled row
        issuable_as_before = λ i. meet (effective-ended known settled row settled.fs settled.tree settled.sessions i) (allowed_under (map.get settled.locks.states row.holder.ino.0) row)

    settled_table : IsTable settled.table
    settled_table = subst IsTable (sym moved.table) table

    -- the same inodes are there
    there_still : (q : ℕ) → map.contains_key settled.tree.nodes q ≡ map.contains_key old.scene.tree.nodes q
    there_still q = moved.nodes q ∙ affects.exist q

    entry_elsewhere : (row : EntryRow) → Contains rows row → on row ≡ false → IsSoundEntry last row
    entry_elsewhere row inside off =
        let was = All-contains (IsSoundEntry old.scene) old.scene.table.rows row sound.entries (old_row row inside (not-among from at settles.among row.holder.ino.0 off)) in
        record {
          of_session = ap is_some (same.sessions row inside off) ∙ was.of_session;
          on_inode = there_still row.holder.ino.0 ∙ was.on_inode;
          holds_pin = was.holds_pin;
          wants_pin = was.wants_pin;
          has_issuable = subst (λ caps. IsSubset caps row.entry.held) (sym (off_issuable at known old settled sound settled_table same tree knows_then row inside off)) was.has_issuable;
          told = was.told;
          revoked = was.revoked;
        }

    entry_last : (row : EntryRow) → Contains rows row → IsSoundEntry last (last_of row)
    entry_last row inside =
        by_place known settled at (IsSoundEntry last) row (λ here. entry_here row inside (affected_row row inside)) (λ off. entry_elsewhere row inside off)

    -- ---- inodes

    locked_last : (q : ℕ) → map.contains_key settled.locks.states q ≡ map.contains_key settled.tree.nodes q
    locked_last q = moved.states q ∙ affects.locked q ∙ sym (moved.nodes q)

    strays_last : (q : ℕ) → at q ≡ false → presence settled.tree.nodes q ≡ Gone → IsTrue (list_any (is_of_inode (record { 0 = q })) last.table.rows)
    strays_last q off gone =
        let of_it = is_of_inode (record { 0 = q }) in
        any-map_same of_it last_of (of_inode-last known settled at q) rows
        ∙ any_elsewhere at old.scene.table settled.table same.entries q off ∙ sound.strays q (sym (same.presences q off) ∙ gone)

    -- ---- all together

    -- who waits has a session
    waiting_last : All (λ q. IsTrue (has_session settled.sessions q.client.0)) settled.locks.queue
    waiting_last =
        all-waiting (λ q. IsTrue (has_session settled.sessions q.client.0)) first settled moved
        (All-weaker (λ q. IsTrue (has_session first.sessions q.client.0)) (λ q. IsTrue (has_session settled.sessions q.client.0)) (λ q. has_session_still q.client.0) first.locks.queue affects.waiting)

    -- whose requests the moves ended, has a session
    ended-connected : All (λ m. IsTrue (has_session settled.sessions m.client.0)) (ended_in moves)
    ended-connected =
        All-weaker (Waited first.locks.queue) (λ m. IsTrue (has_session settled.sessions m.client.0))
        (λ m w. subst (λ (c : ClientId). IsTrue (has_session settled.sessions c.0)) (sym w.client)
        (has_session_still w.request.client.0 (All-contains (λ q. IsTrue (has_session first.sessions q.client.0)) first.locks.queue w.request affects.waiting w.inside)))
        (ended_in moves) (ended-waited first moves settled settles.settles.made)

    messages_last : All (λ m. IsTrue (has_session settled.sessions m.client.0)) (affected.messages ++ earlier old.scene.locks.last (ended_in moves))
    messages_last =
        All-append (λ m. IsTrue (has_session settled.sessions m.client.0)) affected.messages (earlier old.scene.locks.last (ended_in moves))
        (All-weaker (λ m. IsTrue (has_session first.sessions m.client.0)) (λ m. IsTrue (has_session settled.sessions m.client.0)) (λ m. has_session_still m.client.0) affected.messages affects.messages)
        (All-filter (λ m. nat_le m.ticket.0 old.scene.locks.last) (λ m. IsTrue (has_session settled.sessions m.client.0)) (ended_in moves) ended-connected)

    sound_last : IsSound (state_at_end old affected moves (finished_at at known settled))
    sound_last = sound-forgotten at (state_at_end old affected moves last) (record {
      entries = All-map (IsSoundEntry last) last_of rows (all_rows (λ row. IsSoundEntry last (last_of row)) rows entry_last);
      waiting = waiting_last;
      messages = messages_last;
      locked = locked_last;
      strays = strays_last;
      in_rows = All-map (λ row. (part : Part) → IsInRow last row part) last_of rows (all_rows (λ row. (part : Part) → IsInRow last (last_of row) part) rows in_row_last);
      at_rest = rest_last;
    }) tree

  moved-there : IsMoved first settled
  moved-there = moved-all first moves settled settles.settles.made

  pub sound-affected : IsSound (state_at_end old affected moves (finished_at at known settled))
  sound-affected =
      sound_last moved-there (from-first at from old.scene first settled settles.among affects.same settles.same) (subst (λ (t : Table). Knows known old.scene t) (sym moved-there.table) knows)
      (λ row inside none. (nothing-served first moves settled order (affects.calm row inside none) settles.settles.made).1)

-- ---- numbers

module _ (at from : ℕ → Bool) (known : Holder → Caps) (count : ℕ) (old affected : State) (moves : List Made) (settled : Scene) (settles : SettlesAt at from moves affected.scene settled)
    (numbers : All (λ row. row.entry.seq ≤ count) affected.scene.table.rows) (made : affected.scene.table.made ≤ count + 1) (given : affected.scene.locks.last ≤ count + 1) where
  moved-so : IsMoved affected.scene settled
  moved-so = moved-all affected.scene moves settled settles.settles.made

  numbers_last : All (λ row. row.entry.seq ≤ count + 1) (issued_at known settled at).table.rows
  numbers_last =
      All-map (λ row. row.entry.seq ≤ count + 1) (last_row known settled at) settled.table.rows
      (All-weaker (λ row. row.entry.seq ≤ count) (λ row. (last_row known settled at row).entry.seq ≤ count + 1)
      (λ row was. by_place known settled at (λ r. r.entry.seq ≤ count + 1) row (λ here. seq-ended known settled row count was) (λ off. omega (arith, was)))
      settled.table.rows (All-same (λ row. row.entry.seq ≤ count) settled.table.rows affected.scene.table.rows (ap (λ (t : Table). t.rows) moved-so.table) numbers))

  pub given-affected : AreGiven (count + 1) (state_at_end old affected moves (finished_at at known settled))
  given-affected = record {
    entries = numbers_last;
    last = omega (arith, moved-so.last, given);
    made = (let same : settled.table.made ≡ affected.scene.table.made = ap (λ (t : Table). t.made) moved-so.table in omega (arith, same, made));
  }
