use Rattle.std.proofs.Common.{◌≡◌, ◌<◌, ◌==◌, ℕ, Option, sym, ap, subst, ◌∙◌, Bool, true, false, cond, Some, None, List, [], refl, Contains, eq-eqb}
use Rattle.std.proofs.Common.{true≢false}
use Rattle.std.proofs.lemmas.Bool.{eqb-true}
use Rattle.std.proofs.lemmas.List.Elements.{All-contains}
use Rattle.std.specs.List.{find}
use Rattle.std.specs.Option.{unwrap_or}
use Rattle.std.specs.FinMap as map
use Rattle.std.specs.FinSet as set
use Rattle.capbits.specs.Sets.{no_caps}
use Rattle.captable.proofs.OneByOne.{one_at_once}
use Rattle.step_acts.specs.Known.{HasAll}
use Rattle.capcore.proofs.CommonPieces.{AreCounted, Caps, ClientViews, Entry, EntryRow, Holder, InodeLocks, IsTable, KeptScene, KeptTable, KnownAnew, OthersHaveAll}
use Rattle.capcore.proofs.CommonPieces.{Scene, Table, changed_by, changed_where, entry_at, entry_of, entry_under, find_passes, found-contains, is_row_of, kept-as}
use Rattle.capcore.proofs.CommonPieces.{kept-none, known_anew, known_in, known_of, meet, none_found, permitted_of, plain, remade, renumbered, row_found}
use Rattle.capcore.proofs.CommonPieces.{pending-less, pending_at, pending_of, row_of-entry, same, same-is, same_equiv}
use Rattle.capcore.proofs.SoundEnd.{each-alike, none-sized, same-issue_row, same-renumbered}
use Rattle.capcore.proofs.IssuedRows.{counted-issued}
use Rattle.capcore.proofs.finish.finish_alone.Goals.{After-forget_affected, in-Some, in_default}
use Rattle.capcore.specs.Affected.{finished_at, finished_entry, forget_among, pending_then}
use Rattle.capcore.specs.Begun.{AreCountedIn}
use Rattle.capcore.specs.Serves.{EndsAt}
use Rattle.capcore.proofs.finish.finish_alone.Goals as goal

-- Where each other entry on the holder's inode has all, the end of a step at the inode is that of the holder's entry.

-- ---- an entry that has all

module _ (sets : ClientViews) (s : Scene) (row : EntryRow) (all : HasAll sets s row) where
  -- at the end its client is to know of what it is to know of already
  pending-alike : pending_then s row ≡ pending_of s row
  pending-alike = ap (pending_of s) (same-issue_row s row all.0)

  -- it stays
  entry-stays : finished_entry (known_in sets) s row ≡ row.entry
  entry-stays =
      let before : meet (known_in sets row.holder) row.entry.held ≡ pending_of s row =
      ap (λ (o : Option Caps). meet (unwrap_or o no_caps) row.entry.held) all.1 ∙ sym (pending-less s row row.entry (λ c held. held)) in
      ap (λ (r : EntryRow). renumbered (meet (known_in sets row.holder) row.entry.held) (pending_then s row) r.entry) (same-issue_row s row all.0)
      ∙ same-renumbered (meet (known_in sets row.holder) row.entry.held) (pending_then s row) row.entry (before ∙ sym pending-alike)

-- ---- the entries of an inode

module _ (sets : ClientViews) (s : Scene) (k : Holder) (others : OthersHaveAll sets s k) (table : IsTable s.table) where
  -- what the end of the step makes of an entry
  abbrev last : EntryRow → Entry
  last = finished_entry (known_in sets) s

  on-inode : (j : Holder) → same j k ≡ true → (j.ino.0 == k.ino.0) ≡ true
  on-inode j is = eq-eqb j.ino.0 k.ino.0 (ap (λ (h : Holder). h.ino.0) (same-is j k is))

  has-all : (row : EntryRow) → find (is_row_of row.holder) s.table.rows ≡ Some row → (row.holder.ino.0 == k.ino.0) ≡ true → same row.holder k ≡ false → HasAll sets s row
  has-all row found on off = others row.holder row.entry (eqb-true row.holder.ino.0 k.ino.0 on) off (ap entry_of found)

  row-alike : (row : EntryRow) → Contains s.table.rows row → cond (is_row_of k row) (remade last row) row ≡ cond (row.holder.ino.0 == k.ino.0) (remade last row) row
  row-alike row inside = ap (λ b. cond b (remade last row) row) (same_equiv.symm k row.holder) ∙ by_tests (same row.holder k) refl (row.holder.ino.0 == k.ino.0) refl
    where
      by_tests : (a : Bool) → same row.holder k ≡ a → (b : Bool) → (row.holder.ino.0 == k.ino.0) ≡ b → cond a (remade last row) row ≡ cond b (remade last row) row
      by_tests true is true on = refl
      by_tests true is false off = absurd (true≢false (sym (on-inode row.holder is) ∙ off))
      by_tests false apart true on = λ i. record row { entry = sym (entry-stays sets s row (has-all row (row_found s.table row table inside) on apart)) i }
      by_tests false apart false off = refl

  -- to change the holder's entry is to change all
  alone-changed : changed_by last s.table k ≡ changed_where (λ row. row.holder.ino.0 == k.ino.0) last s.table
  alone-changed =
      ap (λ (rows : List EntryRow). record s.table { rows = rows }) (one_at_once last k s.table.rows table.one_row
      ∙ each-alike (λ row. cond (is_row_of k row) (remade last row) row) (λ row. cond (row.holder.ino.0 == k.ino.0) (remade last row) row) s.table.rows row-alike)

  -- and to keep anew what the holder's client is to know of, is to keep it of all
  alone-kept : (now : ClientViews) → KnownAnew (λ j. same j k) (pending_then s) s.table sets now → KnownAnew (λ j. j.ino.0 == k.ino.0) (pending_then s) s.table sets now
  alone-kept now kept j = kept j ∙ by_tests (same j k) refl (j.ino.0 == k.ino.0) refl (find (is_row_of j) s.table.rows) refl
    where
      by_tests : (a : Bool) → same j k ≡ a → (b : Bool) → (j.ino.0 == k.ino.0) ≡ b → (o : Option EntryRow) → find (is_row_of j) s.table.rows ≡ o
          → known_anew a (pending_then s) o (known_of sets j) ≡ known_anew b (pending_then s) o (known_of sets j)
      by_tests true is true on o found = refl
      by_tests true is false off o found = absurd (true≢false (sym (on-inode j is) ∙ off))
      by_tests false apart false off o found = refl
      by_tests false apart true on None found = refl
      by_tests false apart true on (Some row) found =
          let mine : j ≡ row.holder = same-is j row.holder (find_passes (is_row_of j) s.table.rows row found) in
          let all = has-all row (ap (λ h. find (is_row_of h) s.table.rows) (sym mine) ∙ found) (ap (λ (h : Holder). h.ino.0 == k.ino.0) (sym mine) ∙ on) (ap (λ h. same h k) (sym mine) ∙ apart) in
          ap (known_of sets) mine ∙ all.1 ∙ ap Some (sym (pending-alike sets s row all))

pub finish_row-requires : goal.finish_row-requires
finish_row-requires c =
    let k : Holder = c.args.holder in
    let t : Table = c.args.scene.now.table.entries in
    let found : entry_at t k ≡ Some c.in-Some.entry = cc in
    record {
      there = found;
      permitted = c.requires.entries.permitted k c.in-Some.entry found;
      number = All-contains (λ row. row.entry.seq < 18446744073709551615) t.rows (record { holder = k; entry = c.in-Some.entry }) c.requires.entries.numbers
          (found-contains (is_row_of k) t.rows (record { holder = k; entry = c.in-Some.entry }) (row_of-entry t k c.in-Some.entry found));
    }

module _ (c : After-forget_affected) where
  abbrev settled : Scene
  settled = plain c.args.scene.now

  abbrev t : Table
  t = settled.table

  abbrev k : Holder
  k = c.args.holder

  abbrev was : ClientViews
  was = c.args.scene.now.table.kept

  abbrev g : EntryRow → Entry
  g = finished_entry (known_in was) settled

  -- the holder's entry has ended
  record EndsOne (now : KeptScene) : Type 0 where
    pub rest : now ≡ record c.args.scene.now { table = now.table }
    pub changed : now.table.entries ≡ changed_by g t k
    pub kept : KnownAnew (λ j. same j k) (pending_then settled) t was now.table.kept
    pub permitted : (j : Holder) → permitted_of now.table.kept j ≡ permitted_of was j

  one : EndsOne c.match-find.scene
  one = elim c.match-find.branch [
    | in-Some w ↦ (let here = w.of_ino-now.ensures in
        subst EndsOne (sym w.scene-is) (record {
          rest = refl;
          changed = w.finish_row.ensures.table ∙ ap (λ (o : Option InodeLocks). changed_by (entry_under (known_in was) settled.fs settled.tree settled.sessions o) t k) here;
          kept = kept-as (λ j. same j k) (pending_at settled.fs settled.tree settled.sessions w.of_ino-now.result) (pending_then settled) t was w.finish_row.new.table.kept
              (λ row mine. ap (λ (o : Option InodeLocks). pending_at settled.fs settled.tree settled.sessions o row) (here ∙ sym (ap (λ (h : Holder). map.get settled.locks.states h.ino.0) (same-is row.holder k mine))))
              w.finish_row.ensures.known;
          permitted = w.finish_row.ensures.permitted;
        }))
    | in_default w ↦ (let none : entry_at t k ≡ None = cc in
        subst EndsOne (sym w.scene-is) (record { rest = refl; changed = none_found t k (λ e. g (record { holder = k; entry = e })) none; kept = kept-none (pending_then settled) t was k none; permitted = λ j. refl }))
  ]

  -- and with it all on its inode have
  all_changed : c.match-find.scene.table.entries ≡ changed_where (λ row. row.holder.ino.0 == k.ino.0) g t
  all_changed = one.changed ∙ alone-changed was settled k c.requires.others c.find.ensures.sound

pub returns-clause-ends : goal.returns-clause-ends
returns-clause-ends c =
    let ended = one c in
    subst (λ (u : KeptTable). EndsAt (set.contains c.args.affected.now) [] (was c) u.kept (settled c) (plain c.forget_affected.new.scene)) (sym c.forget_affected.ensures.table)
    (subst (λ (at : ℕ → Bool). EndsAt at [] (was c) c.match-find.scene.table.kept (settled c) (plain c.forget_affected.new.scene)) (sym c.requires.alone) (record {
      finished =
          c.forget_affected.ensures.left
          ∙ (λ i. forget_among (c.requires.alone i) (plain (ended.rest i)))
          ∙ (λ i. forget_among (λ other. other == (k c).ino.0) (record (settled c) { table = all_changed c i }))
          ∙ ap (finished_at (λ other. other == (k c).ino.0) (known_in (was c))) (sym (none-sized (settled c)));
      kept =
          subst (λ (s : Scene). KnownAnew (λ j. j.ino.0 == (k c).ino.0) (pending_then s) s.table (was c) c.match-find.scene.table.kept) (sym (none-sized (settled c)))
          (alone-kept (was c) (settled c) (k c) c.requires.others c.find.ensures.sound c.match-find.scene.table.kept ended.kept);
      permitted = ended.permitted;
    }))

pub returns-clause-counted : goal.returns-clause-counted
returns-clause-counted c = λ all.
    let ended = one c in
    c.forget_affected.ensures.counted
    (subst AreCountedIn (sym ended.rest)
    (subst (λ (u : Table). AreCounted u c.args.scene.now.locks) (sym (all_changed c)) (counted-issued (known_in (was c)) (settled c) (λ other. other == (k c).ino.0) c.args.scene.now.locks refl all)))
