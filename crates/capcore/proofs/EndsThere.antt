-- The step of an event ends at the inodes that it affected.
use Rattle.std.proofs.Common.{◌≡◌, ℕ, ◌==◌, Bool, true, false, cond, not, ◌||◌, Option, Some, None, List, map, refl, sym, ap, subst, ◌∙◌, Contains, arith}
use Rattle.std.proofs.lemmas.List.Elements.{All-contains}
use Rattle.std.proofs.lemmas.Simd.{map-map}
use Rattle.std.specs.List.{find, list_any}
use Rattle.std.specs.Option.{option_map, option_map_or}
use Rattle.std.specs.Ordering.{nat_cmp}
use Rattle.std.specs.FinMap as finite
use Rattle.capbits.specs.Caps.{has}
use Rattle.lockmachine.proofs.Pending.{pending-same}
use Rattle.capcore.proofs.CommonPieces.{AreKnown, Cap, Caps, ClientViews, Entry, EntryRow, Holder, IsSound, IsSoundEntry, IsSubset, IsTable, IsTree, IssuesExactly}
use Rattle.capcore.proofs.CommonPieces.{KnownAnew, Made, Part, Scene, State, Table, entry_at, entry_of, find-map, find_passes, finished, forget, has-union, issuable}
use Rattle.capcore.proofs.CommonPieces.{is_gone, is_in_use, is_of_inode, is_row_of, issue, issue_row, known_anew, known_of, lock_at, lock_in, meet, number_row}
use Rattle.capcore.proofs.CommonPieces.{or_inside, pending_of, permitted, permitted-stays, presence, remade, renumbered, row_found, same, same-is, still_known}
use Rattle.capcore.proofs.SoundEnd.{each-alike, in_use_by, same-issue_row, same-renumbered}
use Rattle.capcore.proofs.Forgotten.{issuable-left}
use Rattle.capcore.proofs.LeftAlone.{found-contains}
use Rattle.capcore.proofs.Moved.{moved-all}
use Rattle.capcore.proofs.SameOff.{IsSameFrom, any_elsewhere, from-first, row_elsewhere}
use Rattle.capcore.proofs.Strays.{alike-retained, goes, in_use-held, retained-here}
use Rattle.capcore.proofs.Telling.{any-map_same}
use Rattle.capcore.specs.Affected.{Affects, Knows, SettlesAt, finished_at, finished_entry, pending_then, stays}

-- ---- an entry at the end

-- a new number changes no other field
pub field-renumbered : {V : Type 0} (field : Entry → V) → ((e : Entry) (seq revoked : ℕ) → field (record e { seq = seq; revoke_seq = revoked }) ≡ field e)
    → (before after : Caps) (e : Entry) → field (renumbered before after e) ≡ field e
field-renumbered field same before after e = grind arith

pub held-renumbered : (before after : Caps) (e : Entry) → (renumbered before after e).held ≡ e.held
held-renumbered = field-renumbered (λ e. e.held) (λ e seq revoked. refl)

pub want-renumbered : (before after : Caps) (e : Entry) → (renumbered before after e).want ≡ e.want
want-renumbered = field-renumbered (λ e. e.want) (λ e seq revoked. refl)

-- what is due depends on what is wanted alone
issuable-want : (s : Scene) (row : EntryRow) (e : Entry) → e.want ≡ row.entry.want → issuable s (record row { entry = e }) ≡ issuable s row
issuable-want s row e want = ap (λ (w : Caps). issuable s (record row { entry = record row.entry { want = w } })) want

-- ---- the end of the step

-- of a scene that is the old one off the inodes that the step affected
module _ (at : ℕ → Bool) (known : Holder → Caps) (old : State) (now : Scene) (sound : IsSound old) (is_table : IsTable now.table) (same_from : IsSameFrom at old.scene now)
    (tree : IsTree now.tree) (knows : Knows known old.scene now.table) where
  abbrev last : Scene
  last = forget (issue now)

  -- a row as it is at the end, and all of them
  abbrev pub ended : EntryRow → EntryRow
  ended row = cond (at row.holder.ino.0) (remade (finished_entry known now) row) row

  abbrev pub numbered : Scene
  numbered = record now { table = record now.table { rows = map ended now.table.rows } }

  -- ---- elsewhere nothing happens

  elsewhere : (other : ℕ) (part : Part) → at other ≡ false → lock_at now.locks other part ≡ lock_at old.scene.locks other part
  elsewhere = same_from.locks

  pub off_issuable : (row : EntryRow) → Contains now.table.rows row → at row.holder.ino.0 ≡ false → issuable now row ≡ issuable old.scene row
  off_issuable row inside off = grind arith

  off_may : (row : EntryRow) → Contains now.table.rows row → at row.holder.ino.0 ≡ false → permitted now.fs now.tree now.sessions row.holder ≡ permitted old.scene.fs old.scene.tree old.scene.sessions row.holder
  off_may row inside off = grind arith

  pub off_pending : (row : EntryRow) → Contains now.table.rows row → at row.holder.ino.0 ≡ false → pending_of now row ≡ pending_of old.scene row
  off_pending row inside off = pending-same now old.scene row (λ part. elsewhere row.holder.ino.0 part off) (off_may row inside off)

  pub off_held : (row : EntryRow) → Contains now.table.rows row → at row.holder.ino.0 ≡ false → IsSubset (issuable now row) row.entry.held
  off_held row inside off =
      let was = All-contains (IsSoundEntry old.scene) old.scene.table.rows row sound.entries (row_elsewhere at old.scene.table now.table same_from.entries row inside off) in
      subst (λ caps. IsSubset caps row.entry.held) (sym (off_issuable row inside off)) was.has_issuable

  -- ---- which inodes are in use

  in_use_elsewhere : (q : ℕ) → at q ≡ false → is_in_use (issue now) q ≡ true
  in_use_elsewhere q off = in_use_by (presence now.tree.nodes q) _ (λ gone.
      any-map_same (is_of_inode (record { 0 = q })) (issue_row now) (λ row. refl) now.table.rows
      ∙ any_elsewhere at old.scene.table now.table same_from.entries q off ∙ sound.strays q (sym (same_from.presences q off) ∙ gone))

  pub holder_ended : (row : EntryRow) → (ended row).holder ≡ row.holder
  holder_ended row =
      elim (at row.holder.ino.0) as (λ b. (cond b (remade (finished_entry known now) row) row).holder ≡ row.holder) [ true ↦ refl | false ↦ refl ]

  any_ended : (q : ℕ) → list_any (is_of_inode (record { 0 = q })) (map ended now.table.rows) ≡ list_any (is_of_inode (record { 0 = q })) now.table.rows
  any_ended q = any-map_same (is_of_inode (record { 0 = q })) ended (λ row. ap (λ (h : Holder). h.ino.0 == q) (holder_ended row)) now.table.rows

  any_issued : (q : ℕ) → list_any (is_of_inode (record { 0 = q })) (map (issue_row now) now.table.rows) ≡ list_any (is_of_inode (record { 0 = q })) now.table.rows
  any_issued q = any-map_same (is_of_inode (record { 0 = q })) (issue_row now) (λ row. refl) now.table.rows

  -- once they are issued as once they are numbered, the same inodes are in use
  in_use_issued : (q : ℕ) → is_in_use (issue now) q ≡ is_in_use now q
  in_use_issued q = ap (λ b. not (is_gone (presence now.tree.nodes q)) || b) (any_issued q)

  in_use_numbered : (q : ℕ) → is_in_use numbered q ≡ is_in_use now q
  in_use_numbered q = ap (λ b. not (is_gone (presence now.tree.nodes q)) || b) (any_ended q)

  -- and all others are
  stays_so : (q : ℕ) → is_in_use (issue now) q ≡ stays at numbered q
  stays_so q = grind (arith, in_use_issued, in_use_numbered, in_use_elsewhere)

  retained_map : {V : Type 0} (m : finite.FinMap nat_cmp V) → finite.retain_keys m (is_in_use (issue now)) ≡ finite.retain_keys m (stays at numbered)
  retained_map m = λ i. finite.retain_keys m (λ q. stays_so q i)

  in_use_row : (row : EntryRow) → Contains now.table.rows row → is_in_use (issue now) row.holder.ino.0 ≡ true
  in_use_row row inside = in_use_issued row.holder.ino.0 ∙ in_use-held now row inside

  -- ---- the rows

  -- an inode that somebody has an entry on keeps its locks
  locks_stay : (row : EntryRow) → Contains now.table.rows row → finite.get last.locks.states row.holder.ino.0 ≡ finite.get now.locks.states row.holder.ino.0
  locks_stay row inside = retained-here now.locks.states (is_in_use (issue now)) row.holder.ino.0 (in_use_row row inside)

  -- and what is permitted there, as what is forgotten is another inode
  may_last : (row : EntryRow) → Contains now.table.rows row → permitted last.fs last.tree last.sessions row.holder ≡ permitted now.fs now.tree now.sessions row.holder
  may_last row inside =
      permitted-stays now.fs now.tree last.tree now.sessions now.sessions row.holder
      (alike-retained now.tree (is_in_use (issue now)) tree (λ q gone. (goes (λ _. true) (issue now) q gone).1) row.holder.ino.0 (in_use_row row inside)) refl

  pending_last : (row : EntryRow) → Contains now.table.rows row → (e : Entry) → pending_of last (record row { entry = e }) ≡ pending_of now (record row { entry = e })
  pending_last row inside e = pending-same last now (record row { entry = e }) (λ part. ap (option_map (lock_in part)) (locks_stay row inside)) (may_last row inside)

  numbered_row : (row : EntryRow) → Contains now.table.rows row → number_row old.scene now last (issue_row now row) ≡ remade (finished_entry known now) row
  numbered_row row inside =
      let before : still_known old.scene (find (is_row_of row.holder) now.table.rows) ≡ meet (known row.holder) row.entry.held =
      ap (still_known old.scene) (row_found now.table row is_table inside) ∙ sym (knows row inside) in
      λ i. record row { entry = renumbered (before i) (pending_last row inside (issue_row now row).entry i) (issue_row now row).entry }

  -- elsewhere none has another number
  off_numbered : (row : EntryRow) → Contains now.table.rows row → at row.holder.ino.0 ≡ false → number_row old.scene now last (issue_row now row) ≡ row
  off_numbered row inside off = grind (arith, row_found, pending_last, same-issue_row, off_held, same-renumbered)

  one_row : (row : EntryRow) → Contains now.table.rows row → number_row old.scene now last (issue_row now row) ≡ ended row
  one_row row inside = grind (arith, numbered_row, off_numbered)

  -- ---- all together

  pub ends_there : finished old.scene now now ≡ finished_at at known now
  ends_there = λ i. record now {
    tree = record now.tree { nodes = retained_map now.tree.nodes i };
    table = record now.table { rows = (map-map (number_row old.scene now last) (issue_row now) now.table.rows ∙ each-alike (λ row. number_row old.scene now last (issue_row now row)) ended now.table.rows one_row) i };
    locks = record now.locks { states = retained_map now.locks.states i };
  }

  -- ---- what is known of each entry

  -- what is forgotten has no entry, so each client is told as before
  pending_finished : (row : EntryRow) → Contains now.table.rows row → (e : Entry) → pending_of (finished_at at known now) (record row { entry = e }) ≡ pending_of now (record row { entry = e })
  pending_finished row inside e =
      sym (λ i. pending_of (record now { tree = record now.tree { nodes = retained_map now.tree.nodes i }; locks = record now.locks { states = retained_map now.locks.states i } }) (record row { entry = e }))
      ∙ pending_last row inside e

  pub found_last : (k : Holder) → find (is_row_of k) (finished_at at known now).table.rows ≡ option_map ended (find (is_row_of k) now.table.rows)
  found_last k = find-map (is_row_of k) ended (λ row. ap (same k) (holder_ended row)) now.table.rows

  module _ (was sets : ClientViews) (off_known : (row : EntryRow) → Contains now.table.rows row → at row.holder.ino.0 ≡ false → known_of was row.holder ≡ Some (pending_of old.scene row))
      (kept : KnownAnew (λ k. at k.ino.0) (pending_then now) now.table was sets) where
    by_place : (row : EntryRow) → Contains now.table.rows row → (b : Bool) → at row.holder.ino.0 ≡ b
        → known_anew b (pending_then now) (Some row) (known_of was row.holder) ≡ Some (pending_of (finished_at at known now) (record row { entry = (cond b (remade (finished_entry known now) row) row).entry }))
    by_place row inside true on =
        let e : Entry = finished_entry known now row in
        let held : (issue_row now row).entry.held ≡ e.held = sym (held-renumbered (meet (known row.holder) row.entry.held) (pending_then now row) (issue_row now row).entry) in
        ap (λ (caps : Caps). Some (pending_of now (record row { entry = record (issue_row now row).entry { held = caps } }))) held ∙ ap Some (sym (pending_finished row inside e))
    by_place row inside false off = off_known row inside off ∙ ap Some (sym (off_pending row inside off)) ∙ ap Some (sym (pending_finished row inside row.entry))

    pub known-there : AreKnown sets (finished_at at known now)
    known-there k e there = by_found (find (is_row_of k) now.table.rows) refl
      where
        by_found : (o : Option EntryRow) → find (is_row_of k) now.table.rows ≡ o → known_of sets k ≡ Some (pending_of (finished_at at known now) (record { holder = k; entry = e }))
        by_found None none = let gone : entry_at (finished_at at known now).table k ≡ None = ap entry_of (found_last k ∙ ap (option_map ended) none) in absurd (cc)
        by_found (Some row) is =
            let inside : Contains now.table.rows row = found-contains (is_row_of k) now.table.rows row is in
            let mine : k ≡ row.holder = same-is k row.holder (find_passes (is_row_of k) now.table.rows row is) in
            let then : entry_at (finished_at at known now).table k ≡ Some (ended row).entry = ap entry_of (found_last k ∙ ap (option_map ended) is) in
            let e_is : e ≡ (ended row).entry = cc in
            kept k ∙ (λ i. known_anew (at (mine i).ino.0) (pending_then now) (is i) (known_of was (mine i))) ∙ by_place row inside (at row.holder.ino.0) refl
            ∙ (λ i. Some (pending_of (finished_at at known now) (record { holder = sym mine i; entry = sym e_is i })))

  -- ---- what is newly held

  module _ where
    -- what is forgotten has no entry, and none elsewhere reads it
    pub issuable_last : (row : EntryRow) → Contains now.table.rows row → issuable (finished_at at known now) row ≡ issuable now row
    issuable_last row inside = issuable-left at numbered tree row (in_use_numbered row.holder.ino.0 ∙ in_use-held now row inside)

    pub held_last : (row : EntryRow) (cap : Cap) → Contains now.table.rows row → has (ended row).entry.held cap ≡ (has row.entry.held cap || has (issuable (finished_at at known now) (ended row)) cap)
    held_last row cap inside = elim (at row.holder.ino.0) as (λ b. at row.holder.ino.0 ≡ b
        → has (cond b (remade (finished_entry known now) row) row).entry.held cap
        ≡ (has row.entry.held cap || has (issuable (finished_at at known now) (cond b (remade (finished_entry known now) row) row)) cap)) [
          | true ↦ λ e. (let before = meet (known row.holder) row.entry.held in
              let after = pending_of now (issue_row now row) in
              let same_issuable = issuable-want (finished_at at known now) row (finished_entry known now row) (want-renumbered before after (issue_row now row).entry) ∙ issuable_last row inside in
              ap (λ caps. has caps cap) (held-renumbered before after (issue_row now row).entry) ∙ has-union row.entry.held (issuable now row) cap
              ∙ sym (ap (λ caps. has row.entry.held cap || has caps cap) same_issuable))
          | false ↦ λ e. sym (or_inside (has row.entry.held cap) (has (issuable (finished_at at known now) row) cap)
              (λ d. off_held row inside e cap (ap (λ caps. has caps cap) (sym (issuable_last row inside)) ∙ d)))
        ] refl

    -- what is held, and what is due, by the row that was found
    abbrev held_of : Cap → Option EntryRow → Bool
    held_of cap o = option_map_or (λ row. has row.entry.held cap) o false

    abbrev issuable_of : Cap → Option EntryRow → Bool
    issuable_of cap o = option_map_or (λ row. has (issuable (finished_at at known now) row) cap) o false

    by_row : (cap : Cap) (k : Holder) (o : Option EntryRow) → find (is_row_of k) now.table.rows ≡ o → held_of cap (option_map ended o) ≡ (held_of cap o || issuable_of cap (option_map ended o))
    by_row cap k None e = refl
    by_row cap k (Some row) e = held_last row cap (found-contains (is_row_of k) now.table.rows row e)

    pub issues_there : IssuesExactly now (finished_at at known now)
    issues_there = grind (arith, found_last, by_row)

-- ---- of an event

module _ (at from : ℕ → Bool) (known : Holder → Caps) (old affected : State) (moves : List Made) (settled : Scene) (sound : IsSound old) (tree : IsTree settled.tree) (table : IsTable affected.scene.table)
    (affects : Affects from old affected) (knows : Knows known old.scene affected.scene.table) (settles : SettlesAt at from moves affected.scene settled) where
  -- moves leave the entries
  pub same-table : settled.table ≡ affected.scene.table
  same-table = (moved-all affected.scene moves settled settles.settles.made).table

  pub settled-table : IsTable settled.table
  settled-table = subst IsTable (sym same-table) table

  off-these : IsSameFrom at old.scene settled
  off-these = from-first at from old.scene affected.scene settled settles.among affects.same settles.same

  knows_settled : Knows known old.scene settled.table
  knows_settled = subst (λ (t : Table). Knows known old.scene t) (sym same-table) knows

  pub affected-ends : finished old.scene affected.scene settled ≡ finished_at at known settled
  affected-ends =
      ap (λ (t : Table). finished old.scene (record settled { table = t }) settled) (sym same-table)
      ∙ ends_there at known old settled sound settled-table off-these tree knows_settled

  -- of each entry elsewhere what was known is known; and of each on these inodes what its client is to know
  pub affected-known : (was sets : ClientViews)
      → ((row : EntryRow) → Contains affected.scene.table.rows row → at row.holder.ino.0 ≡ false → known_of was row.holder ≡ Some (pending_of old.scene row))
      → KnownAnew (λ k. at k.ino.0) (pending_then settled) settled.table was sets → AreKnown sets (finished_at at known settled)
  affected-known was sets off_known kept =
      known-there at known old settled sound settled-table off-these tree knows_settled was sets
      (λ row inside. off_known row (subst (λ (t : Table). Contains t.rows row) same-table inside)) kept

  pub affected-issues : IssuesExactly affected.scene (finished_at at known settled)
  affected-issues =
      subst (λ (t : Table). IssuesExactly (record settled { table = t }) (finished_at at known settled)) same-table
      (issues_there at known old settled sound settled-table off-these tree knows_settled)
