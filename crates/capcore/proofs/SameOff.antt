-- Scenes that are the same off the inodes that a step affects: one after another, off more inodes, and back to the old state.
use Rattle.std.proofs.Common.{◌≡◌, ℕ, Bool, true, false, List, refl, sym, ap, subst, ◌∙◌, Contains, filter, true≢false, eq-eqb, arith}
use Rattle.std.proofs.lemmas.Bool.{false_from_ne_true}
use Rattle.std.proofs.lemmas.Map.Views.{any-filter_same}
use Rattle.std.specs.List.{list_any}
use Rattle.std.specs.FinMap as map
use Rattle.lockmachine.proofs.SameOutside.{alike-trans}
use Rattle.lockmachine.specs.Elsewhere.{IsSameOutside}
use Rattle.capcore.proofs.CommonPieces.{EntryRow, Ino, IsAlike, Part, Scene, SessionTable, Table, contains-filter, entries_on, filter-contains, is_of_inode, lock_at}
use Rattle.capcore.proofs.CommonPieces.{presence}
use Rattle.capcore.specs.Affected.{IsSameOff}

-- ---- one after another

pub off-refl : (at : ℕ → Bool) (s : Scene) → IsSameOff at s s
off-refl at s = grind arith

pub off-trans : (at : ℕ → Bool) (a b c : Scene) → IsSameOff at a b → IsSameOff at b c → IsSameOff at a c
off-trans at a b c first then = record {
  fs = then.fs ∙ first.fs;
  sessions = then.sessions ∙ first.sessions;
  table = then.table ∙ first.table;
  locks = λ other part off. then.locks other part off ∙ first.locks other part off;
  presences = λ other off. then.presences other off ∙ first.presences other off;
  alike = λ row inside off.
      alike-trans a.tree b.tree c.tree row.holder.ino.0 (first.alike row inside off)
      (then.alike row (subst (λ (t : Table). Contains t.rows row) (sym first.table) inside) off);
}

-- off more inodes still
pub off-wider : (at wider : ℕ → Bool) (a b : Scene) → ((q : ℕ) → wider q ≡ false → at q ≡ false) → IsSameOff at a b → IsSameOff wider a b
off-wider at wider a b less same = record {
  fs = same.fs;
  sessions = same.sessions;
  table = same.table;
  locks = λ other part off. same.locks other part (less other off);
  presences = λ other off. same.presences other (less other off);
  alike = λ row inside off. same.alike row inside (less row.holder.ino.0 off);
}

-- what is not among more inodes, is not among these
pub not-among : (from at : ℕ → Bool) → ((q : ℕ) → from q ≡ true → at q ≡ true) → (q : ℕ) → at q ≡ false → from q ≡ false
not-among from at among q off = false_from_ne_true (from q) (λ is. true≢false (sym (among q is) ∙ off))

-- ---- rows elsewhere

-- what a test finds, it finds among those that pass it
any_filter : (p : EntryRow → Bool) (rows : List EntryRow) → list_any p (filter p rows) ≡ list_any p rows
any_filter p rows = any-filter_same p p true (λ row passes. passes) rows

module _ (at : ℕ → Bool) (old new : Table) (others : (other : Ino) → at other.0 ≡ false → entries_on new other ≡ entries_on old other) where
  -- a row on another inode is in each of two tables that differ in the entries on these alone
  pub row_elsewhere : (row : EntryRow) → Contains new.rows row → at row.holder.ino.0 ≡ false → Contains old.rows row
  row_elsewhere row inside off =
      contains-filter (is_of_inode row.holder.ino) old.rows row
      (subst (λ (rows : List EntryRow). Contains rows row) (others row.holder.ino off)
      (filter-contains (is_of_inode row.holder.ino) new.rows row inside (eq-eqb row.holder.ino.0 row.holder.ino.0 refl)))

  -- and somebody has an entry there in both or in neither
  pub any_elsewhere : (other : ℕ) → at other ≡ false → list_any (is_of_inode (record { 0 = other })) new.rows ≡ list_any (is_of_inode (record { 0 = other })) old.rows
  any_elsewhere other off =
      let on : EntryRow → Bool = is_of_inode (record { 0 = other }) in
      sym (any_filter on new.rows) ∙ ap (list_any on) (others (record { 0 = other }) off) ∙ any_filter on old.rows

-- ---- from the old state on

-- off these inodes the scene differs from the old one in no entries, no locks and nowhere that an inode stands, and of those that
-- somebody has an entry on in nothing that policy reads
pub record IsSameFrom (at : ℕ → Bool) (old now : Scene) : Type 0 where
  pub fs : now.fs ≡ old.fs
  pub sessions : (row : EntryRow) → Contains now.table.rows row → at row.holder.ino.0 ≡ false →
      map.get now.sessions.sessions row.holder.client.0 ≡ map.get old.sessions.sessions row.holder.client.0
  pub entries : (other : Ino) → at other.0 ≡ false → entries_on now.table other ≡ entries_on old.table other
  pub locks : (other : ℕ) (part : Part) → at other ≡ false → lock_at now.locks other part ≡ lock_at old.locks other part
  pub presences : (other : ℕ) → at other ≡ false → presence now.tree.nodes other ≡ presence old.tree.nodes other
  pub alike : (row : EntryRow) → Contains now.table.rows row → at row.holder.ino.0 ≡ false → IsAlike old.tree now.tree row.holder.ino.0

module _ (at from : ℕ → Bool) (old first settled : Scene) (among : (q : ℕ) → from q ≡ true → at q ≡ true) (outside : IsSameOutside from old first) (off : IsSameOff at first settled) where
  fewer : (q : ℕ) → at q ≡ false → from q ≡ false
  fewer = not-among from at among

  was_first : (row : EntryRow) → Contains settled.table.rows row → Contains first.table.rows row
  was_first row inside = subst (λ (t : Table). Contains t.rows row) off.table inside

  pub from-first : IsSameFrom at old settled
  from-first = record {
    fs = off.fs ∙ outside.fs;
    sessions = λ row inside out.
        ap (λ (t : SessionTable). map.get t.sessions row.holder.client.0) off.sessions
        ∙ outside.sessions row (row_elsewhere from old.table first.table outside.entries row (was_first row inside) (fewer row.holder.ino.0 out)) (fewer row.holder.ino.0 out);
    entries = λ other out. ap (λ (t : Table). entries_on t other) off.table ∙ outside.entries other (fewer other.0 out);
    locks = λ other part out. off.locks other part out ∙ outside.locks other part (fewer other out);
    presences = λ other out. off.presences other out ∙ outside.presences other (fewer other out);
    alike = λ row inside out.
        alike-trans old.tree first.tree settled.tree row.holder.ino.0 (outside.alike row.holder.ino.0 (fewer row.holder.ino.0 out))
        (off.alike row (was_first row inside) out);
  }
