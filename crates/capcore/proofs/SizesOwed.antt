-- A size that is to be told changes one field of entries, which the end of a step doesn't read.
use Rattle.std.proofs.Common.{◌≡◌, ◌≤◌, ℕ, ◌+◌, Bool, true, false, not, cond, ◌&&◌, ◌||◌, Option, Some, List, map, refl, sym, ap, subst, ◌∙◌, Contains, arith}
use Rattle.std.proofs.Common.{All}
use Rattle.std.proofs.lemmas.List.Elements.{All-map, All-weaker}
use Rattle.std.proofs.lemmas.Simd.{map-map}
use Rattle.std.specs.List.{find, list_any}
use Rattle.std.specs.Option.{option_map_or}
use Rattle.std.specs.FinMap as finite
use Rattle.capbits.specs.Caps.{has}
use Rattle.capcore.proofs.CommonPieces.{AreGiven, AreKnown, Caps, ClientViews, Entry, EntryRow, Fc, Holder, Ino, IsLockMap, IsSound, IsTable, IsTree, IssuesExactly}
use Rattle.capcore.proofs.CommonPieces.{KnownAnew, Made, Scene, State, Table, changed_where, find-map, finished, forget, is_gone, is_in_use, is_of_inode, is_row_of}
use Rattle.capcore.proofs.CommonPieces.{is_sized, issue, issue_row, known_of, meet, number, number_row, owed, presence, remade, renumbered, row_found, sized_in}
use Rattle.capcore.proofs.CommonPieces.{pending_of, sizes_owed, state_at_end, still_known, with_size_due}
use Rattle.capcore.proofs.EndsThere.{affected-ends, affected-issues, affected-known, settled-table}
use Rattle.capcore.proofs.SoundEnd.{each-alike}
use Rattle.capcore.proofs.Knowing.{alike-where, known-alike}
use Rattle.capcore.proofs.StayingSound.{sound-affected}
use Rattle.capcore.proofs.Telling.{any-map_same, as_asked, as_told, retold, retold-issued, retold-sound, retold_table}
use Rattle.capcore.specs.Affected.{Affects, Knows, SettlesAt, finished_at, finished_entry, forget_among, pending_then, stays}

-- no number changes
pub owed-numbers : (passes : EntryRow → Bool) (Q : ℕ → Type 0) (t : Table) → All (λ row. Q row.entry.seq) t.rows → All (λ row. Q row.entry.seq) (changed_where passes owed t).rows
owed-numbers passes Q t all =
    All-map (λ row. Q row.entry.seq) (λ row. cond (passes row) (remade owed row) row) t.rows
    (All-weaker (λ row. Q row.entry.seq) (λ row. Q (cond (passes row) (remade owed row) row).entry.seq) (λ row h. subst Q (sym (same_seq row (passes row) (has row.entry.held Fc))) h) t.rows all)
  where
    same_seq : (row : EntryRow) (b h : Bool) → (cond b (record row { entry = cond h (with_size_due true row.entry) row.entry }) row).entry.seq ≡ row.entry.seq
    same_seq row b h = grind arith

-- ---- who is to be told

-- the sizes of these inodes were changed, when these were the entries
module _ (sized : List Ino) (t : Table) where
  abbrev owes_of : Option EntryRow → Bool
  owes_of o = option_map_or (λ row. is_sized sized row && has row.entry.held Fc) o false

  -- of an entry as it is later, whether its client is to be told the size
  abbrev size_as : EntryRow → Bool
  size_as row = owes_of (find (is_row_of row.holder) t.rows) || row.entry.size_due

  abbrev pub sized_row : EntryRow → EntryRow
  sized_row = retold as_told size_as as_asked

  -- the scene, in which it is
  abbrev pub with_sizes : Scene → Scene
  with_sizes x = record x { table = retold_table as_told size_as as_asked x.table }

  -- the same entry once it is numbered
  numbered : (before after : Caps) (row : EntryRow) → renumbered before after (sized_row row).entry ≡ (sized_row (record row { entry = renumbered before after row.entry })).entry
  numbered before after row = grind arith

  same_any : (q : ℕ) (rows : List EntryRow) → list_any (is_of_inode (record { 0 = q })) (map sized_row rows) ≡ list_any (is_of_inode (record { 0 = q })) rows
  same_any q rows = any-map_same (is_of_inode (record { 0 = q })) sized_row (λ row. refl) rows

  same_use : (x : Scene) (q : ℕ) → is_in_use (with_sizes x) q ≡ is_in_use x q
  same_use x q = ap (λ b. not (is_gone (presence x.tree.nodes q)) || b) (same_any q x.table.rows)

  -- ---- the end of a step, by the rules

  sizes-forgotten : (x : Scene) → forget (with_sizes x) ≡ with_sizes (forget x)
  sizes-forgotten x = grind (arith, same_use)

  module _ (table : IsTable t) (s : Scene) (same : s.table ≡ t) where
    rows-owed : map (λ row. cond (is_sized sized row) (remade owed row) row) s.table.rows ≡ map sized_row s.table.rows
    rows-owed =
        subst (λ (u : Table). map (λ row. cond (is_sized sized row) (remade owed row) row) u.rows ≡ map sized_row u.rows) (sym same)
        (each-alike (λ row. cond (is_sized sized row) (remade owed row) row) sized_row t.rows (λ row inside. grind (arith, row_found)))

    sizes-owed : sizes_owed sized s ≡ with_sizes s
    sizes-owed = ap (λ (rows : List EntryRow). record s { table = record s.table { rows = rows } }) rows-owed

    pub sizes-finished : (old first : Scene) → finished old first (sizes_owed sized s) ≡ with_sizes (finished old first s)
    sizes-finished old first =
        ap (finished old first) sizes-owed
        ∙ ap (λ (rows : List EntryRow). number old first (forget (record s { table = record s.table { rows = rows } }))) issued
        ∙ ap (number old first) (sizes-forgotten (issue s))
        ∙ ap (λ (rows : List EntryRow). record (forget (issue s)) { table = record s.table { rows = rows } }) renumbers
      where
        issued : map (issue_row s) (map sized_row s.table.rows) ≡ map sized_row (map (issue_row s) s.table.rows)
        issued = map-map (issue_row s) sized_row s.table.rows ∙ sym (map-map sized_row (issue_row s) s.table.rows)

        renumbers : map (number_row old first (forget (issue s))) (map sized_row (issue s).table.rows) ≡ map sized_row (map (number_row old first (forget (issue s))) (issue s).table.rows)
        renumbers =
            map-map (number_row old first (forget (issue s))) sized_row (issue s).table.rows
            ∙ (λ i. let one : EntryRow → EntryRow = λ row. record row { entry = numbered (still_known old (find (is_row_of row.holder) first.table.rows)) (pending_of (forget (issue s)) row) row i } in
            map one (issue s).table.rows)
            ∙ sym (map-map sized_row (number_row old first (forget (issue s))) (issue s).table.rows)

    -- ---- and at some inodes alone

    pub sizes-finished_at : (at : ℕ → Bool) (known : Holder → Caps) → finished_at at known (sizes_owed sized s) ≡ with_sizes (finished_at at known s)
    sizes-finished_at at known =
        ap (finished_at at known) sizes-owed
        ∙ ap (λ (rows : List EntryRow). forget_among at (record s { table = record s.table { rows = rows } })) ended
        ∙ (λ i. record (with_sizes (record s { table = changed_where (λ row. at row.holder.ino.0) (finished_entry known s) s.table })) {
          tree = record s.tree { nodes = finite.retain_keys s.tree.nodes (λ q. same_stays q i) };
          locks = record s.locks { states = finite.retain_keys s.locks.states (λ q. same_stays q i) };
        })
      where
        same_stays : (q : ℕ) → stays at (with_sizes (record s { table = changed_where (λ row. at row.holder.ino.0) (finished_entry known s) s.table })) q
            ≡ stays at (record s { table = changed_where (λ row. at row.holder.ino.0) (finished_entry known s) s.table }) q
        same_stays q = ap (λ b. not (at q) || b) (same_use (record s { table = changed_where (λ row. at row.holder.ino.0) (finished_entry known s) s.table }) q)

        ended_row : (row : EntryRow) (b : Bool) → cond b (remade (finished_entry known s) (sized_row row)) (sized_row row) ≡ sized_row (cond b (remade (finished_entry known s) row) row)
        ended_row row true = ap (λ (e : Entry). record row { entry = e }) (numbered (meet (known row.holder) row.entry.held) (pending_then s row) (issue_row s row))
        ended_row row false = refl

        ended : map (λ row. cond (at row.holder.ino.0) (remade (finished_entry known s) row) row) (map sized_row s.table.rows)
            ≡ map sized_row (map (λ row. cond (at row.holder.ino.0) (remade (finished_entry known s) row) row) s.table.rows)
        ended =
            let finish : EntryRow → EntryRow = λ row. cond (at row.holder.ino.0) (remade (finished_entry known s) row) row in
            map-map finish sized_row s.table.rows ∙ (λ i. map (λ row. ended_row row (at row.holder.ino.0) i) s.table.rows) ∙ sym (map-map sized_row finish s.table.rows)

    -- ---- what is kept of entries

    pending_owed : (row : EntryRow) (b h : Bool) → pending_then s (cond b (record row { entry = cond h (with_size_due true row.entry) row.entry }) row) ≡ pending_then s row
    pending_owed row b h = grind arith

    -- it is the same, whether sizes are to be told or not
    pub sizes-kept : (among : Holder → Bool) (was now : ClientViews) → KnownAnew among (pending_then (sizes_owed sized s)) (sizes_owed sized s).table was now
        → KnownAnew among (pending_then s) s.table was now
    sizes-kept among was now kept = grind (arith, find-map, pending_owed)

-- ---- of an event

module _ (at from : ℕ → Bool) (known : Holder → Caps) (old affected : State) (moves : List Made) (settled : Scene) (sound : IsSound old) (tree : IsTree settled.tree) (table : IsTable affected.scene.table)
    (affects : Affects from old affected) (knows : Knows known old.scene affected.scene.table) (settles : SettlesAt at from moves affected.scene settled) where
  table-then : IsTable settled.table
  table-then = settled-table at from known old affected moves settled sound tree table affects knows settles

  at_end : finished_at at known (sizes_owed (sized_in moves) settled) ≡ with_sizes (sized_in moves) settled.table (finished_at at known settled)
  at_end = sizes-finished_at (sized_in moves) settled.table table-then settled refl at known

  pub sizes-end : finished old.scene affected.scene (sizes_owed (sized_in moves) settled) ≡ finished_at at known (sizes_owed (sized_in moves) settled)
  sizes-end =
      sizes-finished (sized_in moves) settled.table table-then settled refl old.scene affected.scene
      ∙ ap (with_sizes (sized_in moves) settled.table) (affected-ends at from known old affected moves settled sound tree table affects knows settles)
      ∙ sym at_end

  pub sizes-sound : IsLockMap affected.scene.locks → IsSound (state_at_end old affected moves (finished_at at known (sizes_owed (sized_in moves) settled)))
  sizes-sound order =
      let ends = sound-affected at from known old affected moves settled sound tree table order affects knows settles in
      subst (λ (s : Scene). IsSound (state_at_end old affected moves s)) (sym at_end)
      (retold-sound (state_at_end old affected moves (finished_at at known settled)) as_told (size_as (sized_in moves) settled.table) as_asked
      (state_at_end old affected moves (finished_at at known settled)).messages ends.messages (λ row below. below) ends)

  pub sizes-issues : IssuesExactly affected.scene (finished_at at known (sizes_owed (sized_in moves) settled))
  sizes-issues =
      subst (IssuesExactly affected.scene) (sym at_end)
      (retold-issued (state_at_end old affected moves (finished_at at known settled)) as_told (size_as (sized_in moves) settled.table) as_asked affected.scene
      (affected-issues at from known old affected moves settled sound tree table affects knows settles))

  pub sizes-given : (count : ℕ) → AreGiven (count + 1) (state_at_end old affected moves (finished_at at known settled))
      → AreGiven (count + 1) (state_at_end old affected moves (finished_at at known (sizes_owed (sized_in moves) settled)))
  sizes-given count given =
      subst (λ (s : Scene). AreGiven (count + 1) (state_at_end old affected moves s)) (sym at_end)
      (record {
        entries = All-map (λ row. row.entry.seq ≤ count + 1) (sized_row (sized_in moves) settled.table) (finished_at at known settled).table.rows given.entries;
        last = given.last;
        made = given.made;
      })

  pub sizes-known : (was sets : ClientViews)
      → ((row : EntryRow) → Contains affected.scene.table.rows row → at row.holder.ino.0 ≡ false → known_of was row.holder ≡ Some (pending_of old.scene row))
      → KnownAnew (λ k. at k.ino.0) (pending_then (sizes_owed (sized_in moves) settled)) (sizes_owed (sized_in moves) settled).table was sets
      → AreKnown sets (finished_at at known (sizes_owed (sized_in moves) settled))
  sizes-known was sets off_known kept =
      let ends = affected-known at from known old affected moves settled sound tree table affects knows settles was sets off_known
      (sizes-kept (sized_in moves) settled.table table-then settled refl (λ k. at k.ino.0) was sets kept) in
      subst (AreKnown sets) (sym at_end)
      (known-alike sets (finished_at at known settled) (with_sizes (sized_in moves) settled.table (finished_at at known settled)).table
      (alike-where (λ row. true) (λ row. (sized_row (sized_in moves) settled.table row).entry) (finished_at at known settled).table (λ row. refl)) ends)
