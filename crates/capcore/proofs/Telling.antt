-- What a client is told changes three fields of entries, by which nothing is judged, moved or issued.
use Rattle.std.proofs.Common.{◌≡◌, ◌≤◌, ℕ, Bool, true, false, cond, not, ◌&&◌, ◌||◌, Option, List, [], ◌∷◌, filter, map, refl, sym, ap, subst, ◌∙◌, arith}
use Rattle.std.proofs.Common.{IsTrue, All}
use Rattle.std.proofs.lemmas.List.Elements.{All-filter, All-from_recursion, All-map, All-weaker, recursion_from_All}
use Rattle.std.proofs.lemmas.Simd.{map-map}
use Rattle.std.specs.List.{AllByRecursion, IsDistinct, find, list_any}
use Rattle.std.specs.Option.{option_map}
use Rattle.capstep.specs.DueEndings.{is_end_of}
use Rattle.capstep.specs.Direct.{DirectReply}
use Rattle.capcore.proofs.CommonPieces.{AreGiven, ClientId, Ended, Entry, EntryRow, Gives, Holder, Ino, IsInPlace, IsSound, IsSoundEntry, IsTable}
use Rattle.capcore.proofs.CommonPieces.{IssuesExactly, LockState, Message, Part, Scene, Shows, StableState, State, Table, after_messages, change_rows, changed}
use Rattle.capcore.proofs.CommonPieces.{changed_where, filter-map, find-map, first_messages, fold-changed_by, has_session, is_among, is_caps_of, is_of_client}
use Rattle.capcore.proofs.CommonPieces.{is_of_inode, is_open, is_recall_of, is_row_of, is_size_of, is_to, lock_at, remade, same, shown, sized_if, told_if}
use Rattle.capcore.proofs.CommonPieces.{unasked_if, wants, with_scene, with_told}
use Rattle.capcore.proofs.LeftAlone.{still_resting}

-- ---- lists that are mapped

-- a test that doesn't see the map
pub any-map_same : {X : Type 0} (p : X → Bool) (g : X → X) → ((x : X) → p (g x) ≡ p x) → (xs : List X) → list_any p (map g xs) ≡ list_any p xs
any-map_same p g same [] = refl
any-map_same p g same (x ∷ xs) = λ i. same x i || any-map_same p g same xs i

-- ---- entries of which other changes were told, of which the size is due or not, and that are asked or not

module _ (told_as : EntryRow → ℕ) (size_as asked_as : EntryRow → Bool) where
  abbrev pub retold : EntryRow → EntryRow
  retold row = record row { entry = record row.entry { told_seq = told_as row; asked = asked_as row; size_due = size_as row } }

  abbrev pub retold_table : Table → Table
  retold_table table = record table { rows = map retold table.rows }

module _ (s : State) (told_as : EntryRow → ℕ) (size_as asked_as : EntryRow → Bool) where
  abbrev to : EntryRow → EntryRow
  to = retold told_as size_as asked_as

  -- the scene with these entries
  abbrev new : Scene
  new = record s.scene { table = retold_table told_as size_as asked_as s.scene.table }

  same_on : (ino : Ino) → filter (is_of_inode ino) new.table.rows ≡ map to (filter (is_of_inode ino) s.scene.table.rows)
  same_on ino = filter-map (is_of_inode ino) to (λ row. refl) s.scene.table.rows

  same_found : (k : Holder) → find (is_row_of k) new.table.rows ≡ option_map to (find (is_row_of k) s.scene.table.rows)
  same_found k = find-map (is_row_of k) to (λ row. refl) s.scene.table.rows

  same_wants : (ino : ℕ) → wants new ino ≡ wants s.scene ino
  same_wants ino = grind (arith, same_on, map-map)

  same_open : (ino : ℕ) (part : Part) (goal : StableState) → is_open new ino part goal ≡ is_open s.scene ino part goal
  same_open ino part goal = grind (arith, same_on, any-map_same)

  place_stays : (row : EntryRow) (part : Part) (o : Option LockState) → IsInPlace s.scene row part o → IsInPlace new (to row) part o
  place_stays row part o placed = grind (arith, same_open)

  -- ---- all together

  pub retold-sound : (messages : List Ended) → All (λ m. IsTrue (has_session s.scene.sessions m.client.0)) messages
      → ((row : EntryRow) → row.entry.told_seq ≤ row.entry.seq → told_as row ≤ row.entry.seq) → IsSound s
      → IsSound (record { scene = record s.scene { table = retold_table told_as size_as asked_as s.scene.table }; messages = messages })
  retold-sound messages connected below sound = record {
    entries = All-map (IsSoundEntry new) to s.scene.table.rows (All-weaker (IsSoundEntry s.scene) (λ row. IsSoundEntry new (to row)) (λ row was. grind arith) s.scene.table.rows sound.entries);
    waiting = sound.waiting;
    messages = connected;
    locked = sound.locked;
    strays = λ ino gone. any-map_same (is_of_inode (record { 0 = ino })) to (λ row. refl) s.scene.table.rows ∙ sound.strays ino gone;
    in_place = λ row part found. grind (arith, same_found, place_stays);
    at_rest = record { each = λ ino part. still_resting s.scene new ino part refl (same_wants ino) (same_open ino part) (lock_at s.scene.locks ino part) (sound.at_rest.each ino part) };
  }

  pub retold-issued : (first : Scene) → IssuesExactly first s.scene → IssuesExactly first (record s.scene { table = retold_table told_as size_as asked_as s.scene.table })
  retold-issued first issued k cap = grind (arith, same_found)

-- ---- what is shown

abbrev named : Holder → EntryRow → Bool
named k row = is_among (k ∷ []) row.holder

-- the changes that are told, of entries that pass a test
abbrev told_where : (EntryRow → Bool) → EntryRow → ℕ
told_where passes row = cond (passes row) row.entry.seq row.entry.told_seq

-- no change more was told, and nothing else of what is due
abbrev pub as_told : EntryRow → ℕ
as_told row = row.entry.told_seq

abbrev pub as_asked : EntryRow → Bool
as_asked row = row.entry.asked

abbrev pub as_sized : EntryRow → Bool
as_sized row = row.entry.size_due

told_row : (row : EntryRow) (b : Bool) → cond b (remade (λ row. with_told row.entry) row) row
    ≡ record row { entry = record row.entry { told_seq = cond b row.entry.seq row.entry.told_seq; asked = row.entry.asked; size_due = row.entry.size_due } }
told_row row b = grind arith

shown_table : (t : Table) (k : Holder) → IsTable t → changed t k with_told ≡ retold_table (told_where (named k)) as_sized as_asked t
unfolding IsDistinct
shown_table t k is = fold-changed_by (λ row. with_told row.entry) t (k ∷ []) is (tt, tt) ∙ (λ i. record t { rows = map (λ row. told_row row (named k row) i) t.rows })

told_below : (b : Bool) (seq told_seq : ℕ) → told_seq ≤ seq → cond b seq told_seq ≤ seq
told_below b seq told_seq below = grind arith

-- ---- what is given

module _ (client : ClientId) (given : List Message) where
  abbrev pub told_given : EntryRow → ℕ
  told_given row = cond (is_of_client client row && list_any (is_caps_of row.holder.ino) given) row.entry.seq row.entry.told_seq

  abbrev pub size_given : EntryRow → Bool
  size_given row = cond (is_of_client client row && list_any (is_size_of row.holder.ino) given) false row.entry.size_due

  abbrev pub asked_given : EntryRow → Bool
  asked_given row = cond (is_of_client client row && list_any (is_recall_of row.holder.ino) given) false row.entry.asked

-- which fields the messages that were given change
abbrev pub given_fields : Bool → Bool → Bool → Entry → Entry
given_fields caps size recall e = record e { told_seq = cond caps e.seq e.told_seq; asked = cond recall false e.asked; size_due = cond size false e.size_due }

pub given-fields : (e : Entry) (caps size recall : Bool) → unasked_if recall (sized_if size (told_if caps e)) ≡ given_fields caps size recall e
given-fields e caps size recall = grind arith

-- what is held stays
pub given-held : (given : List Message) (row : EntryRow) → (after_messages given row).held ≡ row.entry.held
given-held given row = ap (λ (e : Entry). e.held) (given-fields row.entry (list_any (is_caps_of row.holder.ino) given) (list_any (is_size_of row.holder.ino) given) (list_any (is_recall_of row.holder.ino) given))

pub given_table : (client : ClientId) (given : List Message) (t : Table) → changed_where (is_of_client client) (after_messages given) t ≡ retold_table (told_given client given) (size_given client given) (asked_given client given) t
given_table client given t = grind arith

-- ---- each answer

pub shown-sound : (s : State) (reply_due : DirectReply) → IsSound s → IsTable s.scene.table → IsSound (shown reply_due s)
shown-sound s (Shows k) sound table =
    subst (λ t. IsSound (with_scene s (record s.scene { table = t }))) (sym (shown_table s.scene.table k table))
    (retold-sound s (told_where (named k)) as_sized as_asked s.messages sound.messages (λ row below. told_below (named k row) row.entry.seq row.entry.told_seq below) sound)
shown-sound s (Gives client max) sound table =
    let given : List Message = first_messages s client max in
    let due : Ended → Bool = λ m. not (is_to client m && list_any (is_end_of m.ticket) given) in
    subst (λ t. IsSound (record { scene = record s.scene { table = t }; messages = filter due s.messages })) (sym (given_table client given s.scene.table))
    (retold-sound s (told_given client given) (size_given client given) (asked_given client given) (filter due s.messages)
    (All-filter due (λ m. IsTrue (has_session s.scene.sessions m.client.0)) s.messages sound.messages)
    (λ row below. told_below (is_of_client client row && list_any (is_caps_of row.holder.ino) given) row.entry.seq row.entry.told_seq below) sound)
shown-sound s reply_due sound table = sound

pub shown-issued : (first : Scene) (s : State) (reply_due : DirectReply) → IsTable s.scene.table → IssuesExactly first s.scene → IssuesExactly first (shown reply_due s).scene
shown-issued first s reply_due table issued = grind (arith, shown_table, retold-issued, given_table)

-- ---- numbers

-- no number changes, wherever the holder's entry stands
module _ (count : ℕ) where
  abbrev IsGiven : EntryRow → Type 0
  IsGiven row = row.entry.seq ≤ count

  given-change : (rows : List EntryRow) (k : Holder) → AllByRecursion IsGiven rows → AllByRecursion IsGiven (change_rows rows k with_told)
  given-change [] k all = tt
  given-change (row ∷ rows) k all =
      elim (is_row_of k row) as (λ b. AllByRecursion IsGiven (cond b (record row { entry = with_told row.entry } ∷ rows) (row ∷ change_rows rows k with_told)))
      [ true ↦ (all.0, all.1) | false ↦ (all.0, given-change rows k all.1) ]

  given-where : (client : ClientId) (given : List Message) (t : Table) → All IsGiven t.rows → All IsGiven (changed_where (is_of_client client) (after_messages given) t).rows
  given-where client given t all =
      subst (λ (t : Table). All IsGiven t.rows) (sym (given_table client given t)) (All-map IsGiven (retold (told_given client given) (size_given client given) (asked_given client given)) t.rows all)

  pub shown-given : (s : State) (reply_due : DirectReply) → AreGiven count s → AreGiven count (shown reply_due s)
  shown-given s reply_due given = grind (arith, All-from_recursion, given-change, recursion_from_All, given-where)
