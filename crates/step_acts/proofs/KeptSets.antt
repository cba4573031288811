-- The sets that are kept of entries, renewed of one holder after another, and so of one inode after another.
use Rattle.std.proofs.Common.{◌≡◌, ◌≢◌, ℕ, zero, suc, ◌<◌, Bool, true, false, cond, ◌&&◌, ◌||◌, ◌==◌, Option, Some, None, is_some, List, [], ◌∷◌, length, take}
use Rattle.std.proofs.Common.{get_or, refl, sym, ap, subst, ◌∙◌, arith, true≢false, unwrap_or}
use Rattle.std.proofs.Math.Bool.{and-true}
use Rattle.std.proofs.lemmas.Map.Keys.{apart_from_distinct}
use Rattle.std.specs.List.{IsDistinct, find}
use Rattle.std.specs.Option.{option_map}
use Rattle.captable.proofs.Changes.{no_entry}
use Rattle.captable.proofs.Searches.{find-map, find_passes}
use Rattle.captable.specs.Calls.{entries_on}
use Rattle.captable.specs.Many.{changed_where, remade}
use Rattle.captable.specs.Table.{entry_of}
use Rattle.step_acts.proofs.Common.{Caps, ClientView, Entry, EntryRow, Holder, Ino, Table, among-filter, entry_at, holders-filter, holders_of_rows, is_among}
use Rattle.step_acts.proofs.Common.{is_row_of, no_caps, no_sets, row_of-entry, same, same-is, same_equiv}
use Rattle.step_acts.specs.Known.{ClientViews, KnownAnew, known_anew, known_of, permitted_of, sets_of}

-- ---- of the sets of a holder, one

pub some-mapped : {A B : Type 0} (f : A → B) (o : Option A) → is_some (option_map f o) ≡ is_some o
some-mapped f None = refl
some-mapped f (Some x) = refl

pub pending-or : (o : Option ClientView) → (unwrap_or o no_sets).pending ≡ unwrap_or (option_map (λ (s : ClientView). s.pending) o) no_caps
pending-or None = refl
pending-or (Some s) = refl

-- another holder
pub other-holder : (j k : Holder) → same j k ≡ false → j ≢ k
other-holder j k off is = true≢false (sym (same_equiv.refl j) ∙ ap (same j) is ∙ off)

-- ---- one holder

module _ (f : EntryRow → Caps) (t : Table) (was : ClientViews) (h : Holder) where
  -- where it has an entry, and what is told of it is kept anew
  module _ (now : ClientViews) (e : Entry) (s : ClientView) (there : entry_at t h ≡ Some e) (first : sets_of was h ≡ Some s) (own : sets_of now h ≡ Some (record s { pending = f (record { holder = h; entry = e }) }))
      (others : (k : Holder) → k ≢ h → sets_of now k ≡ sets_of was k) where
    abbrev Ends : Holder → Bool → Type 0
    Ends k b = (known_of now k ≡ known_anew b f (find (is_row_of k) t.rows) (known_of was k)) × (permitted_of now k ≡ permitted_of was k)

    ends : (k : Holder) (b : Bool) → same k h ≡ b → Ends k b
    ends k true on = subst (λ q. Ends q true) (sym (same-is k h on)) (
      ap (option_map (λ (s : ClientView). s.pending)) own ∙ sym (ap (λ o. known_anew true f o (known_of was h)) (row_of-entry t h e there)),
      ap (option_map (λ (s : ClientView). s.permitted)) own ∙ ap (option_map (λ (s : ClientView). s.permitted)) (sym first),
    )
    ends k false off = let is = others k (other-holder k h off) in (ap (option_map (λ (s : ClientView). s.pending)) is, ap (option_map (λ (s : ClientView). s.permitted)) is)

    pub kept-one : KnownAnew (λ k. same k h) f t was now × ((k : Holder) → permitted_of now k ≡ permitted_of was k)
    kept-one = (λ k. (ends k (same k h) refl).0, λ k. (ends k (same k h) refl).1)

  -- and where it has none
  pub kept-none : entry_at t h ≡ None → KnownAnew (λ k. same k h) f t was was
  kept-none none k = by_same (same k h) refl
    where
      by_same : (b : Bool) → same k h ≡ b → known_of was k ≡ known_anew b f (find (is_row_of k) t.rows) (known_of was k)
      by_same true on = sym (ap (λ q. known_anew true f (find (is_row_of q) t.rows) (known_of was k)) (same-is k h on) ∙ ap (λ o. known_anew true f o (known_of was k)) (no_entry (find (is_row_of h) t.rows) none))
      by_same false off = refl

-- ---- some after others

-- none
pub kept-nobody : (f : EntryRow → Caps) (t : Table) (sets : ClientViews) → KnownAnew (λ k. false) f t sets sets
kept-nobody f t sets k = refl

-- the same, so far as they have entries
pub kept-where : (p q : Holder → Bool) (f : EntryRow → Caps) (t : Table) (was now : ClientViews) → ((k : Holder) (row : EntryRow) → find (is_row_of k) t.rows ≡ Some row → p k ≡ q k)
    → KnownAnew p f t was now → KnownAnew q f t was now
kept-where p q f t was now same_tests kept k = kept k ∙ by_row (find (is_row_of k) t.rows) refl (p k) (q k) (same_tests k)
  where
    nobody : (b : Bool) → known_anew b f None (known_of was k) ≡ known_of was k
    nobody true = refl
    nobody false = refl

    by_row : (o : Option EntryRow) → find (is_row_of k) t.rows ≡ o → (a b : Bool) → ((row : EntryRow) → find (is_row_of k) t.rows ≡ Some row → a ≡ b) → known_anew a f o (known_of was k) ≡ known_anew b f o (known_of was k)
    by_row None none a b tests = nobody a ∙ sym (nobody b)
    by_row (Some row) found a b tests = ap (λ b. known_anew b f (Some row) (known_of was k)) (tests row found)

pub kept-same : (p q : Holder → Bool) (f : EntryRow → Caps) (t : Table) (was now : ClientViews) → ((k : Holder) → p k ≡ q k) → KnownAnew p f t was now → KnownAnew q f t was now
kept-same p q f t was now same_tests = kept-where p q f t was now (λ k row found. same_tests k)

-- by sets that are the same for those who are among them
pub kept-as : (p : Holder → Bool) (f g : EntryRow → Caps) (t : Table) (was now : ClientViews) → ((row : EntryRow) → p row.holder ≡ true → f row ≡ g row)
    → KnownAnew p f t was now → KnownAnew p g t was now
kept-as p f g t was now same_sets kept k = kept k ∙ by_row (p k) refl (find (is_row_of k) t.rows) refl
  where
    by_row : (b : Bool) → p k ≡ b → (o : Option EntryRow) → find (is_row_of k) t.rows ≡ o → known_anew b f o (known_of was k) ≡ known_anew b g o (known_of was k)
    by_row true on None none = refl
    by_row true on (Some row) found = ap Some (same_sets row (ap p (sym (same-is k row.holder (find_passes (is_row_of k) t.rows row found))) ∙ on))
    by_row false off o found = refl

-- those whose rows in a later table are as in the first
pub kept-then : (p q : Holder → Bool) (f : EntryRow → Caps) (t later : Table) (was mid now : ClientViews) → KnownAnew p f t was mid → KnownAnew q f later mid now
    → ((k : Holder) → q k ≡ true → find (is_row_of k) later.rows ≡ find (is_row_of k) t.rows) → KnownAnew (λ k. p k || q k) f t was now
kept-then p q f t later was mid now first then alike k = then k ∙ by_second (q k) refl
  where
    row : Option EntryRow
    row = find (is_row_of k) t.rows

    twice : (a : Bool) (o : Option EntryRow) (s m : Option Caps) → m ≡ known_anew a f o s → known_anew true f o m ≡ known_anew (a || true) f o s
    twice a o s m is = grind arith

    once : (a : Bool) (o : Option EntryRow) (s : Option Caps) → known_anew a f o s ≡ known_anew (a || false) f o s
    once a o s = grind arith

    by_second : (b : Bool) → q k ≡ b → known_anew b f (find (is_row_of k) later.rows) (known_of mid k) ≡ known_anew (p k || b) f (find (is_row_of k) t.rows) (known_of was k)
    by_second true on = ap (λ o. known_anew true f o (known_of mid k)) (alike k on) ∙ twice (p k) row (known_of was k) (known_of mid k) (first k)
    by_second false off = first k ∙ once (p k) row (known_of was k)

-- of who is not among them the same is kept
pub kept-not : (p : Holder → Bool) (f : EntryRow → Caps) (t : Table) (was now : ClientViews) → KnownAnew p f t was now → (k : Holder) → p k ≡ false → known_of now k ≡ known_of was k
kept-not p f t was now kept k off = kept k ∙ ap (λ b. known_anew b f (find (is_row_of k) t.rows) (known_of was k)) off

-- ---- entries of a table that was changed

abbrev made : (EntryRow → Bool) → (EntryRow → Entry) → EntryRow → EntryRow
made passes g row = cond (passes row) (remade g row) row

found_made : (passes : EntryRow → Bool) (g : EntryRow → Entry) (t : Table) (k : Holder) → find (is_row_of k) (changed_where passes g t).rows ≡ option_map (made passes g) (find (is_row_of k) t.rows)
found_made passes g t k = find-map (is_row_of k) (made passes g) (λ row. elim (passes row) as (λ b. is_row_of k (cond b (remade g row) row) ≡ is_row_of k row) [ true ↦ refl | false ↦ refl ]) t.rows

-- who does not pass, keeps its row
pub found-stays : (passes : EntryRow → Bool) (g : EntryRow → Entry) (t : Table) (k : Holder) → ((row : EntryRow) → k ≡ row.holder → passes row ≡ false)
    → find (is_row_of k) (changed_where passes g t).rows ≡ find (is_row_of k) t.rows
found-stays passes g t k fails = found_made passes g t k ∙ by_row (find (is_row_of k) t.rows) refl
  where
    by_row : (o : Option EntryRow) → find (is_row_of k) t.rows ≡ o → option_map (made passes g) o ≡ o
    by_row None none = refl
    by_row (Some row) found = ap (λ b. Some (cond b (remade g row) row)) (fails row (same-is k row.holder (find_passes (is_row_of k) t.rows row found)))

-- whoever has an entry then, had one, of which it was made
pub made-there : (passes : EntryRow → Bool) (g : EntryRow → Entry) (t : Table) (k : Holder) (e : Entry) → entry_at (changed_where passes g t) k ≡ Some e
    → (row : EntryRow) × (find (is_row_of k) t.rows ≡ Some row) × (e ≡ (made passes g row).entry)
made-there passes g t k e there = by_row (find (is_row_of k) t.rows) refl
  where
    by_row : (o : Option EntryRow) → find (is_row_of k) t.rows ≡ o → (row : EntryRow) × (find (is_row_of k) t.rows ≡ Some row) × (e ≡ (made passes g row).entry)
    by_row None none = let gone : entry_at (changed_where passes g t) k ≡ None = ap entry_of (found_made passes g t k ∙ ap (option_map (made passes g)) none) in absurd (cc)
    by_row (Some row) found = let now : entry_at (changed_where passes g t) k ≡ Some (made passes g row).entry = ap entry_of (found_made passes g t k ∙ ap (option_map (made passes g)) found) in (row, found, cc)

pub was-there : (passes : EntryRow → Bool) (g : EntryRow → Entry) (t : Table) (k : Holder) (e : Entry) → entry_at (changed_where passes g t) k ≡ Some e → (f : Entry) × (entry_at t k ≡ Some f)
was-there passes g t k e there = let was = made-there passes g t k e there in (was.0.entry, ap entry_of was.1)

-- ---- all holders on an inode

-- of holders that differ, those before one are not it
pub not-yet : (ks : List Holder) (i : ℕ) (d : Holder) → IsDistinct same ks → i < length ks → is_among (take i ks) (get_or ks i d) ≡ false
unfolding IsDistinct
not-yet [] i d apart inside = absurd (omega arith)
not-yet (k ∷ ks) zero d apart inside = refl
not-yet (k ∷ ks) (suc i) d apart inside =
    let differ : same k (get_or ks i d) ≡ false = apart_from_distinct same (k ∷ ks) 0 (suc i) d apart (omega arith) inside in
    ap (λ b. b || is_among (take i ks) (get_or ks i d)) (same_equiv.symm (get_or ks i d) k ∙ differ) ∙ not-yet ks i d apart.1 (omega arith)

pub among_rows : (k : Holder) (rows : List EntryRow) (row : EntryRow) → find (is_row_of k) rows ≡ Some row → is_among (holders_of_rows rows) k ≡ true
among_rows k [] row found = absurd (cc)
among_rows k (r ∷ rows) row found =
    elim (same k r.holder) as (λ b. cond b (Some r) (find (is_row_of k) rows) ≡ Some row → (b || is_among (holders_of_rows rows) k) ≡ true) [
      | true ↦ λ _. refl
      | false ↦ λ later. among_rows k rows row later
    ] found

-- they are all whose entries are on it
pub kept-on : (ino : Ino) (f : EntryRow → Caps) (t : Table) (was now : ClientViews) → KnownAnew (is_among (holders_of_rows (entries_on t ino))) f t was now → KnownAnew (λ k. k.ino.0 == ino.0) f t was now
kept-on ino f t was now = kept-where (is_among (holders_of_rows (entries_on t ino))) on f t was now (λ k row found.
    ap (λ (hs : List Holder). is_among hs k) (holders-filter on t.rows) ∙ among-filter on (holders_of_rows t.rows) k ∙ ap (λ b. on k && b) (among_rows k t.rows row found) ∙ and-true (on k))
  where
    on : Holder → Bool
    on h = h.ino.0 == ino.0
