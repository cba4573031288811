-- The end of a step at several inodes: one after another, each once, they are finished as if all at once.
use Rattle.std.proofs.Common.{◌≡◌, ℕ, Bool, true, false, cond, ◌||◌, List, [], ◌∷◌, filter, ◌++◌, append-nil, append_assoc, eq-eqb, refl, sym, ap, subst, ◌∙◌}
use Rattle.std.proofs.Common.{true≢false, All, ◌==◌, arith}
use Rattle.std.proofs.Common.{map as each}
use Rattle.std.proofs.Math.Bool.{or-false}
use Rattle.std.proofs.lemmas.Bool.{eqb-true, false_from_ne_true}
use Rattle.std.proofs.lemmas.List.{map-id}
use Rattle.std.proofs.lemmas.List.Elements.{All-map, All-weaker}
use Rattle.std.proofs.lemmas.List.Folds.{list_any-append}
use Rattle.std.proofs.lemmas.Simd.{map-map}
use Rattle.std.specs.Cmp.{unsigned_tied}
use Rattle.std.specs.List.{AllByRecursion, IsDistinct, find, list_any}
use Rattle.std.specs.Ordering.{eq_by_cmp, nat_cmp}
use Rattle.std.specs.FinSet as set
use Rattle.captable.proofs.Tables.{IsTable-rows}
use Rattle.capcore.proofs.CommonPieces.{Caps, ClientViews, Entry, EntryRow, Holder, Ino, InoSet, IsListOf, IsTable, KnownAnew, Table, changed_where, entries_on}
use Rattle.capcore.proofs.CommonPieces.{found-stays, is_of_inode, is_row_of, kept-nobody, kept-not, kept-same, kept-then, known_of, remade, same_holder}

-- the same number
abbrev pub same_number : ℕ → ℕ → Bool
same_number = eq_by_cmp nat_cmp

-- ---- entries of some inodes change

-- the entries on the inodes that pass a test
abbrev pub on : (ℕ → Bool) → EntryRow → Bool
on p row = p row.holder.ino.0

-- first those of some inodes, then those of others
pub changed-twice_where : (p q r : ℕ → Bool) (f g h : EntryRow → Entry) → ((n : ℕ) → p n ≡ true → q n ≡ false) → ((n : ℕ) → (p n || q n) ≡ r n)
    → ((row : EntryRow) → on p row ≡ true → f row ≡ h row) → ((row : EntryRow) → on q row ≡ true → g row ≡ h row) → (t : Table)
    → changed_where (on q) g (changed_where (on p) f t) ≡ changed_where (on r) h t
changed-twice_where p q r f g h apart joined of_f of_g t = λ i. record t { rows = (map-map (λ row. cond (on q row) (remade g row) row) (λ row. cond (on p row) (remade f row) row) t.rows ∙ (λ j. each (λ row. one row j) t.rows)) i }
  where
    one : (row : EntryRow)
        → cond (on q (cond (on p row) (remade f row) row)) (remade g (cond (on p row) (remade f row) row)) (cond (on p row) (remade f row) row) ≡ cond (on r row) (remade h row) row
    one row = grind (arith, apart, joined, of_f, of_g)

-- what is known of each entry's holder, stays known
pub holders-stay : (passes : EntryRow → Bool) (g : EntryRow → Entry) (Q : Holder → Type 0) (t : Table)
    → All (λ row. Q row.holder) t.rows → All (λ row. Q row.holder) (changed_where passes g t).rows
holders-stay passes g Q t all =
    All-map (λ row. Q row.holder) (λ row. cond (passes row) (remade g row) row) t.rows
    (All-weaker (λ row. Q row.holder) (λ row. Q (cond (passes row) (remade g row) row).holder)
    (λ row h. subst Q (sym (same_holder g row (passes row))) h) t.rows all)

-- and each has one row still
pub table-where : (passes : EntryRow → Bool) (g : EntryRow → Entry) (t : Table) → IsTable t → IsTable (changed_where passes g t)
table-where passes g t = IsTable-rows t (changed_where passes g t).rows (map-map _ _ t.rows ∙ (λ i. each (λ row. same_holder g row (passes row) i) t.rows))

-- the entries on an inode that fails the test are as they were
one-stays : (p : ℕ → Bool) (g : EntryRow → Entry) (ino : Ino) → p ino.0 ≡ false → (row : EntryRow) (changed rest : List EntryRow) → changed ≡ rest
    → cond (is_of_inode ino (cond (on p row) (remade g row) row)) (cond (on p row) (remade g row) row ∷ changed) changed ≡ cond (is_of_inode ino row) (row ∷ rest) rest
one-stays p g ino fails row changed rest same = grind arith

rows-stay : (p : ℕ → Bool) (g : EntryRow → Entry) (ino : Ino) → p ino.0 ≡ false → (rows : List EntryRow)
    → filter (is_of_inode ino) (each (λ row. cond (on p row) (remade g row) row) rows) ≡ filter (is_of_inode ino) rows
rows-stay p g ino fails [] = refl
rows-stay p g ino fails (row ∷ rows) = one-stays p g ino fails row _ _ (rows-stay p g ino fails rows)

pub entries_on-stay : (p : ℕ → Bool) (g : EntryRow → Entry) (ino : Ino) → p ino.0 ≡ false → (t : Table) → entries_on (changed_where (on p) g t) ino ≡ entries_on t ino
entries_on-stay p g ino fails t = rows-stay p g ino fails t.rows

-- ---- one inode after another

-- some inodes are done, of those that are named: their entries are finished, and what their clients are to know is kept
pub record IsFinishing (g : EntryRow → Entry) (f : EntryRow → Caps) (t : Table) (was : ClientViews) (all : List ℕ) (left : List ℕ) (now : Table) (sets : ClientViews) : Type 0 where
  pub done : List ℕ
  pub named : done ++ left ≡ all
  pub finished : now ≡ changed_where (on (λ n. list_any (same_number n) done)) g t
  pub kept : KnownAnew (λ k. list_any (same_number k.ino.0) done) f t was sets

-- at first none is
pub none-finished : (g : EntryRow → Entry) (f : EntryRow → Caps) (t : Table) (was : ClientViews) (all : List ℕ) → IsFinishing g f t was all all t was
none-finished g f t was all = record {
  done = [];
  named = refl;
  finished = ap (λ (rows : List EntryRow). record t { rows = rows }) (sym (map-id t.rows));
  kept = kept-nobody f t was;
}

-- the next is not among those that are done
pub next-apart : (done : List ℕ) (k : ℕ) (left : List ℕ) → IsDistinct same_number (done ++ k ∷ left) → (n : ℕ) → (n == k) ≡ true → list_any (same_number n) done ≡ false
unfolding IsDistinct
next-apart [] k left apart n is = refl
next-apart (d ∷ done) k left apart n is =
    ap (λ b. b || list_any (same_number n) done) (false_from_ne_true (same_number n d) turned) ∙ next-apart done k left apart.1 n is
  where
    behind : (xs : List ℕ) → AllByRecursion (λ q. same_number d q ≡ false) (xs ++ k ∷ left) → same_number d k ≡ false
    behind [] all = all.0
    behind (x ∷ xs) all = behind xs all.1

    turned : same_number n d ≡ true → ⊥
    turned e =
        let here : (n == d) ≡ true = sym (unsigned_tied n d) ∙ e in
        let equal : d ≡ k = sym (eqb-true n d here) ∙ eqb-true n k is in
        true≢false (sym (unsigned_tied k k ∙ eq-eqb k k refl) ∙ ap (λ q. same_number q k) (sym equal) ∙ behind done apart.0)

-- it is finished in its turn, as it would have been at first
pub next-finished : (g : EntryRow → Entry) (f : EntryRow → Caps) (t : Table) (was : ClientViews) (all : List ℕ) (k : ℕ) (left : List ℕ) (mid : Table) (sets : ClientViews)
    (h : EntryRow → Entry) (now : Table) (then : ClientViews)
    → IsDistinct same_number all → IsFinishing g f t was all (k ∷ left) mid sets → now ≡ changed_where (is_of_inode (record { 0 = k })) h mid
    → ((row : EntryRow) → is_of_inode (record { 0 = k }) row ≡ true → known_of sets row.holder ≡ known_of was row.holder → h row ≡ g row)
    → KnownAnew (λ q. q.ino.0 == k) f mid sets then → IsFinishing g f t was all left now then
next-finished g f t was all k left mid sets h now then once so_far step alike kept = record {
  done = so_far.done ++ k ∷ [];
  named = append_assoc so_far.done (k ∷ []) left ∙ so_far.named;
  finished =
      step ∙ ap (changed_where (is_of_inode (record { 0 = k })) h) so_far.finished
      ∙ changed-twice_where (λ n. list_any (same_number n) so_far.done) (λ n. n == k) among_more g h g elsewhere more (λ row e. refl)
      (λ row e. alike row e (kept-not (λ q. list_any (same_number q.ino.0) so_far.done) f t was sets so_far.kept row.holder (apart row.holder.ino.0 e))) t;
  kept =
      kept-same (λ q. list_any (same_number q.ino.0) so_far.done || (q.ino.0 == k)) (λ q. among_more q.ino.0) f t was then (λ q. more q.ino.0)
      (kept-then (λ q. list_any (same_number q.ino.0) so_far.done) (λ q. q.ino.0 == k) f t mid was sets then so_far.kept kept
      (λ q e. ap (λ (u : Table). find (is_row_of q) u.rows) so_far.finished
      ∙ found-stays (on (λ n. list_any (same_number n) so_far.done)) g t q (λ row is. ap (λ (x : Holder). list_any (same_number x.ino.0) so_far.done) (sym is) ∙ apart q.ino.0 e)));
}
  where
    among_more : ℕ → Bool
    among_more n = list_any (same_number n) (so_far.done ++ k ∷ [])

    apart : (n : ℕ) → (n == k) ≡ true → list_any (same_number n) so_far.done ≡ false
    apart n e = next-apart so_far.done k left (subst (IsDistinct same_number) (sym so_far.named) once) n e

    elsewhere : (n : ℕ) → list_any (same_number n) so_far.done ≡ true → (n == k) ≡ false
    elsewhere n among = false_from_ne_true (n == k) (λ e. true≢false (sym among ∙ apart n e))

    more : (n : ℕ) → (list_any (same_number n) so_far.done || (n == k)) ≡ among_more n
    more n =
        ap (λ b. list_any (same_number n) so_far.done || b) (sym (unsigned_tied n k) ∙ sym (or-false (same_number n k)))
        ∙ sym (list_any-append (same_number n) so_far.done (k ∷ []))

-- at the end all inodes of a set are
pub all-finished : (g : EntryRow → Entry) (f : EntryRow → Caps) (t : Table) (was : ClientViews) (inos : InoSet) (all : List ℕ) (now : Table) (sets : ClientViews)
    → IsListOf inos all → IsFinishing g f t was all [] now sets
    → (now ≡ changed_where (on (set.contains inos)) g t) × KnownAnew (λ k. set.contains inos k.ino.0) f t was sets
all-finished g f t was inos all now sets lists so_far = grind (arith, append-nil)
