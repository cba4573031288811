-- How many entries of a client are due, after a change of one entry.
use Rattle.std.proofs.Common.{◌≡◌, ◌≤◌, ◌<◌, ℕ, ◌+◌, Bool, true, false, not, cond, ◌&&◌, Option, Some, None, List, [], ◌∷◌, ◌++◌, is_some, slice_get, nat_eq}
use Rattle.std.proofs.Common.{◌||◌, map, length, filter, refl, sym, ap, subst, ◌∙◌, arith}
use Rattle.std.specs.Prelude.{IfSome}
use Rattle.std.specs.Option.{option_map, option_map_or, unwrap_or}
use Rattle.std.proofs.lemmas.Bool.{eqb-true}
use Rattle.std.proofs.lemmas.List.{nil_from_length}
use Rattle.std.proofs.lemmas.List.Sums.{count_by-le-length, length-filter}
use Rattle.std.specs.List.{AllByRecursion, IsDistinct, find}
use Rattle.capbits.specs.declared.ids.ClientId.{ClientId}
use Rattle.cap_arena.specs.declared.nodes.Node.{Node}
use Rattle.cap_arena.specs.Walks.{is_among}
use Rattle.cap_arena.specs.Lists.{Lists, OfClient, keys, node_at}
use Rattle.captable.specs.declared.entry.Slot.{Slot}
use Rattle.captable.specs.declared.entry.Entry.{Entry}
use Rattle.captable.specs.declared.entry.EntryRow.{EntryRow}
use Rattle.captable.specs.declared.entry.Holder.{Holder}
use Rattle.captable.specs.Table.{holders_of_rows, is_row_of, same}
use Rattle.captable.specs.Calls.{change_rows, is_due, is_due_entry, is_of_client}
use Rattle.captable.specs.Nodes.{nodes_at, nodes_in, row_of, with_first}
use Rattle.captable.specs.Places.{NoneDueBefore, is_due_at, same_client}
use Rattle.captable.specs.Polls.{AreCounted, due_count, recounted}
use Rattle.captable.proofs.Polled.{begun_at, left}
use Rattle.captable.proofs.NotDue.{clients-same}
use Rattle.captable.proofs.Searches.{find_passes}
use Rattle.captable.proofs.Tables.{same-is}

-- one, or none
abbrev pub bit : Bool → ℕ
bit true = 1
bit false = 0

-- whether the row is the client's, and due
abbrev pub counts : ClientId → EntryRow → Bool
counts client row = is_of_client client row && is_due row

pub due-first : (client : ClientId) (row : EntryRow) (rows : List EntryRow) → due_count client (row ∷ rows) ≡ bit (counts client row) + due_count client rows
due-first client row rows = by_owner (is_of_client client row) (is_due row) refl
  where
    n : ℕ
    n = due_count client rows

    by_owner : (own due : Bool) → is_due row ≡ due → length (filter is_due (cond own (row ∷ filter (is_of_client client) rows) (filter (is_of_client client) rows))) ≡ bit (own && due) + n
    by_owner false due is = omega arith
    by_owner true true is = ap (λ b. length (cond b (row ∷ filter is_due (filter (is_of_client client) rows)) (filter is_due (filter (is_of_client client) rows)))) is ∙ omega arith
    by_owner true false is = ap (λ b. length (cond b (row ∷ filter is_due (filter (is_of_client client) rows)) (filter is_due (filter (is_of_client client) rows)))) is ∙ omega arith

-- whether the row that was found is the client's, and due
abbrev pub counts_found : ClientId → Option EntryRow → Bool
counts_found client None = false
counts_found client (Some row) = counts client row

abbrev pub with_change : (Entry → Entry) → Option EntryRow → Option EntryRow
with_change f None = None
with_change f (Some row) = Some (record row { entry = f row.entry })

-- after a change of the holder's entry
pub count-changed : (client : ClientId) (rows : List EntryRow) (k : Holder) (f : Entry → Entry)
    → due_count client (change_rows rows k f) + bit (counts_found client (find (is_row_of k) rows))
    ≡ due_count client rows + bit (counts_found client (with_change f (find (is_row_of k) rows)))
count-changed client [] k f = refl
count-changed client (row ∷ rows) k f =
    elim (is_row_of k row) as (λ b. due_count client (cond b (record row { entry = f row.entry } ∷ rows) (row ∷ change_rows rows k f)) + bit (counts_found client (cond b (Some row) (find (is_row_of k) rows)))
    ≡ due_count client (row ∷ rows) + bit (counts_found client (with_change f (cond b (Some row) (find (is_row_of k) rows))))) [
      | true ↦ (
          let new : EntryRow = record row { entry = f row.entry } in
          omega (arith, due-first client new rows, due-first client row rows))
      | false ↦ (
          let rest = count-changed client rows k f in
          omega (arith, due-first client row (change_rows rows k f), due-first client row rows, rest))
    ]

-- after one more at the end
pub count-more : (client : ClientId) (rows : List EntryRow) (row : EntryRow) → due_count client (rows ++ row ∷ []) ≡ due_count client rows + bit (counts client row)
count-more client [] row = omega (arith, due-first client row [])
count-more client (r ∷ rows) row = omega (arith, due-first client r (rows ++ row ∷ []), due-first client r rows, count-more client rows row)

-- without a holder that has no row all stay
pub none-left : (k : Holder) (rows : List EntryRow) → AllByRecursion (λ h. same k h ≡ false) (holders_of_rows rows) → filter (λ row. not (is_row_of k row)) rows ≡ rows
none-left k [] apart = refl
none-left k (row ∷ rows) apart =
    ap (λ b. cond (not b) (row ∷ filter (λ row. not (is_row_of k row)) rows) (filter (λ row. not (is_row_of k row)) rows)) apart.0
    ∙ ap (λ rest. row ∷ rest) (none-left k rows apart.1)

-- after the holder's row went
pub count-without : (client : ClientId) (rows : List EntryRow) (k : Holder) → IsDistinct same (holders_of_rows rows)
    → due_count client (filter (λ row. not (is_row_of k row)) rows) + bit (counts_found client (find (is_row_of k) rows)) ≡ due_count client rows
unfolding IsDistinct
count-without client [] k once = refl
count-without client (row ∷ rows) k once = by_test (is_row_of k row) refl (count-without client rows k once.1)
  where
    left : List EntryRow
    left = filter (λ row. not (is_row_of k row)) rows

    by_test : (b : Bool) → is_row_of k row ≡ b → due_count client left + bit (counts_found client (find (is_row_of k) rows)) ≡ due_count client rows
        → due_count client (cond (not b) (row ∷ left) left) + bit (counts_found client (cond b (Some row) (find (is_row_of k) rows))) ≡ due_count client (row ∷ rows)
    by_test true is rest =
        let mine : k ≡ row.holder = same-is k row.holder is in
        let all : left ≡ rows = none-left k rows (subst (λ h. AllByRecursion (λ j. same h j ≡ false) (holders_of_rows rows)) (sym mine) once.0) in
        omega (arith, ap (due_count client) all, due-first client row rows)
    by_test false is rest = omega (arith, due-first client row left, due-first client row rows, rest)

-- ---- the counts that are kept

few : (client : ClientId) (rows : List EntryRow) → due_count client rows ≤ length rows
few client rows =
    let own : List EntryRow = filter (is_of_client client) rows in
    omega (arith, length-filter is_due own, count_by-le-length is_due own, length-filter (is_of_client client) rows, count_by-le-length (is_of_client client) rows)

-- a count can rise
pub count-fits : (rows : List EntryRow) (kept : ClientId → Option ℕ) → length rows ≤ 65536 → AreCounted rows kept → (client : ClientId)
    → IfSome (kept client) (λ n. n < 18446744073709551615)
count-fits rows kept room all client = by_case (kept client) (all client)
  where
    by_case : (o : Option ℕ) → unwrap_or o 0 ≡ due_count client rows → IfSome o (λ n. n < 18446744073709551615)
    by_case None is = tt
    by_case (Some n) is = omega (arith, is, few client rows, room)

recounts : (was is : Bool) (n d d' : ℕ) → n ≡ d → d' + bit was ≡ d + bit is → recounted was is n ≡ d'
recounts false false n d d' same change = omega (arith, same, change)
recounts false true n d d' same change = omega (arith, same, change)
recounts true false n d d' same change = omega (arith, same, change)
recounts true true n d d' same change = omega (arith, same, change)

-- the client of a row is that of its holder
owner : (k : Holder) (row : EntryRow) → is_row_of k row ≡ true → (q : ClientId) → is_of_client q row ≡ same_client k.client q
owner k row is q = ap (λ (h : Holder). same_client h.client q) (sym (same-is k row.holder is))

module _ (rows : List EntryRow) (k : Holder) (row : EntryRow) (found : find (is_row_of k) rows ≡ Some row) (kept kept' : ClientId → Option ℕ) (was is : Bool)
    (due : is_due row ≡ was) (there : is_some (kept k.client) ≡ true)
    (updates : (q : ClientId) → kept' q ≡ cond (same_client k.client q) (option_map (recounted was is) (kept q)) (kept q))
    (all : AreCounted rows kept) where
  mine : is_row_of k row ≡ true
  mine = find_passes (is_row_of k) rows row found

  -- what is kept of one client, where its entries became these
  kept-again : (rows' : List EntryRow) (q : ClientId)
      → due_count q rows' + bit (same_client k.client q && was) ≡ due_count q rows + bit (same_client k.client q && is)
      → unwrap_or (kept' q) 0 ≡ due_count q rows'
  kept-again rows' q change = ap (λ o. unwrap_or o 0) (updates q) ∙ by_test (same_client k.client q) refl change
    where
      own : (o : Option ℕ) → is_some o ≡ true → unwrap_or o 0 ≡ due_count q rows → due_count q rows' + bit was ≡ due_count q rows + bit is → unwrap_or (option_map (recounted was is) o) 0 ≡ due_count q rows'
      own None some same change = absurd (cc)
      own (Some n) some same change = recounts was is n (due_count q rows) (due_count q rows') same change

      by_test : (b : Bool) → same_client k.client q ≡ b → due_count q rows' + bit (b && was) ≡ due_count q rows + bit (b && is)
          → unwrap_or (cond b (option_map (recounted was is) (kept q)) (kept q)) 0 ≡ due_count q rows'
      by_test false other change = omega (arith, all q, change)
      by_test true same change = own (kept q) (ap (λ c. is_some (kept c)) (sym (clients-same k.client q same)) ∙ there) (all q) change

  -- the holder has another entry
  pub counted-set : (x : Entry) → is_due_entry x ≡ is → AreCounted (change_rows rows k (λ _. x)) kept'
  counted-set x due_is q =
      let new : EntryRow = record row { entry = x } in
      let before : counts_found q (find (is_row_of k) rows) ≡ (same_client k.client q && was) = ap (counts_found q) found ∙ (λ i. owner k row mine q i && due i) in
      let after : counts_found q (with_change (λ _. x) (find (is_row_of k) rows)) ≡ (same_client k.client q && is) = ap (λ o. counts_found q (with_change (λ _. x) o)) found ∙ (λ i. owner k row mine q i && due_is i) in
      kept-again (change_rows rows k (λ _. x)) q
      (ap (λ b. due_count q (change_rows rows k (λ _. x)) + bit b) (sym before) ∙ count-changed q rows k (λ _. x) ∙ ap (λ b. due_count q rows + bit b) after)

  -- the holder has no entry any more
  pub counted-without : is ≡ false → IsDistinct same (holders_of_rows rows) → AreCounted (filter (λ row. not (is_row_of k row)) rows) kept'
  counted-without gone once q =
      let left : List EntryRow = filter (λ row. not (is_row_of k row)) rows in
      let before : counts_found q (find (is_row_of k) rows) ≡ (same_client k.client q && was) = ap (counts_found q) found ∙ (λ i. owner k row mine q i && due i) in
      let none : bit (same_client k.client q && is) ≡ 0 = ap (λ b. bit (same_client k.client q && b)) gone ∙ never (same_client k.client q) in
      kept-again left q (ap (λ b. due_count q left + bit b) (sym before) ∙ count-without q rows k once ∙ omega (arith, none))
    where
      never : (b : Bool) → bit (b && false) ≡ 0
      never true = refl
      never false = refl

-- one more, which is not due
pub counted-more : (rows : List EntryRow) (row : EntryRow) (client : ClientId) (kept kept' : ClientId → Option ℕ) → is_due row ≡ false
    → ((q : ClientId) → kept' q ≡ cond (same_client client q) (begun_at 0 (kept q)) (kept q))
    → AreCounted rows kept → AreCounted (rows ++ row ∷ []) kept'
counted-more rows row client kept kept' not_due updates all q =
    let none : bit (counts q row) ≡ 0 = ap (λ b. bit (is_of_client q row && b)) not_due ∙ never (is_of_client q row) in
    ap (λ o. unwrap_or o 0) (updates q) ∙ begun (same_client client q) (kept q) ∙ omega (arith, all q, count-more q rows row, none)
  where
    never : (b : Bool) → bit (b && false) ≡ 0
    never true = refl
    never false = refl

    begun : (b : Bool) (o : Option ℕ) → unwrap_or (cond b (begun_at 0 o) o) 0 ≡ unwrap_or o 0
    begun true None = refl
    begun true (Some n) = refl
    begun false o = refl

-- ---- the same, and none

pub counted-same : (rows : List EntryRow) (kept kept' : ClientId → Option ℕ) → ((q : ClientId) → kept' q ≡ kept q) → AreCounted rows kept → AreCounted rows kept'
counted-same rows kept kept' same all q = ap (λ o. unwrap_or o 0) (same q) ∙ all q

pub AreCounted-empty : (rows : List EntryRow) (kept : ClientId → Option ℕ) → rows ≡ [] → ((q : ClientId) → kept q ≡ None) → AreCounted rows kept
AreCounted-empty rows kept no_rows none q = ap (λ o. unwrap_or o 0) (none q) ∙ ap (due_count q) (sym no_rows)

-- the count of a client without entries goes
pub counted-ended : (rows : List EntryRow) (client : ClientId) (first : Option ℕ) (kept kept' : ClientId → Option ℕ)
    → ((q : ClientId) → kept' q ≡ cond (same_client client q) (left first (kept q)) (kept q))
    → (first ≡ None → filter (is_of_client client) rows ≡ []) → AreCounted rows kept → AreCounted rows kept'
counted-ended rows client first kept kept' ends none all q = ap (λ o. unwrap_or o 0) (ends q) ∙ by_test (same_client client q) refl first refl
  where
    by_test : (b : Bool) → same_client client q ≡ b → (o : Option ℕ) → first ≡ o → unwrap_or (cond b (left o (kept q)) (kept q)) 0 ≡ due_count q rows
    by_test false other o is = all q
    by_test true same (Some key) is = all q
    by_test true same None is = ap (λ own. length (filter is_due own)) (sym (none is)) ∙ ap (λ c. due_count c rows) (clients-same client q same)

-- ---- a client of whom nothing is due

no_key : (ks : List ℕ) → slice_get ks 0 ≡ None → ks ≡ []
no_key [] none = refl
no_key (k ∷ ks) none = absurd (cc)

-- without a key in its list it has no entry
pub no_entry : (t : Lists Slot) (client : ClientId) (own : List EntryRow) → map row_of (nodes_in t (OfClient client)) ≡ own → slice_get (keys t (OfClient client)) 0 ≡ None → own ≡ []
no_entry t client own is none = sym is ∙ ap (λ ks. map row_of (nodes_at (node_at t) ks)) (no_key (keys t (OfClient client)) none)

none-listed : (t : Lists Slot) (ks : List ℕ) → filter is_due (map row_of (nodes_at (node_at t) ks)) ≡ [] → (key : ℕ) → is_among ks key ≡ true → is_due_at t key ≡ true → ⊥
none-listed t [] none key listed due = absurd (cc)
none-listed t (k ∷ ks) none key listed due = by_node (node_at t k) refl (λ rest. none-listed t ks rest key) none
  where
    behind : List EntryRow
    behind = map row_of (nodes_at (node_at t) ks)

    here : nat_eq key k ≡ true → node_at t key ≡ node_at t k
    here same = ap (node_at t) (eqb-true key k same)

    by_key : (b : Bool) → nat_eq key k ≡ b → (b || is_among ks key) ≡ true → (nat_eq key k ≡ true → ⊥) → (is_among ks key ≡ true → is_due_at t key ≡ true → ⊥) → ⊥
    by_key true same there first rest = first same
    by_key false other there first rest = rest there due

    by_due : (n : Node Slot) (b : Bool) → is_due (row_of n) ≡ b → cond b (row_of n ∷ filter is_due behind) (filter is_due behind) ≡ [] → (is_due (row_of n) ≡ false) × (filter is_due behind ≡ [])
    by_due n true is none = absurd (cc)
    by_due n false is none = (is, none)

    by_node : (o : Option (Node Slot)) → node_at t k ≡ o → (filter is_due behind ≡ [] → is_among ks key ≡ true → is_due_at t key ≡ true → ⊥)
        → filter is_due (map row_of (with_first o (nodes_at (node_at t) ks))) ≡ [] → ⊥
    by_node None at rest none =
        by_key (nat_eq key k) refl listed (λ same. let out : is_due_at t key ≡ false = ap (λ o. option_map_or (λ (node : Node Slot). is_due_entry node.value.entry) o false) (here same ∙ at) in absurd (cc)) (rest none)
    by_node (Some n) at rest none =
        let o = by_due n (is_due (row_of n)) refl none in
        by_key (nat_eq key k) refl listed (λ same. let out : is_due_at t key ≡ false = ap (λ o. option_map_or (λ (node : Node Slot). is_due_entry node.value.entry) o false) (here same ∙ at) ∙ o.0 in absurd (cc)) (rest o.1)

-- none of it is due before the end
pub none_due-uncounted : (t : Lists Slot) (client : ClientId) (rows : List EntryRow) → map row_of (nodes_in t (OfClient client)) ≡ filter (is_of_client client) rows → due_count client rows ≡ 0 → NoneDueBefore t client None
none_due-uncounted t client rows own none =
    let nothing : filter is_due (map row_of (nodes_in t (OfClient client))) ≡ [] = ap (filter is_due) own ∙ nil_from_length (filter is_due (filter (is_of_client client) rows)) none in
    record { placed = tt; later = λ key listed due. absurd (none-listed t (keys t (OfClient client)) nothing key listed due) }
