-- Changes of a table that has no entry for them.
use Rattle.std.proofs.Common.{◌≡◌, ◌<◌, ◌≤◌, Bool, true, false, not, ◌&&◌, ◌||◌, cond, Some, None, List, [], ◌∷◌, ◌++◌, length, filter, refl, sym, ap, ◌∙◌}
use Rattle.std.proofs.Common.{arith, append-nil}
use Rattle.std.specs.Prelude.{◌==◌}
use Rattle.std.proofs.lemmas.Bool.{or_parts}
use Rattle.capbits.specs.declared.ids.ClientId.{ClientId}
use Rattle.captable.specs.declared.entry.Holder.{Holder}
use Rattle.captable.specs.declared.entry.EntryRow.{EntryRow}
use Rattle.captable.specs.Table.{IsTable, Table, entry_at, holders_of_rows, is_among, is_row_of, same}
use Rattle.captable.specs.Calls.{is_of_client, moved_last, touched, without, without_client}
use Rattle.captable.specs.Walks.{first_holder}
use Rattle.captable.proofs.Tables.{among-filter, holders-filter, no_row, same-is, same_equiv}
use Rattle.captable.proofs.Searches.{filter-filter, filter-filter_kept}
use Rattle.captable.proofs.Numbers.{shorter}

-- a filter that keeps all
pub kept-holders : (k : Holder) (hs : List Holder) → is_among hs k ≡ false → filter (λ h. not (same k h)) hs ≡ hs
kept-holders k [] out = refl
kept-holders k (h ∷ hs) out =
    let p = or_parts (same k h) (is_among hs k) out in
    ap (λ b. cond (not b) (h ∷ filter (λ h. not (same k h)) hs) (filter (λ h. not (same k h)) hs)) p.0 ∙ ap (λ rest. h ∷ rest) (kept-holders k hs p.1)

pub none-kept : (k : Holder) (hs : List Holder) → is_among hs k ≡ false → filter (same k) hs ≡ []
none-kept k [] out = refl
none-kept k (h ∷ hs) out =
    let p = or_parts (same k h) (is_among hs k) out in
    ap (λ b. cond b (h ∷ filter (same k) hs) (filter (same k) hs)) p.0 ∙ none-kept k hs p.1

kept-rows : (k : Holder) (rows : List EntryRow) → is_among (holders_of_rows rows) k ≡ false → filter (λ row. not (is_row_of k row)) rows ≡ rows
kept-rows k [] out = refl
kept-rows k (row ∷ rows) out =
    let p = or_parts (same k row.holder) (is_among (holders_of_rows rows) k) out in
    ap (λ b. cond (not b) (row ∷ filter (λ row. not (is_row_of k row)) rows) (filter (λ row. not (is_row_of k row)) rows)) p.0 ∙ ap (λ rest. row ∷ rest) (kept-rows k rows p.1)

-- ---- one holder

pub without-none : (t : Table) (k : Holder) → IsTable t → entry_at t k ≡ None → t ≡ without t k
without-none t k is none =
    let out : is_among (holders_of_rows t.rows) k ≡ false = no_row t.rows k none in
    λ i. record t { rows = sym (kept-rows k t.rows out) i; recall = sym (kept-holders k t.recall (is.in_both k ∙ out)) i }

pub touched-none : (t : Table) (k : Holder) → IsTable t → entry_at t k ≡ None → t ≡ touched t k
touched-none t k is none =
    let out : is_among t.recall k ≡ false = is.in_both k ∙ no_row t.rows k none in
    let as_it_was : moved_last t.recall k ≡ t.recall = (λ i. kept-holders k t.recall out i ++ none-kept k t.recall out i) ∙ append-nil t.recall in
    λ i. record t { recall = sym as_it_was i }

-- ---- a client

-- whoever is not the client, is not one of its holders
pub other-client : (client : ClientId) (k : Holder) → (k.client.0 == client.0) ≡ true → (h : Holder) → not (h.client.0 == client.0) ≡ true → not (same k h) ≡ true
other-client client k of h stays = by_test (same k h) refl
  where
    by_test : (b : Bool) → same k h ≡ b → not b ≡ true
    by_test false e = refl
    by_test true e = absurd (let c : not (k.client.0 == client.0) ≡ true = ap (λ (j : Holder). not (j.client.0 == client.0)) (same-is k h e) ∙ stays in let d : not (k.client.0 == client.0) ≡ false = ap not of in cc)

-- what is left by one of its holders first
pub without-one : (t : Table) (client : ClientId) (k : Holder) → (k.client.0 == client.0) ≡ true → without_client (without t k) client ≡ without_client t client
without-one t client k of =
    let rows = filter-filter_kept (λ row. not (is_of_client client row)) (λ row. not (is_row_of k row)) (λ row stays. other-client client k of row.holder stays) t.rows in
    let recall = filter-filter_kept (λ h. not (h.client.0 == client.0)) (λ h. not (same k h)) (λ h stays. other-client client k of h stays) t.recall in
    λ i. record t { rows = rows i; recall = recall i }

-- the first holder of some rows of a client
pub first-of : (client : ClientId) (rows : List EntryRow) (k : Holder) → first_holder (filter (is_of_client client) rows) ≡ Some k → (k.client.0 == client.0) ≡ true
first-of client [] k e = absurd (cc)
first-of client (row ∷ rows) k e = by_test (is_of_client client row) refl (first-of client rows k) e
  where
    by_test : (b : Bool) → is_of_client client row ≡ b → (first_holder (filter (is_of_client client) rows) ≡ Some k → (k.client.0 == client.0) ≡ true)
        → first_holder (cond b (row ∷ filter (is_of_client client) rows) (filter (is_of_client client) rows)) ≡ Some k → (k.client.0 == client.0) ≡ true
    by_test true own rest e = let is : row.holder ≡ k = cc in ap (λ (h : Holder). h.client.0 == client.0) (sym is) ∙ own
    by_test false other rest e = rest e

-- the client has fewer entries without one
pub fewer : (t : Table) (client : ClientId) (k : Holder) → first_holder (filter (is_of_client client) t.rows) ≡ Some k
    → length (filter (is_of_client client) (without t k).rows) < length (filter (is_of_client client) t.rows)
fewer t client k e = rw (filter-filter (is_of_client client) (λ row. not (is_row_of k row)) t.rows) (of_rows (filter (is_of_client client) t.rows) e)
  where
    of_rows : (rows : List EntryRow) → first_holder rows ≡ Some k → length (filter (λ row. not (is_row_of k row)) rows) < length rows
    of_rows [] e = absurd (cc)
    of_rows (row ∷ rows) e =
        let is : row.holder ≡ k = cc in
        let own : same k row.holder ≡ true = ap (same k) is ∙ same_equiv.refl k in
        let kept = filter (λ row. not (is_row_of k row)) rows in
        let gone : length (cond (not (same k row.holder)) (row ∷ kept) kept) ≡ length kept = ap (λ b. length (cond (not b) (row ∷ kept) kept)) own in
        let less : length kept ≤ length rows = shorter (λ row. not (is_row_of k row)) rows in
        rw gone (omega arith)

none-first : (rows : List EntryRow) → first_holder rows ≡ None → rows ≡ []
none-first [] e = refl
none-first (row ∷ rows) e = absurd (cc)

-- where none passes, all others are all
pub all-stay : {X : Type 0} (p : X → Bool) (xs : List X) → filter p xs ≡ [] → filter (λ x. not (p x)) xs ≡ xs
all-stay p [] e = refl
all-stay {X} p (x ∷ xs) e = by_test (p x) (all-stay p xs) e
  where
    by_test : (b : Bool) → (filter p xs ≡ [] → filter (λ (x : X). not (p x)) xs ≡ xs) → cond b (x ∷ filter p xs) (filter p xs) ≡ []
        → cond (not b) (x ∷ filter (λ (x : X). not (p x)) xs) (filter (λ (x : X). not (p x)) xs) ≡ x ∷ xs
    by_test true rest e = absurd (cc)
    by_test false rest e = ap (λ ys. x ∷ ys) (rest e)

holders-stay : (p : Holder → Bool) (hs : List Holder) → ((k : Holder) → is_among hs k ≡ true → p k ≡ false) → filter (λ h. not (p h)) hs ≡ hs
holders-stay p [] out = refl
holders-stay p (h ∷ hs) out =
    ap (λ b. cond (not b) (h ∷ filter (λ h. not (p h)) hs) (filter (λ h. not (p h)) hs)) (out h (ap (λ b. b || is_among hs h) (same_equiv.refl h)))
    ∙ ap (λ rest. h ∷ rest) (holders-stay p hs (λ k there. out k (ap (λ b. same k h || b) there ∙ or_true (same k h))))
  where
    or_true : (b : Bool) → (b || true) ≡ true
    or_true true = refl
    or_true false = refl

-- where the client has no entry, no holder is the client
pub no-holder : (t : Table) (client : ClientId) → first_holder (filter (is_of_client client) t.rows) ≡ None → filter (λ (h : Holder). h.client.0 == client.0) (holders_of_rows t.rows) ≡ []
no-holder t client none = sym (holders-filter (λ h. h.client.0 == client.0) t.rows) ∙ ap holders_of_rows (none-first (filter (is_of_client client) t.rows) none)

-- and nothing goes
pub without-nobody : (t : Table) (client : ClientId) → IsTable t → first_holder (filter (is_of_client client) t.rows) ≡ None → without_client t client ≡ t
without-nobody t client is none =
    let no_rows : filter (is_of_client client) t.rows ≡ [] = none-first (filter (is_of_client client) t.rows) none in
    let p : Holder → Bool = λ h. h.client.0 == client.0 in
    let nobody : filter p (holders_of_rows t.rows) ≡ [] = no-holder t client none in
    let recall : filter (λ (h : Holder). not (h.client.0 == client.0)) t.recall ≡ t.recall =
    holders-stay p t.recall (λ k there. sym (and_true (p k)) ∙ ap (λ b. p k && b) (sym (sym (is.in_both k) ∙ there)) ∙ sym (among-filter p (holders_of_rows t.rows) k) ∙ ap (λ hs. is_among hs k) nobody) in
    λ i. record t { rows = all-stay (is_of_client client) t.rows no_rows i; recall = recall i }
  where
    and_true : (b : Bool) → (b && true) ≡ b
    and_true true = refl
    and_true false = refl
