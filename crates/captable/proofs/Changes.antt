-- A change by the entry that was found, as a change of the table.
use Rattle.std.proofs.Common.{◌≡◌, true, false, cond, Option, Some, None, List, [], ◌∷◌, refl, sym, ap, ◌∙◌}
use Rattle.std.specs.List.{find}
use Rattle.captable.specs.declared.entry.Holder.{Holder}
use Rattle.captable.specs.declared.entry.Entry.{Entry}
use Rattle.captable.specs.declared.entry.EntryRow.{EntryRow}
use Rattle.captable.specs.Table.{Table, entry_at, entry_of, is_row_of, same}
use Rattle.captable.specs.Calls.{change_rows, changed}

-- where the holder has no row, nothing changes
change_none : (rows : List EntryRow) (k : Holder) (f : Entry → Entry) → find (is_row_of k) rows ≡ None → change_rows rows k f ≡ rows
change_none [] k f none = refl
change_none (r ∷ rows) k f none =
    elim (same k r.holder) as (λ b. cond b (Some r) (find (is_row_of k) rows) ≡ None → cond b (record r { entry = f r.entry } ∷ rows) (r ∷ change_rows rows k f) ≡ r ∷ rows)
    [ true ↦ λ none. absurd (cc) | false ↦ λ none. ap (λ xs. r ∷ xs) (change_none rows k f none) ] none

-- where the holder's entry is e, a change that gives f e is the change by f
change_same : (rows : List EntryRow) (k : Holder) (e x : Entry) (f : Entry → Entry) → entry_of (find (is_row_of k) rows) ≡ Some e → x ≡ f e → change_rows rows k (λ _. x) ≡ change_rows rows k f
change_same [] k e x f some is = refl
change_same (r ∷ rows) k e x f some is =
    elim (same k r.holder) as (λ b. entry_of (cond b (Some r) (find (is_row_of k) rows)) ≡ Some e → cond b (record r { entry = x } ∷ rows) (r ∷ change_rows rows k (λ _. x)) ≡ cond b (record r { entry = f r.entry } ∷ rows) (r ∷ change_rows rows k f)) [
      | true ↦ λ some. let same_entry : e ≡ r.entry = cc in ap (λ y. record r { entry = y } ∷ rows) (is ∙ ap f same_entry)
      | false ↦ λ some. ap (λ xs. r ∷ xs) (change_same rows k e x f some is)
    ] some

-- the entry was found, and the holder has the changed one now
pub put_found : (t : Table) (k : Holder) (e x : Entry) (f : Entry → Entry) → entry_at t k ≡ Some e → x ≡ f e → changed t k (λ _. x) ≡ changed t k f
put_found t k e x f some is = ap (λ (rows : List EntryRow). record t { rows = rows }) (change_same t.rows k e x f some is)

-- where two changes make the same of the holder's entry, they are the same change
pub same_found : (t : Table) (k : Holder) (e : Entry) (f g : Entry → Entry) → entry_at t k ≡ Some e → f e ≡ g e → changed t k f ≡ changed t k g
same_found t k e f g some is = sym (put_found t k e (f e) f some refl) ∙ put_found t k e (f e) g some is

change_itself : (rows : List EntryRow) (k : Holder) → change_rows rows k (λ e. e) ≡ rows
change_itself [] k = refl
change_itself (r ∷ rows) k = elim (same k r.holder) as (λ b. cond b (r ∷ rows) (r ∷ change_rows rows k (λ e. e)) ≡ r ∷ rows) [ true ↦ refl | false ↦ ap (λ xs. r ∷ xs) (change_itself rows k) ]

-- a change that leaves the entry leaves the table
pub left_found : (t : Table) (k : Holder) (e : Entry) (f : Entry → Entry) → entry_at t k ≡ Some e → f e ≡ e → t ≡ changed t k f
left_found t k e f some is =
    ap (λ (rows : List EntryRow). record t { rows = rows }) (sym (change_itself t.rows k)) ∙ same_found t k e (λ e. e) f some (sym is)

-- where there is no entry, there is no row
pub no_entry : (o : Option EntryRow) → entry_of o ≡ None → o ≡ None
no_entry None e = refl
no_entry (Some row) e = absurd (cc)

-- no entry was found, and none changed
pub none_found : (t : Table) (k : Holder) (f : Entry → Entry) → entry_at t k ≡ None → t ≡ changed t k f
none_found t k f none = ap (λ (rows : List EntryRow). record t { rows = rows }) (sym (change_none t.rows k f (no_entry (find (is_row_of k) t.rows) none)))
