-- What is kept goes with the entries of a client, one after the other.
use Rattle.std.proofs.Common.{◌≡◌, ◌≢◌, Bool, true, false, cond, Some, None, List, ◌∷◌, filter, true≢false, refl, sym, ap, ◌∙◌}
use Rattle.std.specs.List.{find}
use Rattle.std.proofs.lemmas.Bool.{eq-eqb}
use Rattle.capbits.specs.declared.ids.ClientId.{ClientId}
use Rattle.captable.specs.declared.entry.Holder.{Holder}
use Rattle.captable.specs.declared.entry.Entry.{Entry}
use Rattle.captable.specs.declared.entry.EntryRow.{EntryRow}
use Rattle.captable.specs.Table.{Table, entry_at, entry_of, holder, is_row_of, same}
use Rattle.captable.specs.Calls.{is_of_client}
use Rattle.captable.specs.Known.{ClientViews, sets_of}
use Rattle.captable.proofs.Tables.{same-is, same_equiv}
use Rattle.captable.proofs.Searches.{find-filter_kept}

-- where these entries of the client are left to be looked at, nothing is kept of the others that it has, and of who else has one
-- what was
pub record IsGoing (table : Table) (client : ClientId) (was now : ClientViews) (left : List EntryRow) : Type 0 where
  pub gone : (k : Holder) (e : Entry) → k.client ≡ client → entry_at table k ≡ Some e → find (is_row_of k) left ≡ None → sets_of now k ≡ None
  pub others : (k : Holder) → k.client ≢ client → sets_of now k ≡ sets_of was k

-- at first all are left
pub going-all : (table : Table) (client : ClientId) (was : ClientViews) → IsGoing table client was was (filter (is_of_client client) table.rows)
going-all table client was = record {
  gone = λ k e mine there none.
      let found : find (is_row_of k) table.rows ≡ None = sym (find-filter_kept (is_row_of k) (is_of_client client) (λ row own. eq-eqb row.holder.client.0 client.0 (ap (λ (h : Holder). h.client.0) (sym (same-is k row.holder own)) ∙ ap (λ (c : ClientId). c.0) mine)) table.rows) ∙ none in
      let nobody : entry_at table k ≡ None = ap entry_of found in
      absurd (cc);
  others = λ k apart. refl;
}

-- and then one less, if what is kept of it goes
pub going-on : (table : Table) (client : ClientId) (was now then : ClientViews) (row : EntryRow) (left : List EntryRow) → IsGoing table client was now (row ∷ left)
    → sets_of then (holder client row.holder.ino) ≡ None → ((k : Holder) → k ≢ holder client row.holder.ino → sets_of then k ≡ sets_of now k)
    → IsGoing table client was then left
going-on table client was now then row left going own others = record {
  gone = λ k e mine there none. by_same k e mine there none (same k (holder client row.holder.ino)) refl;
  others = λ k apart. others k (λ is. apart (ap (λ (h : Holder). h.client) is)) ∙ going.others k apart;
}
  where
    -- who is not that holder, has not that row
    not_row : (k : Holder) → k.client ≡ client → same k (holder client row.holder.ino) ≡ false → same k row.holder ≡ false
    not_row k mine off = by_row (same k row.holder) refl
      where
        by_row : (b : Bool) → same k row.holder ≡ b → b ≡ false
        by_row false is = refl
        by_row true is =
            let own : k ≡ holder client row.holder.ino = λ i. record { client = mine i; ino = ap (λ (h : Holder). h.ino) (same-is k row.holder is) i } in
            absurd (true≢false (sym (ap (same k) (sym own) ∙ same_equiv.refl k) ∙ off))

    by_same : (k : Holder) (e : Entry) → k.client ≡ client → entry_at table k ≡ Some e → find (is_row_of k) left ≡ None → (b : Bool) → same k (holder client row.holder.ino) ≡ b → sets_of then k ≡ None
    by_same k e mine there none true on = ap (sets_of then) (same-is k (holder client row.holder.ino) on) ∙ own
    by_same k e mine there none false off =
        others k (λ is. true≢false (sym (ap (same k) (sym is) ∙ same_equiv.refl k) ∙ off))
        ∙ going.gone k e mine there (ap (λ b. cond b (Some row) (find (is_row_of k) left)) (not_row k mine off) ∙ none)
