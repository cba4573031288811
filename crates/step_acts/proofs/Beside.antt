-- What is kept beside entries, by holder.
use Rattle.std.proofs.Common.{◌≡◌, ◌==◌, ◌||◌, true, false, not, cond, Option, Some, None, is_some, List, [], ◌∷◌, map, refl, sym, ap, ◌∙◌}
use Rattle.std.specs.List.{find}
use Rattle.std.specs.Option.{option_map}
use Rattle.captable.proofs.Searches.{find-filter_gone, find-filter_kept, find-map, find_passes}
use Rattle.captable.specs.Kept.{AreBeside, KeptRow, KeptTable, is_kept_of, keeping, kept_without_client}
use Rattle.step_acts.proofs.Common.{ClientId, ClientView, EntryRow, Holder, entry_at, entry_of, holders_of_rows, is_among, is_row_of, same, same-is}
use Rattle.step_acts.specs.Known.{ClientViews, sets_of}

-- ---- who has an entry

sets-among : (kept : ClientViews) (k : Holder) → is_some (sets_of kept k) ≡ is_among (map (λ (row : KeptRow). row.holder) kept) k
sets-among [] k = refl
sets-among (row ∷ kept) k =
    elim (is_kept_of k row) as (λ b. is_some (option_map (λ (r : KeptRow). r.sets) (cond b (Some row) (find (is_kept_of k) kept))) ≡ (b || is_among (map (λ (r : KeptRow). r.holder) kept) k))
    [ true ↦ refl | false ↦ sets-among kept k ]

pub entry-among : (rows : List EntryRow) (k : Holder) → is_some (entry_of (find (is_row_of k) rows)) ≡ is_among (holders_of_rows rows) k
entry-among [] k = refl
entry-among (row ∷ rows) k =
    elim (is_row_of k row) as (λ b. is_some (entry_of (cond b (Some row) (find (is_row_of k) rows))) ≡ (b || is_among (holders_of_rows rows) k))
    [ true ↦ refl | false ↦ entry-among rows k ]

-- there are sets beside its entry
pub beside-entry : (t : KeptTable) (k : Holder) → AreBeside t → is_some (sets_of t.kept k) ≡ is_some (entry_at t.entries k)
beside-entry t k beside = sets-among t.kept k ∙ ap (λ hs. is_among hs k) beside ∙ sym (entry-among t.entries.rows k)

-- ---- other sets are kept of a holder

module _ (kept : ClientViews) (k : Holder) (f : ClientView → ClientView) where
  abbrev changed_row : KeptRow → KeptRow
  changed_row row = cond (is_kept_of k row) (record row { sets = f row.sets }) row

  found : (j : Holder) → find (is_kept_of j) (keeping kept k f) ≡ option_map changed_row (find (is_kept_of j) kept)
  found j = find-map (is_kept_of j) changed_row (λ row. elim (is_kept_of k row) as (λ b. is_kept_of j (cond b (record row { sets = f row.sets }) row) ≡ is_kept_of j row) [ true ↦ refl | false ↦ refl ]) kept

  -- its own
  pub keeping-own : sets_of (keeping kept k f) k ≡ option_map f (sets_of kept k)
  keeping-own = ap (option_map (λ (row : KeptRow). row.sets)) (found k) ∙ by_row (find (is_kept_of k) kept) refl
    where
      by_row : (o : Option KeptRow) → find (is_kept_of k) kept ≡ o
          → option_map (λ (row : KeptRow). row.sets) (option_map changed_row o) ≡ option_map f (option_map (λ (row : KeptRow). row.sets) o)
      by_row None none = refl
      by_row (Some row) there = ap (λ b. Some (cond b (record row { sets = f row.sets }) row).sets) (find_passes (is_kept_of k) kept row there)

  -- and another's
  pub keeping-other : (j : Holder) → same k j ≡ false → sets_of (keeping kept k f) j ≡ sets_of kept j
  keeping-other j off = ap (option_map (λ (row : KeptRow). row.sets)) (found j) ∙ by_row (find (is_kept_of j) kept) refl
    where
      by_row : (o : Option KeptRow) → find (is_kept_of j) kept ≡ o → option_map (λ (row : KeptRow). row.sets) (option_map changed_row o) ≡ option_map (λ (row : KeptRow). row.sets) o
      by_row None none = refl
      by_row (Some row) there =
          ap (λ b. Some (cond b (record row { sets = f row.sets }) row).sets) (sym (ap (same k) (same-is j row.holder (find_passes (is_kept_of j) kept row there))) ∙ off)

-- ---- a client has gone

module _ (kept : ClientViews) (client : ClientId) (k : Holder) where
  on : (row : KeptRow) → is_kept_of k row ≡ true → (row.holder.client.0 == client.0) ≡ (k.client.0 == client.0)
  on row is = ap (λ (h : Holder). h.client.0 == client.0) (sym (same-is k row.holder is))

  pub gone-own : (k.client.0 == client.0) ≡ true → sets_of (kept_without_client kept client) k ≡ None
  gone-own own =
      ap (option_map (λ (row : KeptRow). row.sets)) (find-filter_gone (is_kept_of k) (λ row. not (row.holder.client.0 == client.0)) (λ row is. ap not (on row is ∙ own)) kept)

  pub gone-other : (k.client.0 == client.0) ≡ false → sets_of (kept_without_client kept client) k ≡ sets_of kept k
  gone-other off =
      ap (option_map (λ (row : KeptRow). row.sets)) (find-filter_kept (is_kept_of k) (λ row. not (row.holder.client.0 == client.0)) (λ row is. ap not (on row is ∙ off)) kept)
