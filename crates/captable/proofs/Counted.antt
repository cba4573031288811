-- The counts that are kept, after a change of the nodes.
use Rattle.std.proofs.Common.{◌≡◌, ℕ, Bool, true, false, cond, Option, Some, is_some, slice_get, filter, sym, ap, subst, ◌∙◌}
use Rattle.std.specs.Option.{option_map, option_map_or}
use Rattle.std.proofs.lemmas.Bool.{eq-eqb}
use Rattle.capbits.specs.declared.ids.ClientId.{ClientId}
use Rattle.cap_arena.specs.declared.nodes.Node.{Node}
use Rattle.cap_arena.specs.Walks.{is_among}
use Rattle.cap_arena.specs.Lists.{Lists, OfClient, keys, node_at}
use Rattle.captable.specs.declared.entry.Entry.{Entry}
use Rattle.captable.specs.declared.entry.EntryRow.{EntryRow}
use Rattle.captable.specs.declared.entry.Holder.{Holder}
use Rattle.captable.specs.declared.entry.Slot.{Slot}
use Rattle.captable.specs.Table.{Table, is_row_of}
use Rattle.captable.specs.Calls.{changed, is_due_entry, is_of_client, without}
use Rattle.captable.specs.Nodes.{IsKeyOf, holder_of, table_of}
use Rattle.captable.specs.Linked.{IsLinked}
use Rattle.captable.specs.Places.{ArePlaced, is_due_at, same_client}
use Rattle.captable.specs.Polls.{AreCounted, recounted}
use Rattle.captable.proofs.Polled.{left}
use Rattle.captable.proofs.ByHolder.{row_of-entry}
use Rattle.captable.proofs.Counting.{counted-ended, counted-set, counted-without, no_entry}
use Rattle.captable.proofs.Keeping.{is_in}
use Rattle.captable.proofs.Placed.{has-first}
use Rattle.captable.proofs.Reading.{entry-found}
use Rattle.std.specs.List.{find}

module _ (t t' : Lists Slot) (made : ℕ) (h : Holder) (key : ℕ) (is_linked : IsLinked t made) (found : IsKeyOf t h key)
    (n : Node Slot) (there : node_at t key ≡ Some n) (own : holder_of n ≡ h) (kept kept' : ClientId → Option ℕ) (was is : Bool) (was_is : was ≡ is_due_at t key)
    (placed : ArePlaced t kept)
    (updates : (q : ClientId) → kept' q ≡ cond (same_client h.client q) (option_map (recounted was is) (kept q)) (kept q))
    (all : AreCounted (table_of t made).rows kept) where
  abbrev row : EntryRow
  row = record { holder = h; entry = n.value.entry }

  row-found : find (is_row_of h) (table_of t made).rows ≡ Some row
  row-found = row_of-entry (table_of t made) h n.value.entry (entry-found t made is_linked h key n found there)

  was-due : is_due_entry n.value.entry ≡ was
  was-due = sym (was_is ∙ ap (λ o. option_map_or (λ (node : Node Slot). is_due_entry node.value.entry) o false) there)

  counted : is_some (kept h.client) ≡ true
  counted =
      let listed : is_among (keys t (OfClient h.client)) key ≡ true = is_in t is_linked.sound (OfClient h.client) key n there (eq-eqb n.client.0 h.client.0 (ap (λ (k : Holder). k.client.0) own)) in
      placed h.client ∙ has-first (keys t (OfClient h.client)) key listed

  -- the holder has another entry
  pub counted-put : (x : Entry) → is ≡ is_due_entry x → table_of t' made ≡ changed (table_of t made) h (λ _. x) → AreCounted (table_of t' made).rows kept'
  counted-put x is_is table =
      subst (λ (u : Table). AreCounted u.rows kept') (sym table)
      (counted-set (table_of t made).rows h row row-found kept kept' was is was-due counted updates all x (sym is_is))

  -- the holder has none any more, and the count goes with the client's last
  pub counted-gone : is ≡ false → table_of t' made ≡ without (table_of t made) h → IsLinked t' made
      → (kept'' : ClientId → Option ℕ)
      → ((q : ClientId) → kept'' q ≡ cond (same_client h.client q) (left (slice_get (keys t' (OfClient h.client)) 0) (kept' q)) (kept' q))
      → AreCounted (table_of t' made).rows kept''
  counted-gone gone table is_linked' kept'' ends =
      let again : AreCounted (table_of t' made).rows kept' =
      subst (λ (u : Table). AreCounted u.rows kept') (sym table)
      (counted-without (table_of t made).rows h row row-found kept kept' was is was-due counted updates all gone is_linked.table.one_row) in
      counted-ended (table_of t' made).rows h.client (slice_get (keys t' (OfClient h.client)) 0) kept' kept'' ends
      (λ none. no_entry t' h.client (filter (is_of_client h.client) (table_of t' made).rows) (is_linked'.clients h.client) none) again
