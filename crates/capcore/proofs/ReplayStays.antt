-- Each state that a history leads to has one row for each entry, and its requests in their order.
use Rattle.std.proofs.Common.{◌≡◌, List, [], ◌∷◌, None, sym, subst}
use Rattle.std.proofs.lemmas.Simd.{map-map}
use Rattle.captable.proofs.Tables.{IsTable-changed, IsTable-empty, IsTable-rows}
use Rattle.capcore.specs.declared.entry_request.EntryRequest.TheVariants.{Open, Want}
use Rattle.capcore.proofs.Bounded.{direct-keeps, found-keeps}
use Rattle.capcore.proofs.Common.{Ack, CoreValue, DirectReply, Ended, Event, Gives, IsLegalCore, IsLockMap, IsTable, IsTable-recalled, IsTable-without_client}
use Rattle.capcore.proofs.Common.{Release, Replays, Reply, Row, Scene, Shows, State, Step, after_messages, child, direct, effect, finished, first_messages}
use Rattle.capcore.proofs.Common.{holder, is_of_client, is_sized, judged, moved-all, owed, request-table, shown, sized_in, sizes_owed, state_after}
use Rattle.capcore.proofs.Common.{table-where, with_told}
use Rattle.capcore.proofs.Determined.{opening-order, step-order}
use Rattle.capcore.proofs.Flushed.{flush-table}

-- ---- one row for each entry

effect-table : (old : State) (e : Event) → judged old.scene e ≡ None → IsTable old.scene.table → IsTable (effect old e).state.scene.table
effect-table old (Event.CloseSession client) free table = IsTable-without_client old.scene.table client table
effect-table old (Event.Evict client) free table = IsTable-without_client old.scene.table client table
effect-table old (Event.Recall count) free table = IsTable-recalled old.scene.table count table
effect-table old (Event.Lookup client dir name) free table = found-keeps (λ (s : State). IsTable s.scene.table) old (child old.scene.tree.nodes dir.0 name) table
effect-table old (Event.Open client ino mode) free table = request-table old (holder client ino) (Open mode) table free
effect-table old (Event.Want client ino caps) free table = request-table old (holder client ino) (Want caps) table free
effect-table old (Event.Ack client ino seq) free table = request-table old (holder client ino) (Ack seq) table free
effect-table old (Event.Release client ino caps) free table = request-table old (holder client ino) (Release caps) table free
effect-table old (Event.Flush client ino change) free table = flush-table old (holder client ino) change table
effect-table old e free table = table

finished-table : (old first settled : Scene) → IsTable settled.table → IsTable (finished old first settled).table
finished-table old first settled table = IsTable-rows _ _ (map-map _ _ _) (IsTable-rows settled.table _ (map-map _ _ settled.table.rows) table)

shown-table : (a : DirectReply) (s : State) → IsTable s.scene.table → IsTable (shown a s).scene.table
shown-table (Shows k) s table = IsTable-changed s.scene.table k with_told table
shown-table (Gives client max) s table = table-where (is_of_client client) (after_messages (first_messages s client max)) s.scene.table table
shown-table a s table = table

step-table : (old : State) (e : Event) (a : Reply) (xs : List Ended) (new : State) → Step old e a xs new → IsTable old.scene.table → IsTable new.scene.table
step-table old e a xs new (moves, by) table =
    let first : Scene = (direct old e).state.scene in
    let moved = moved-all first moves by.settled by.settles.made in
    let settled = subst IsTable (sym moved.table) (direct-keeps (λ (s : State). IsTable s.scene.table) old e table (λ free. effect-table old e free table)) in
    subst (λ (s : State). IsTable s.scene.table) (sym by.new_is)
    (shown-table (direct old e).reply_due (state_after old (direct old e) moves by.settled)
    (finished-table old.scene first (sizes_owed (sized_in moves) by.settled) (table-where (is_sized (sized_in moves)) owed by.settled.table settled)))

-- ---- rows and requests in order

abbrev pub IsInOrder : State → Type 0
IsInOrder s = IsTable s.scene.table × IsLockMap s.scene.locks

replays-stay : (first last : State) (rows : List Row) → Replays first rows last → IsInOrder first → IsInOrder last
replays-stay first last [] is order = subst IsInOrder (sym is) order
replays-stay first last (r ∷ rows) (mid, step, rest) (table, locks) =
    replays-stay mid last rows rest (step-table first r.event r.reply r.ended mid step table, step-order first r.event locks r.reply r.ended mid step)

pub legal_core-in_order : (t : CoreValue) → IsLegalCore t → IsInOrder t.state
legal_core-in_order t is =
    replays-stay is.opening t.state t.rows is.legal.replays (subst IsTable (sym is.is_opening.table_is) IsTable-empty, opening-order is.fs is.tree is.opening is.is_opening)
