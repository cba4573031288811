use Rattle.std.proofs.Common.{◌≡◌, ◌≤◌, ◌<◌, sym, List, ◌∷◌, ◌++◌, length, ap, ◌∙◌, arith, length-append}
use Rattle.std.proofs.lemmas.List.{length-map}
use Rattle.capcore.proofs.AtEnd.{few-entries}
use Rattle.capcore.proofs.CommonPieces.{EntryRow, clients_of, entries_on}
use Rattle.capcore.proofs.finish.clients_on.Goals as goal

-- the client that comes is one of those that have an entry
pub push-requires : goal.push-requires
push-requires c =
    let rows : List EntryRow = entries_on c.args.table.now.entries c.args.ino in
    let left : List EntryRow = c.in-Some.row ∷ c.next.new.self in
    let few : length rows ≤ 64 = few-entries c.args.table.now.entries c.args.ino c.args.sessions.now c.holders_of-walk.ensures.sound c.room_for_clients-clients.ensures.few c.requires in
    let whole : c.rows.clients.items ++ clients_of left ≡ clients_of rows =
    ap (λ (rows : List EntryRow). c.rows.clients.items ++ clients_of rows) (sym c.in-Some.ensures.some) ∙ c.rows.invariant ∙ ap clients_of c.holders_of-walk.ensures.rows in
    let long : length (c.rows.clients.items ++ clients_of left) ≡ length rows = ap length whole ∙ length-map rows (λ (row : EntryRow). row.holder.client.0) in
    let room : length c.rows.clients.items < 64 = omega (arith, few, long, length-append c.rows.clients.items (clients_of left)) in
    (omega arith, room)
