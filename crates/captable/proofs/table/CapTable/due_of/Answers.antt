use Rattle.std.proofs.Common.{◌∙◌, ap, filter}
use Rattle.cap_arena.specs.Lists.{OfClient, keys}
use Rattle.captable.specs.Table.{Table}
use Rattle.captable.specs.Calls.{is_due, is_of_client}
use Rattle.captable.proofs.KeysNotDue.{rows-due}
use Rattle.captable.proofs.Beside.{entries_are}
use Rattle.captable.proofs.table.CapTable.due_of.Goals as goal

pub returns-clause-due : goal.returns-clause-due
returns-clause-due c =
    let t = c.self.inside.lists in
    let client = c.args.client in
    ap (filter is_due) c.from_place.ensures
    ∙ rows-due t (keys t (OfClient client)) c.place_to_poll_from-at.result (c.self.invariant.0.sound.lists (OfClient client)).once c.place_to_poll_from-at.ensures.none_due
    ∙ ap (filter is_due) (c.self.invariant.0.clients client)
    ∙ ap (λ (u : Table). filter is_due (filter (is_of_client client) u.rows)) (entries_are c.self.view_is)
