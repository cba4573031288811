use Rattle.std.proofs.Common.{◌∙◌, filter, sym, ap}
use Rattle.std.specs.Option.{option_and_then, option_map}
use Rattle.cap_arena.specs.Lists.{OfClient, node_at}
use Rattle.captable.specs.Table.{Table, holder, holders_of_rows}
use Rattle.captable.specs.Calls.{is_of_client, newer_in}
use Rattle.captable.specs.Nodes.{holder_of, table_of}
use Rattle.captable.proofs.Reading.{next-of, none-next}
use Rattle.captable.proofs.Beside.{entries_are}
use Rattle.captable.proofs.table.CapTable.next_of.Goals as goal

pub returns-in_err-key-clause-after : goal.returns-in_err-key-clause-after
returns-in_err-key-clause-after c =
    let h = holder c.args.client c.args.ino in
    let t = c.self.inside.lists in
    let is = c.self.invariant.0 in
    c.from_residual.ensures ∙ sym (none-next t c.self.inside.made is (OfClient h.client) (filter (is_of_client h.client) (table_of t c.self.inside.made).rows) (is.clients h.client) h c.in_err-key.ensures.none)
    ∙ ap (λ (u : Table). newer_in (holders_of_rows (filter (is_of_client c.args.client) u.rows)) h) (entries_are c.self.view_is)

pub returns-in_err-next-clause-after : goal.returns-in_err-next-clause-after
returns-in_err-next-clause-after c =
    let h = holder c.args.client c.args.ino in
    let t = c.self.inside.lists in
    c.from_residual-in_err-next.ensures
    ∙ ap (λ o. option_and_then (λ k. option_map holder_of (node_at t k)) o) c.in_err-next.ensures.next
    ∙ sym (next-of t c.self.inside.made c.self.invariant.0 h c.in_ok-key.key c.in_ok-key.ensures.found)
    ∙ ap (λ (u : Table). newer_in (holders_of_rows (filter (is_of_client c.args.client) u.rows)) h) (entries_are c.self.view_is)

pub returns-clause-after : goal.returns-clause-after
returns-clause-after c =
    let h = holder c.args.client c.args.ino in
    let t = c.self.inside.lists in
    c.holder_at.ensures
    ∙ ap (λ o. option_and_then (λ k. option_map holder_of (node_at t k)) o) c.in_ok-next.ensures.next
    ∙ sym (next-of t c.self.inside.made c.self.invariant.0 h c.in_ok-key.key c.in_ok-key.ensures.found)
    ∙ ap (λ (u : Table). newer_in (holders_of_rows (filter (is_of_client c.args.client) u.rows)) h) (entries_are c.self.view_is)
