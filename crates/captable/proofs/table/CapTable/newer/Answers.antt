use Rattle.std.proofs.Common.{◌∙◌, sym, ap}
use Rattle.std.specs.Option.{option_and_then, option_map}
use Rattle.cap_arena.specs.Lists.{node_at}
use Rattle.captable.specs.Table.{Table, holder}
use Rattle.captable.specs.Calls.{newer_in}
use Rattle.captable.specs.Nodes.{holder_of}
use Rattle.captable.proofs.Reading.{newer-found, newer-none}
use Rattle.captable.proofs.Beside.{entries_are}
use Rattle.captable.proofs.table.CapTable.newer.Goals as goal

pub returns-in_err-key-clause-after : goal.returns-in_err-key-clause-after
returns-in_err-key-clause-after c =
    let h = holder c.args.client c.args.ino in
    c.from_residual.ensures ∙ sym (newer-none c.self.inside.lists c.self.inside.made c.self.invariant.0 h c.in_err-key.ensures.none)
    ∙ ap (λ (t : Table). newer_in t.recall h) (entries_are c.self.view_is)

pub returns-in_err-next-clause-after : goal.returns-in_err-next-clause-after
returns-in_err-next-clause-after c =
    let h = holder c.args.client c.args.ino in
    let t = c.self.inside.lists in
    c.from_residual-in_err-next.ensures
    ∙ ap (λ o. option_and_then (λ k. option_map holder_of (node_at t k)) o) c.in_err-next.ensures.next
    ∙ sym (newer-found t c.self.inside.made c.self.invariant.0 h c.in_ok-key.key c.in_ok-key.ensures.found)
    ∙ ap (λ (t : Table). newer_in t.recall h) (entries_are c.self.view_is)

pub returns-clause-after : goal.returns-clause-after
returns-clause-after c =
    let h = holder c.args.client c.args.ino in
    let t = c.self.inside.lists in
    c.holder_at.ensures
    ∙ ap (λ o. option_and_then (λ k. option_map holder_of (node_at t k)) o) c.in_ok-next.ensures.next
    ∙ sym (newer-found t c.self.inside.made c.self.invariant.0 h c.in_ok-key.key c.in_ok-key.ensures.found)
    ∙ ap (λ (t : Table). newer_in t.recall h) (entries_are c.self.view_is)
