use Rattle.std.proofs.Common.{◌∙◌, sym, ap}
use Rattle.captable.specs.Table.{entry_at, holder}
use Rattle.captable.proofs.Reading.{entry-found, entry-none, no_hole}
use Rattle.captable.proofs.Beside.{entries_are}
use Rattle.captable.proofs.table.CapTable.find.Goals as goal

pub returns-in_err-key-clause-entry : goal.returns-in_err-key-clause-entry
returns-in_err-key-clause-entry c =
    let h = holder c.args.client c.args.ino in
    c.from_residual.ensures ∙ sym (entry-none c.self.inside.lists c.self.inside.made c.self.invariant.0 h c.in_err-key.ensures.none) ∙ ap (λ t. entry_at t h) (entries_are c.self.view_is)

pub returns-in_err-node-clause-entry : goal.returns-in_err-node-clause-entry
returns-in_err-node-clause-entry c =
    let h = holder c.args.client c.args.ino in
    absurd (no_hole c.self.inside.lists c.self.inside.made c.self.invariant.0 h c.in_ok-key.key c.in_ok-key.ensures.found (sym c.in_err-node.ensures.node))

pub returns-clause-entry : goal.returns-clause-entry
returns-clause-entry c =
    let h = holder c.args.client c.args.ino in
    sym (entry-found c.self.inside.lists c.self.inside.made c.self.invariant.0 h c.in_ok-key.key c.in_ok-node.node c.in_ok-key.ensures.found (sym c.in_ok-node.ensures.node))
    ∙ ap (λ t. entry_at t h) (entries_are c.self.view_is)
