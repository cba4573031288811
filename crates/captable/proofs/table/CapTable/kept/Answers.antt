use Rattle.std.proofs.Common.{◌∙◌, sym, ap, subst}
use Rattle.captable.specs.Table.{holder}
use Rattle.captable.specs.Kept.{AreBeside, sets_beside}
use Rattle.captable.proofs.Beside.{kept_are}
use Rattle.captable.proofs.Kept.{are_beside, sets-found, sets-none}
use Rattle.captable.proofs.Reading.{no_hole}
use Rattle.captable.proofs.table.CapTable.kept.Goals as goal

pub returns-in_err-key-clause-kept : goal.returns-in_err-key-clause-kept
returns-in_err-key-clause-kept c =
    let h = holder c.args.client c.args.ino in
    c.from_residual.ensures ∙ sym (sets-none c.self.inside.lists c.self.inside.made c.self.invariant.0 h c.in_err-key.ensures.none) ∙ ap (λ kept. sets_beside kept h) (kept_are c.self.view_is)

pub returns-in_err-beside-clause-kept : goal.returns-in_err-beside-clause-kept
returns-in_err-beside-clause-kept c =
    let h = holder c.args.client c.args.ino in
    absurd (no_hole c.self.inside.lists c.self.inside.made c.self.invariant.0 h c.in_ok-key.key c.in_ok-key.ensures.found (sym c.in_err-beside.ensures.node))

pub returns-clause-kept : goal.returns-clause-kept
returns-clause-kept c =
    let h = holder c.args.client c.args.ino in
    sym (sets-found c.self.inside.lists c.self.inside.made c.self.invariant.0 h c.in_ok-key.key c.in_ok-beside.beside c.in_ok-key.ensures.found (sym c.in_ok-beside.ensures.node))
    ∙ ap (λ kept. sets_beside kept h) (kept_are c.self.view_is)

pub returns-in_err-key-clause-beside : goal.returns-in_err-key-clause-beside
returns-in_err-key-clause-beside c = subst AreBeside c.self.view_is (are_beside c.self.inside.lists c.self.inside.made c.self.invariant.0)

pub returns-in_err-beside-clause-beside : goal.returns-in_err-beside-clause-beside
returns-in_err-beside-clause-beside c = subst AreBeside c.self.view_is (are_beside c.self.inside.lists c.self.inside.made c.self.invariant.0)

pub returns-clause-beside : goal.returns-clause-beside
returns-clause-beside c = subst AreBeside c.self.view_is (are_beside c.self.inside.lists c.self.inside.made c.self.invariant.0)
