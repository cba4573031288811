use Rattle.std.proofs.Common.{◌∙◌, sym, ap, subst}
use Rattle.std.specs.Option.{option_and_then, option_map}
use Rattle.cap_arena.specs.Lists.{OfInode, node_at}
use Rattle.captable.specs.Table.{Table}
use Rattle.captable.specs.Calls.{entries_on}
use Rattle.captable.specs.Kept.{AreBeside}
use Rattle.captable.specs.Nodes.{holder_of, table_of}
use Rattle.captable.specs.Walks.{first_holder}
use Rattle.captable.proofs.Beside.{entries_are}
use Rattle.captable.proofs.Kept.{are_beside}
use Rattle.captable.proofs.Reading.{first-in}
use Rattle.captable.proofs.table.CapTable.first_on.Goals as goal

pub returns-clause-first : goal.returns-clause-first
returns-clause-first c =
    let t = c.self.inside.lists in
    let is = c.self.invariant.0 in
    c.holder_at.ensures
    ∙ ap (λ o. option_and_then (λ k. option_map holder_of (node_at t k)) o) (sym c.in_ok-key.was)
    ∙ first-in t c.self.inside.made is (OfInode c.args.ino) (entries_on (table_of t c.self.inside.made) c.args.ino) (is.inodes c.args.ino) c.first_of_ino.result c.first_of_ino.ensures.first
    ∙ ap (λ (u : Table). first_holder (entries_on u c.args.ino)) (entries_are c.self.view_is)

pub returns-in_err-key-clause-beside : goal.returns-in_err-key-clause-beside
returns-in_err-key-clause-beside c = subst AreBeside c.self.view_is (are_beside c.self.inside.lists c.self.inside.made c.self.invariant.0)

pub returns-clause-beside : goal.returns-clause-beside
returns-clause-beside c = subst AreBeside c.self.view_is (are_beside c.self.inside.lists c.self.inside.made c.self.invariant.0)
