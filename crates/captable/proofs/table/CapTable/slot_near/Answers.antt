use Rattle.std.proofs.Common.{◌≡◌, Some, sym, ap, ◌∙◌}
use Rattle.std.specs.Option.{option_map}
use Rattle.cap_arena.specs.Lists.{node_at}
use Rattle.captable.specs.Kept.{sets_beside}
use Rattle.captable.specs.Nodes.{IsKeyOf, holder_of}
use Rattle.captable.specs.Table.{entry_at, holder}
use Rattle.captable.proofs.Beside.{entries_are, kept_are}
use Rattle.captable.proofs.Kept.{sets-found}
use Rattle.captable.proofs.Reading.{entry-found}
use Rattle.captable.proofs.table.CapTable.slot_near.Goals as goal

there : (c : goal.Then-node-holder-2) → node_at c.self.inside.lists c.args.place ≡ Some c.in_ok-node.node
there c = sym c.in_ok-node.ensures.node

-- the node that stands at the place is the holder's, so the holder's key is this place
own : (c : goal.Then-node-holder-2) → IsKeyOf c.self.inside.lists c.args.holder c.args.place
own c =
    let mine : holder_of c.in_ok-node.node ≡ c.args.holder = λ i. holder (record { 0 = c.if-node-holder.true i }) (record { 0 = c.if-node-holder-2.true i }) in
    ap (option_map holder_of) (there c) ∙ ap Some mine

pub returns-then-node-holder-2-clause-entry : goal.returns-then-node-holder-2-clause-entry
returns-then-node-holder-2-clause-entry c =
    sym (ap (λ t. entry_at t c.args.holder) (entries_are c.self.view_is)) ∙ entry-found c.self.inside.lists c.self.inside.made c.self.invariant.0 c.args.holder c.args.place c.in_ok-node.node (own c) (there c)

pub returns-then-node-holder-2-clause-sets : goal.returns-then-node-holder-2-clause-sets
returns-then-node-holder-2-clause-sets c =
    sym (ap (λ kept. sets_beside kept c.args.holder) (kept_are c.self.view_is)) ∙ sets-found c.self.inside.lists c.self.inside.made c.self.invariant.0 c.args.holder c.args.place c.in_ok-node.node (own c) (there c)
