use Rattle.std.proofs.Common.{sym, ◌∙◌}
use Rattle.captable.proofs.Keyed.{key-is, none-behind, none-yet, step-less, step-on}
use Rattle.captable.proofs.nodes.key_from.Goals as goal

pub nodes-init : goal.nodes-init
nodes-init c = none-yet c.args.lists.now c.args.holder c.args.from c.requires

pub nodes-smaller : goal.nodes-smaller
nodes-smaller c =
    step-less c.args.lists.now c.args.holder c.args.from c.next_of_ino-place.ensures.sound c.nodes.place c.in-Some.key c.in-Some.is c.nodes.invariant
    c.next_of_ino-place.result c.next_of_ino-place.ensures.next

pub nodes-preserved : goal.nodes-preserved
nodes-preserved c =
    step-on c.args.lists.now c.args.holder c.args.from c.next_of_ino-place.ensures.sound c.nodes.place c.in-Some.key c.in-Some.is c.nodes.invariant
    c.next_of_ino-place.result c.next_of_ino-place.ensures.next (sym c.is_key_of.ensures ∙ c.if-is_key_of.false)

pub returns-then-is_key_of-clause-found : goal.returns-then-is_key_of-clause-found
returns-then-is_key_of-clause-found c =
    key-is c.args.lists.now c.args.holder c.in-Some.key (sym c.is_key_of.ensures ∙ c.if-is_key_of.true)

pub returns-in_default-clause-none : goal.returns-in_default-clause-none
returns-in_default-clause-none c = none-behind c.args.lists.now c.args.holder c.args.from c.nodes.place c.nodes.invariant
