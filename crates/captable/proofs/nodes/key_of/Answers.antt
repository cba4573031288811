use Rattle.std.proofs.Common.{sym, subst, ◌∙◌}
use Rattle.cap_arena.specs.Lists.{OfInode, keys}
use Rattle.captable.specs.Walks.{IsPlaceIn}
use Rattle.captable.proofs.Keyed.{none-at-all}
use Rattle.captable.proofs.WalkOn.{first-in}
use Rattle.captable.proofs.nodes.key_of.Goals as goal

pub key_from-requires : goal.key_from-requires
key_from-requires c = (c.is_on.ensures.sound.lists (OfInode c.args.holder.ino)).nodes c.args.near ∙ sym c.is_on.ensures.on ∙ c.if-is_on.true

pub key_from-requires-2 : goal.key_from-requires-2
key_from-requires-2 c =
    let ks = keys c.args.lists.now (OfInode c.args.holder.ino) in
    subst (IsPlaceIn ks) (sym c.first_of_ino-first.ensures.first) (first-in ks)

pub returns-clause-none : goal.returns-clause-none
returns-clause-none c =
    none-at-all c.args.lists.now c.first_of_ino-first.ensures.sound c.args.holder c.first_of_ino-first.result c.first_of_ino-first.ensures.first
    c.key_from-2.result c.key_from-2.ensures.none
