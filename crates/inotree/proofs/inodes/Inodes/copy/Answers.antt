use Rattle.std.proofs.Common.{sym, ap, ◌∙◌}
use Rattle.std.specs.Cmp.{nat_cmp_total}
use Rattle.std.specs.FinMap as map
use Rattle.std.specs.Map.Iter.{deref}
use Rattle.std.proofs.lemmas.Map.Iter.{iter_end}
use Rattle.capbits.proofs.Copies.{copied_keys, copied_none, copied_put, copied_skip}
use Rattle.inotree.proofs.inodes.Inodes.copy.Goals as goal

pub loop-ino-init : goal.loop-ino-init
loop-ino-init c = λ q. ap (λ m. map.get m q) c.new-made.ensures ∙ copied_none nat_cmp_total map.nat_cmp-IsAntisymmetric c.args.self.now q

pub loop-ino-preserved-in_ok-insert : goal.loop-ino-preserved-in_ok-insert
loop-ino-preserved-in_ok-insert c =
    let there = ap (λ m. map.get m c.in-Some.ino.now) (sym c.self.view_is) ∙ sym c.in-Some-get.ensures in
    copied_put nat_cmp_total map.nat_cmp-IsAntisymmetric deref c.args.self.now c.loop-ino.made c.insert.new.self c.loop-ino.yielded c.in-Some.ino c.in-Some-get.node.now there
    (c.in_ok-insert.ensures.ok ∙ ap (map.insert c.loop-ino.made c.in-Some.ino.now) c.in_ok-copy.ensures) c.loop-ino.invariant

pub loop-ino-preserved : goal.loop-ino-preserved
loop-ino-preserved c =
    let none = ap (λ m. map.get m c.in-Some.ino.now) (sym c.self.view_is) ∙ sym c.in_default.ensures in
    copied_skip nat_cmp_total map.nat_cmp-IsAntisymmetric deref c.args.self.now c.loop-ino.made c.loop-ino.yielded c.in-Some.ino none c.loop-ino.invariant

pub returns : goal.returns
returns c =
    let start = c.into_iter-ino-iterator.ensures.into_iter_gives ∙ c.keys-ino-items.ensures ∙ ap map.keys c.self.view_is in
    let whole = (iter_end deref _ c.loop-ino.yielded _ _ _ _ start c.loop-ino.yielded_by c.in-None.is c.next.ensures.steps).0 in
    copied_keys nat_cmp_total map.nat_cmp-IsAntisymmetric c.args.self.now c.loop-ino.made _ whole c.loop-ino.invariant
