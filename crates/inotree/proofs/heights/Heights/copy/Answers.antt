use Rattle.std.proofs.Common.{sym, ap, ◌∙◌}
use Rattle.std.specs.Cmp.{nat_cmp_total}
use Rattle.std.specs.FinMap as map
use Rattle.std.specs.Map.Iter.{deref}
use Rattle.std.proofs.lemmas.Map.Iter.{iter_end}
use Rattle.capbits.proofs.Copies.{copied_keys, copied_none, copied_put, copied_skip}
use Rattle.inotree.proofs.heights.Heights.copy.Goals as goal

pub loop-dir-init : goal.loop-dir-init
loop-dir-init c = λ q. ap (λ m. map.get m q) c.new-made.ensures ∙ copied_none nat_cmp_total map.nat_cmp-IsAntisymmetric c.args.self.now q

pub loop-dir-preserved-in-Continue-1 : goal.loop-dir-preserved-in-Continue-1
loop-dir-preserved-in-Continue-1 c =
    let there = ap (λ m. map.get m c.in-Some.dir.now) (sym c.self.view_is) ∙ sym c.in-Some-get.ensures in
    copied_put nat_cmp_total map.nat_cmp-IsAntisymmetric deref c.args.self.now c.loop-dir.made c.insert.new.self c.loop-dir.yielded c.in-Some.dir c.in-Some-get.height.now there
    c.in_ok-insert.ensures.ok c.loop-dir.invariant

pub loop-dir-preserved : goal.loop-dir-preserved
loop-dir-preserved c =
    let none = ap (λ m. map.get m c.in-Some.dir.now) (sym c.self.view_is) ∙ sym c.in_default.ensures in
    copied_skip nat_cmp_total map.nat_cmp-IsAntisymmetric deref c.args.self.now c.loop-dir.made c.loop-dir.yielded c.in-Some.dir none c.loop-dir.invariant

pub returns : goal.returns
returns c =
    let start = c.into_iter-dir-iterator.ensures.into_iter_gives ∙ c.keys-dir-items.ensures ∙ ap map.keys c.self.view_is in
    let whole = (iter_end deref _ c.loop-dir.yielded _ _ _ _ start c.loop-dir.yielded_by c.in-None.is c.next.ensures.steps).0 in
    copied_keys nat_cmp_total map.nat_cmp-IsAntisymmetric c.args.self.now c.loop-dir.made _ whole c.loop-dir.invariant
