use Rattle.std.proofs.Common.{sym, ap, ◌∙◌}
use Rattle.std.specs.Cmp.{nat_cmp_total}
use Rattle.std.specs.FinMap as map
use Rattle.std.specs.Map.Iter.{deref}
use Rattle.std.proofs.lemmas.Map.Iter.{iter_end}
use Rattle.capbits.proofs.Copies.{copied_keys, copied_none, copied_put, copied_skip}
use Rattle.sessiontab.proofs.connected.Connected.copy.Goals as goal

pub loop-client-init : goal.loop-client-init
loop-client-init c = λ q. ap (λ m. map.get m q) c.new-made.ensures ∙ copied_none nat_cmp_total map.nat_cmp-IsAntisymmetric c.args.self.now q

pub loop-client-preserved-in_ok-insert : goal.loop-client-preserved-in_ok-insert
loop-client-preserved-in_ok-insert c =
    let there = ap (λ m. map.get m c.in-Some.client.now) (sym c.self.view_is) ∙ sym c.in-Some-get.ensures in
    copied_put nat_cmp_total map.nat_cmp-IsAntisymmetric deref c.args.self.now c.loop-client.made c.insert.new.self c.loop-client.yielded c.in-Some.client c.in-Some-get.session.now there
    (c.in_ok-insert.ensures.ok ∙ ap (map.insert c.loop-client.made c.in-Some.client.now) c.in_ok-copy.ensures) c.loop-client.invariant

pub loop-client-preserved : goal.loop-client-preserved
loop-client-preserved c =
    let none = ap (λ m. map.get m c.in-Some.client.now) (sym c.self.view_is) ∙ sym c.in_default.ensures in
    copied_skip nat_cmp_total map.nat_cmp-IsAntisymmetric deref c.args.self.now c.loop-client.made c.loop-client.yielded c.in-Some.client none c.loop-client.invariant

pub returns : goal.returns
returns c =
    let start = c.into_iter-client-iterator.ensures.into_iter_gives ∙ c.keys-client-items.ensures ∙ ap map.keys c.self.view_is in
    let whole = (iter_end deref _ c.loop-client.yielded _ _ _ _ start c.loop-client.yielded_by c.in-None.is c.next.ensures.steps).0 in
    copied_keys nat_cmp_total map.nat_cmp-IsAntisymmetric c.args.self.now c.loop-client.made _ whole c.loop-client.invariant
