use Rattle.std.proofs.Common.{◌++◌, sym, ap, ◌∙◌}
use Rattle.std.proofs.Common.{map as each}
use Rattle.std.specs.FinMap as map
use Rattle.std.specs.Map.Iter.{deref_pair}
use Rattle.std.proofs.lemmas.Map.Iter.{iter_end, rest_more, rest_so_far}
use Rattle.inotree.proofs.Order.{name_same, name_total}
use Rattle.capbits.proofs.Copies.{copied_end, copied_none, copied_turn}
use Rattle.inotree.proofs.attributes.Attributes.copy.Goals as goal

pub loop-name-init : goal.loop-name-init
loop-name-init c = λ q. ap (λ m. map.get m q) c.new-made.ensures ∙ copied_none name_total name_same c.args.self.now q

pub loop-name-preserved : goal.loop-name-preserved
loop-name-preserved c =
    let start = c.into_iter-name-iterator.ensures.into_iter_gives ∙ c.iter-name-items.ensures in
    let split = sym start ∙ rest_so_far deref_pair c.loop-name.yielded _ _ c.loop-name.yielded_by ∙ ap (λ rest. each deref_pair c.loop-name.yielded ++ rest) (rest_more deref_pair _ _ _ _ c.in-Some.is c.next.ensures.steps) in
    copied_turn name_total name_same deref_pair c.args.self.now c.loop-name.made c.insert.new.self c.loop-name.yielded (c.in-Some.name, c.in-Some.value) c.next.new.self split
    (c.in_ok-insert.ensures.ok ∙ ap (λ k. map.insert c.loop-name.made k c.in_ok-value.value) c.copy.ensures ∙ ap (map.insert c.loop-name.made c.in-Some.name.now) c.in_ok-value.ensures) c.loop-name.invariant

pub returns : goal.returns
returns c =
    let start = c.into_iter-name-iterator.ensures.into_iter_gives ∙ c.iter-name-items.ensures in
    let whole = (iter_end deref_pair _ c.loop-name.yielded _ _ _ _ start c.loop-name.yielded_by c.in-None.is c.next.ensures.steps).0 in
    copied_end name_total name_same c.args.self.now c.loop-name.made (each deref_pair c.loop-name.yielded) whole c.loop-name.invariant
