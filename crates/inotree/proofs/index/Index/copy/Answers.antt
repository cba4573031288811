use Rattle.std.proofs.Common.{◌++◌, sym, ap, ◌∙◌}
use Rattle.std.proofs.Common.{map as each}
use Rattle.std.specs.FinMap as map
use Rattle.std.specs.Map.Iter.{deref_pair}
use Rattle.std.proofs.lemmas.Map.Iter.{iter_end, rest_more, rest_so_far}
use Rattle.inotree.proofs.Slots.{slot_same, slot_total}
use Rattle.capbits.proofs.Copies.{copied_end, copied_none, copied_turn}
use Rattle.inotree.proofs.index.Index.copy.Goals as goal

pub loop-slot-init : goal.loop-slot-init
loop-slot-init c = λ q. ap (λ m. map.get m q) c.new-made.ensures ∙ copied_none slot_total slot_same c.args.self.now q

pub loop-slot-preserved : goal.loop-slot-preserved
loop-slot-preserved c =
    let start = c.into_iter-slot-iterator.ensures.into_iter_gives ∙ c.iter-slot-items.ensures in
    let split = sym start ∙ rest_so_far deref_pair c.loop-slot.yielded _ _ c.loop-slot.yielded_by ∙ ap (λ rest. each deref_pair c.loop-slot.yielded ++ rest) (rest_more deref_pair _ _ _ _ c.in-Some.is c.next.ensures.steps) in
    copied_turn slot_total slot_same deref_pair c.args.self.now c.loop-slot.made c.insert.new.self c.loop-slot.yielded (c.in-Some.slot, c.in-Some.ino) c.next.new.self split
    (c.in_ok-insert.ensures.ok ∙ ap (λ k. map.insert c.loop-slot.made k c.in-Some.ino.now) c.copy.ensures) c.loop-slot.invariant

pub returns : goal.returns
returns c =
    let start = c.into_iter-slot-iterator.ensures.into_iter_gives ∙ c.iter-slot-items.ensures in
    let whole = (iter_end deref_pair _ c.loop-slot.yielded _ _ _ _ start c.loop-slot.yielded_by c.in-None.is c.next.ensures.steps).0 in
    copied_end slot_total slot_same c.args.self.now c.loop-slot.made (each deref_pair c.loop-slot.yielded) whole c.loop-slot.invariant
