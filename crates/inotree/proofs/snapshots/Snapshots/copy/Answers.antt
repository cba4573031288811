use Rattle.std.proofs.Common.{map as each}
use Rattle.std.proofs.Common.{ap, ◌∙◌}
use Rattle.std.specs.FinSet as set
use Rattle.std.specs.List.{list_any}
use Rattle.std.specs.Ordering.{eq_by_cmp}
use Rattle.std.specs.Map.Iter.{deref}
use Rattle.std.proofs.lemmas.Map.Iter.{iter_end}
use Rattle.inotree.specs.Names.{name_cmp}
use Rattle.inotree.proofs.Order.{name_same, name_total}
use Rattle.capbits.proofs.Copies.{copied_set_all, copied_set_none, copied_set_turn}
use Rattle.inotree.proofs.snapshots.Snapshots.copy.Goals as goal

pub loop-name-init : goal.loop-name-init
loop-name-init c = λ q. ap (λ s. set.contains s q) c.new-made.ensures ∙ copied_set_none name_total name_same q

pub loop-name-preserved : goal.loop-name-preserved
loop-name-preserved c =
    copied_set_turn name_total name_same deref c.loop-name.made c.insert.new.self c.loop-name.yielded c.in-Some.name
    (c.in_ok-insert.ensures.ok ∙ ap (set.insert c.loop-name.made) c.copy.ensures) c.loop-name.invariant

pub returns : goal.returns
returns c =
    let whole = (iter_end deref _ c.loop-name.yielded _ _ _ _ (c.into_iter-name-iterator.ensures.into_iter_gives) c.loop-name.yielded_by c.in-None.is c.next.ensures.steps).0 in
    copied_set_all name_total name_same c.args.self.now c.loop-name.made (each deref c.loop-name.yielded)
    (λ q. ap (list_any (eq_by_cmp name_cmp q)) whole ∙ c.iter-name-items.ensures.names q) c.loop-name.invariant
