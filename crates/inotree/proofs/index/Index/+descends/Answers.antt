use Rattle.std.proofs.Common.{ℕ, ◌-◌, ◌++◌, Bool, map, sym, ap, ◌∙◌}
use Rattle.std.specs.List.{list_any}
use Rattle.std.specs.Map.Iter.{deref_pair}
use Rattle.std.proofs.lemmas.Map.Iter.{iter_end, rest_more, rest_so_far}
use Rattle.inotree.specs.declared.index.Slot.{Slot}
use Rattle.inotree.specs.Index.{index_descends}
use Rattle.capbits.proofs.Found.{any-map}
use Rattle.inotree.proofs.Descending.{any_found, descends-step, descends-zero}
use Rattle.inotree.proofs.index.Index.+descends.Goals as goal

pub returns-then-steps-eq0 : goal.returns-then-steps-eq0
returns-then-steps-eq0 t c = sym (descends-zero _ _ _ c.if-steps-eq0.true)

pub returns-then-descends : goal.returns-then-descends
returns-then-descends t c =
    let start = c.into_iter-child-iterator.ensures.into_iter_gives ∙ c.names_in-child-items.ensures in
    let parts = sym start ∙ rest_so_far deref_pair c.loop-child.yielded _ _ c.loop-child.yielded_by ∙ ap (λ rest. map deref_pair c.loop-child.yielded ++ rest) (rest_more deref_pair _ _ _ _ c.in-Some.is c.next.ensures.steps) in
    let below : Slot × ℕ → Bool = λ e. index_descends (c.args.steps - 1) c.args.self.now e.1 in
    sym (descends-step _ _ _ c.if-steps-eq0.false ∙ ap (list_any below) parts ∙ any_found below _ _ _ (sym c.if-descends.ensures))

pub returns : goal.returns
returns t c =
    let start = c.into_iter-child-iterator.ensures.into_iter_gives ∙ c.names_in-child-items.ensures in
    let whole = (iter_end deref_pair _ c.loop-child.yielded _ _ _ _ start c.loop-child.yielded_by c.in-None.is c.next.ensures.steps).0 in
    let below : Slot × ℕ → Bool = λ e. index_descends (c.args.steps - 1) c.args.self.now e.1 in
    sym (descends-step _ _ _ c.if-steps-eq0.false ∙ ap (list_any below) (sym whole) ∙ any-map below deref_pair c.loop-child.yielded ∙ c.loop-child.invariant)
