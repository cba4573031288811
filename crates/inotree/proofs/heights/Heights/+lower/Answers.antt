use Rattle.std.proofs.Common.{◌≡◌, ◌<◌, ◌-◌, ◌++◌, true, map, sym, ap, subst, ◌∙◌}
use Rattle.std.specs.Map.Iter.{deref_pair}
use Rattle.std.proofs.lemmas.Map.Iter.{iter_end, rest_more, rest_so_far}
use Rattle.inotree.specs.Inodes.{InodeMap}
use Rattle.inotree.specs.Heights.{height}
use Rattle.inotree.specs.Index.{index_descends}
use Rattle.inotree.proofs.Lowering.{all_known, lowered, none_descends, none_higher, none_left, set_few, still_lower, turn_few}
use Rattle.inotree.proofs.Descending.{descends-zero}
use Rattle.inotree.proofs.heights.Heights.+lower.Goals as goal

pub loop-child-preserved : goal.loop-child-preserved
loop-child-preserved t c =
    let m : InodeMap = c.args.inodes.now in (
      c.lower.ensures.rise,
      still_lower m c.args.self.now c.loop-child.self c.lower.new.self c.loop-child.invariant.1 c.lower.ensures.lower,
      none_higher (λ p. height m c.loop-child.self p.1.now) (λ p. height m c.lower.new.self p.1.now) c.loop-child.most c.of-below.result c.max-most.result c.loop-child.yielded (c.in-Some.field-0-0, c.in-Some.child) c.max-most.ensures c.of-below.ensures
          (λ p. c.lower.ensures.lower p.1.now) c.loop-child.invariant.2,
      λ known none.
          let start = c.into_iter-child-iterator.ensures.into_iter_gives ∙ c.names_in-child-items.ensures in
          let parts = sym start ∙ rest_so_far deref_pair c.loop-child.yielded _ _ c.loop-child.yielded_by ∙ ap (λ rest. map deref_pair c.loop-child.yielded ++ rest) (rest_more deref_pair _ _ _ _ c.in-Some.is c.next.ensures.steps) in
          let low = c.lower.ensures.lowered (all_known m c.args.self.now c.loop-child.self c.loop-child.invariant.1 known) (none_descends c.args.steps c.args.names.now c.args.dir _ _ _ c.if-steps-eq0.false parts none) in
          turn_few c.loop-child.most c.of-below.result c.max-most.result c.args.steps c.max-most.ensures (c.loop-child.invariant.3 known none) (subst (λ n. n < c.args.steps - 1) (sym c.of-below.ensures) low),
    )

pub returns-then-steps-eq0-clause-lowered : goal.returns-then-steps-eq0-clause-lowered
returns-then-steps-eq0-clause-lowered t c = λ known none.
    let descended : index_descends c.args.steps c.args.names.now c.args.dir ≡ true = descends-zero _ _ _ c.if-steps-eq0.true in absurd (cc)

pub returns-clause-rise : goal.returns-clause-rise
returns-clause-rise t c =
    let m : InodeMap = c.args.inodes.now in
    let start = c.into_iter-child-iterator.ensures.into_iter_gives ∙ c.names_in-child-items.ensures in
    let whole = (iter_end deref_pair _ c.loop-child.yielded _ _ _ _ start c.loop-child.yielded_by c.in-None.is c.next.ensures.steps).0 in
    let low = none_left (height m c.loop-child.self) c.loop-child.most c.loop-child.yielded _ whole c.loop-child.invariant.2 in
    let less = subst (λ n. c.loop-child.most < n) c.of-2.ensures c.if-most-of.false in
    (lowered m c.args.names.now c.loop-child.self c.args.dir c.loop-child.most c.requires.indexed c.loop-child.invariant.0 low less c.set.new.self c.set.ensures).0

pub returns-clause-lower : goal.returns-clause-lower
returns-clause-lower t c =
    let m : InodeMap = c.args.inodes.now in
    let start = c.into_iter-child-iterator.ensures.into_iter_gives ∙ c.names_in-child-items.ensures in
    let whole = (iter_end deref_pair _ c.loop-child.yielded _ _ _ _ start c.loop-child.yielded_by c.in-None.is c.next.ensures.steps).0 in
    let low = none_left (height m c.loop-child.self) c.loop-child.most c.loop-child.yielded _ whole c.loop-child.invariant.2 in
    let less = subst (λ n. c.loop-child.most < n) c.of-2.ensures c.if-most-of.false in
    still_lower m c.args.self.now c.loop-child.self c.set.new.self c.loop-child.invariant.1 (lowered m c.args.names.now c.loop-child.self c.args.dir c.loop-child.most c.requires.indexed c.loop-child.invariant.0 low less c.set.new.self c.set.ensures).1

pub returns-clause-lowered : goal.returns-clause-lowered
returns-clause-lowered t c = λ known none.
    let m : InodeMap = c.args.inodes.now in
    let less = subst (λ n. c.loop-child.most < n) c.of-2.ensures c.if-most-of.false in
    set_few m c.loop-child.self c.args.dir c.loop-child.most c.args.steps (all_known m c.args.self.now c.loop-child.self c.loop-child.invariant.1 known) less (c.loop-child.invariant.3 known none) c.set.new.self c.set.ensures
