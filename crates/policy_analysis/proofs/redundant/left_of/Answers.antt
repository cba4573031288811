use Rattle.std.proofs.Common.{rules, ◌∷◌}
use Rattle.policy_analysis.proofs.Omitting.{grant_goes, grant_stays}
use Rattle.policy_analysis.proofs.redundant.left_of.Goals as goal
use Rattle.policy_analysis.proofs.redundant.left_of.Goals.{else-not-is_among, then-not-is_among+in_ok-copy+in_ok-push}

pub loop-place-preserved : goal.loop-place-preserved
loop-place-preserved c = elim c.if-not-is_among.branch [
  | then-not-is_among+in_ok-copy+in_ok-push w ↦
      (let both = grant_stays (c.args.number ∷ c.args.numbers.now) c.args.grants.now c.loop-place.rest.items c.if-not-is_among.rest.items c.loop-place.place c.index-grants-place.result c.is_among.result c.loop-place.invariant.same c.loop-place.invariant.few c.loop-place-test.true c.index-grants-place.is c.is_among.ensures w.if-not-is_among.true (search rules) in
      record { same = both.0; few = both.1 })
  | else-not-is_among w ↦
      (let both = grant_goes (c.args.number ∷ c.args.numbers.now) c.args.grants.now c.loop-place.rest.items c.if-not-is_among.rest.items c.loop-place.place c.index-grants-place.result c.is_among.result c.loop-place.invariant.same c.loop-place.invariant.few c.loop-place-test.true c.is_among.ensures w.if-not-is_among.false (search rules) in
      record { same = both.0; few = both.1 })
]
