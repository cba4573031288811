use Rattle.std.proofs.Common.{◌≡◌, ◌-◌, true, false, get_or, ◌∙◌, arith}
use Rattle.std.proofs.lemmas.Bool.Decides.{nat_tests}
use Rattle.release_grants.specs.Paths.{is_slash}
use Rattle.release_grants.proofs.Slashes.{none_less, nothing_less, one_less}
use Rattle.release_grants.proofs.paths.without_last_slashes.Goals as goal
use Rattle.release_grants.proofs.paths.without_last_slashes.Goals.{else-loop-end-test, then-loop-end-test+else-text-end-eq47}

pub loop-end-preserved : goal.loop-end-preserved
loop-end-preserved c =
    let slash : is_slash (get_or c.args.text.now (c.loop-end.end - 1) 0) ≡ true = grind (arith, nat_tests) in
    record { within = omega arith; same = one_less c.args.text.now c.loop-end.end (omega arith) c.loop-end.invariant.within slash ∙ c.loop-end.invariant.same }

pub returns : goal.returns
returns c = elim c.loop-end-test.branch [
  | then-loop-end-test+else-text-end-eq47 w ↦
      let other : is_slash (get_or c.args.text.now (c.loop-end.end - 1) 0) ≡ false = grind (arith, nat_tests) in
      none_less c.args.text.now c.loop-end.end (omega arith) c.loop-end.invariant.within other ∙ c.loop-end.invariant.same
  | else-loop-end-test w ↦ nothing_less c.args.text.now c.loop-end.end (omega arith) ∙ c.loop-end.invariant.same
]
