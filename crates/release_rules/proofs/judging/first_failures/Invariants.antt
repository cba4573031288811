use Rattle.std.proofs.Common.{◌≡◌, take}
use Rattle.release_rules.specs.Verdicts.{first_failures}
use Rattle.release_rules.proofs.judging.first_failures.Given as goal

abbrev pub invariant-loop-grant : goal.invariant-loop-grant
invariant-loop-grant l = l.rules ≡ first_failures l.switches l.question (take l.grant-index l.grants)
