use Rattle.std.proofs.Common.{◌≡◌, ◌≤◌, length, take}
use Rattle.capgrant.specs.Verdict.{first_failures}
use Rattle.capgrant.proofs.question.Question.first_failures.Given as goal

abbrev pub invariant-loop-grant : goal.invariant-loop-grant
invariant-loop-grant l = (l.rules.items ≡ first_failures l.self (take l.grant-index l.grants)) × (length l.rules.items ≤ l.grant-index)
