use Rattle.std.proofs.Common.{◌≡◌, ◌+◌, drop}
use Rattle.queries.specs.AnyPath.{somewhere}
use Rattle.queries.proofs.question.Question.somewhere.Given as goal

abbrev pub invariant-loop-place : goal.invariant-loop-place
invariant-loop-place l = somewhere l.self (l.place + 1) (drop l.place l.grants) ≡ somewhere l.self 1 l.grants
