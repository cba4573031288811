use Rattle.std.proofs.Common.{◌≡◌, drop}
use Rattle.release_rules.specs.Question.{is_in_groups}
use Rattle.release_rules.proofs.question.is_in_groups.Given as goal

abbrev pub invariant-loop-other : goal.invariant-loop-other
invariant-loop-other l = is_in_groups l.number (drop l.other-index l.numbers) ≡ is_in_groups l.number l.numbers
