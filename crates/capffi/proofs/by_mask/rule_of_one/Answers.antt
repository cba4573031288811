use Rattle.std.proofs.Common.{List, ℕ}
use Rattle.capffi.proofs.by_mask.rule_of_one.Goals as goal

pub returns : goal.returns
returns c = λ (groups : List ℕ). rw (c.case_of-case.ensures, c.split_front.ensures.front, c.split_front.ensures.behind) at (c.in_ok-rule.ensures groups)
