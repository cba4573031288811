use Rattle.capffi.proofs.by_mask.fast_of_any.Goals as goal

pub returns : goal.returns
returns c = rw (c.case_of-case.ensures, c.split_front.ensures.front, c.split_front.ensures.behind) at c.fast_verdict.ensures
