use Rattle.std.proofs.Common.{subst}
use Rattle.capspec.specs.SharedPrefix.{AreAlike}
use Rattle.capspec.proofs.kept.KeptGrants.new.Goals as goal

pub invariant_of-result : goal.invariant_of-result
invariant_of-result c = subst (λ grants. AreAlike grants c.like_each_other-alike.result.items) c.as_slice.ensures.same c.like_each_other-alike.ensures
