use Rattle.std.proofs.Common.{List, subst, sym, ◌∙◌}
use Rattle.capspec.specs.declared.grant.Grant.{Grant}
use Rattle.policy_analysis.specs.Comparing.{Covers}
use Rattle.policy_analysis.proofs.Omitting.{not_covered}
use Rattle.policy_analysis.proofs.redundant.is_covered.Goals as goal

pub returns-clause-no : goal.returns-clause-no
returns-clause-no c = λ no covers.
    not_covered c.as_slice.result.now c.args.grants.now c.in_ok-found.found c.is_none.result c.in_ok-found.ensures.exact c.is_none.ensures no
    (subst (λ (rest : List Grant). Covers rest c.args.grants.now) (sym (c.as_slice.ensures.value ∙ c.in_ok-rest.ensures.same)) covers)
