use Rattle.std.proofs.Common.{true, false, inr, List, subst, rules}
use Rattle.release_grants.specs.declared.grant.Grant.{Grant}
use Rattle.policy_analysis.specs.ComparingBy.{terms_of}
use Rattle.policy_analysis.specs.StandIns.{IsNotCompared, IsWhyNot}
use Rattle.policy_analysis.proofs.StoodIn.{handed_on}
use Rattle.policy_analysis.proofs.compare_by.MdsGrants.of.Goals as goal

pub returns-in_err-sure-clause-err : goal.returns-in_err-sure-clause-err
returns-in_err-sure-clause-err c =
    let t = terms_of c.args.terms in
    let why = c.in_err-sure.ensures.err in
    handed_on (IsNotCompared t c.args.grants) _ _ c.from_residual.ensures.1 (inr (why.0, false, subst (λ (grants : List Grant). IsWhyNot why.0 t false grants c.in_err-sure.field-0.0) (search rules) why.1))

pub returns-in_err-maybe-clause-err : goal.returns-in_err-maybe-clause-err
returns-in_err-maybe-clause-err c =
    let t = terms_of c.args.terms in
    let why = c.in_err-maybe.ensures.err in
    handed_on (IsNotCompared t c.args.grants) _ _ c.from_residual-in_err-maybe.ensures.1 (inr (why.0, true, subst (λ (grants : List Grant). IsWhyNot why.0 t true grants c.in_err-maybe.field-0.0) (search rules) why.1))
