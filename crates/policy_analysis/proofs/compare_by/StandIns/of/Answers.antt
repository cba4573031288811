use Rattle.std.proofs.Common.{Bool, true, false}
use Rattle.policy_analysis.specs.ComparingBy.{terms_of}
use Rattle.policy_analysis.specs.StandIns.{IsWhyNot}
use Rattle.policy_analysis.proofs.StoodIn.{handed_on}
use Rattle.policy_analysis.proofs.compare_by.StandIns.of.Goals as goal

pub returns-in_err-stand_ins-clause-err : goal.returns-in_err-stand_ins-clause-err
returns-in_err-stand_ins-clause-err c =
    handed_on (λ why. (vxattr : Bool) × IsWhyNot vxattr (terms_of c.args.terms) c.args.maybe c.args.grants.now why) _ _ c.from_residual.ensures.1 (true, c.in_err-stand_ins.ensures.err)

pub returns-in_err-stand_ins-2-clause-err : goal.returns-in_err-stand_ins-2-clause-err
returns-in_err-stand_ins-2-clause-err c =
    handed_on (λ why. (vxattr : Bool) × IsWhyNot vxattr (terms_of c.args.terms) c.args.maybe c.args.grants.now why) _ _ c.from_residual-in_err-stand_ins-2.ensures.1 (false, c.in_err-stand_ins-2.ensures.err)
