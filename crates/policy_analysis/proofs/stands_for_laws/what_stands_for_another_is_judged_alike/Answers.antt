use Rattle.capgrant.specs.declared.access.Access.TheVariants.{Write}
use Rattle.policy_analysis.specs.StandsFor.AsksAlike.{to_write}
use Rattle.policy_analysis.proofs.StandsFor.{chgrp_alike, chown_alike, judged_alike, small_caller, vxattr_alike}
use Rattle.policy_analysis.proofs.stands_for_laws.what_stands_for_another_is_judged_alike.Goals as goal

pub returns-clause-alike : goal.returns-clause-alike
returns-clause-alike c = λ s g own fs caller path attr access stands counts names asks. judged_alike s g own fs caller path attr stands (small_caller s g caller counts.uid) counts.groups names access asks

pub returns-clause-mode : goal.returns-clause-mode
returns-clause-mode c = λ s g own fs caller path attr stands counts names. judged_alike s g own fs caller path attr stands (small_caller s g caller counts.uid) counts.groups names Write to_write

pub returns-clause-owner : goal.returns-clause-owner
returns-clause-owner c = λ s g own fs caller path attr uid stands counts names. chown_alike s g own fs caller path attr stands (small_caller s g caller counts.uid) counts.groups names uid

pub returns-clause-group : goal.returns-clause-group
returns-clause-group c = λ s g own fs caller path attr gid stands counts names. chgrp_alike s g own fs caller path attr stands (small_caller s g caller counts.uid) counts.groups names gid

pub returns-clause-vxattr : goal.returns-clause-vxattr
returns-clause-vxattr c = λ s g own fs caller path attr stands counts names attributes. vxattr_alike s g own fs caller path attr stands (small_caller s g caller counts.uid) counts.groups names attributes
