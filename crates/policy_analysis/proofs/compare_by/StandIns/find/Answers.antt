use Rattle.std.proofs.Common.{◌∙◌}
use Rattle.policy_analysis.proofs.SaidMore.{all_by_owners, none_of_others, one_of_others}
use Rattle.policy_analysis.proofs.compare_by.StandIns.find.Goals as goal

pub returns-in-Some-clause-exact : goal.returns-in-Some-clause-exact
returns-in-Some-clause-exact c =
    let s = c.in_ok-search.search in
    one_of_others c.args.old.now.vxattr.items c.args.old.now.others.items c.args.self.now.vxattr.items c.args.self.now.others.items c.args.root s.accesses s.old.now s.new.now
    c.in_ok-search.ensures.0 (c.in_ok-search.ensures.1 ∙ c.as_slice-before.ensures.value) (c.in_ok-search.ensures.2 ∙ c.as_slice-after.ensures.value)
    c.in_ok-witness.field-0 c.in_ok-witness.ensures.exact c.in-Some.witness c.in-Some.is c.in_ok-witness.ensures.wanted

pub returns-clause-exact : goal.returns-clause-exact
returns-clause-exact c =
    let s = c.in_ok-search.search in
    let v = c.in_ok-search-2.search in
    all_by_owners c.args.old.now.vxattr.items c.args.old.now.others.items c.args.self.now.vxattr.items c.args.self.now.others.items c.args.root
    (none_of_others c.args.old.now.vxattr.items c.args.old.now.others.items c.args.self.now.vxattr.items c.args.self.now.others.items c.args.root s.accesses s.old.now s.new.now
    c.in_ok-search.ensures.0 (c.in_ok-search.ensures.1 ∙ c.as_slice-before.ensures.value) (c.in_ok-search.ensures.2 ∙ c.as_slice-after.ensures.value)
    c.in_ok-witness.field-0 c.in_ok-witness.ensures.exact c.in_default.is)
    v.old.now v.new.now (c.in_ok-search-2.ensures.0 ∙ c.as_slice-before-2.ensures.value) (c.in_ok-search-2.ensures.1 ∙ c.as_slice-after-2.ensures.value)
    c.find-2.result c.find-2.ensures.exact
