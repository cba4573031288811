use Rattle.std.specs.Prelude.{false, true}
use Rattle.policy_analysis.specs.ComparingBy.{terms_of}
use Rattle.policy_analysis.proofs.Changes.{as_much_by, more_by, stands_as}
use Rattle.policy_analysis.proofs.compare_by.Terms.find.Goals as goal

pub change-requires : goal.change-requires
change-requires c =
    let t = terms_of c.args.self in
    let old = c.old.inside in
    let new = c.new.inside in
    more_by t false c.args.old.now.grants c.args.new.now.grants old.sure.vxattr.items old.sure.others.items new.sure.vxattr.items new.sure.others.items
    (stands_as t (terms_of old.terms) false c.args.old.now old.grants old.sure.vxattr.items old.sure.others.items c.old.view_is c.requires.terms.0 c.old.invariant.1)
    (stands_as t (terms_of new.terms) false c.args.new.now new.grants new.sure.vxattr.items new.sure.others.items c.new.view_is c.requires.terms.1 c.new.invariant.1)
    c.in-Some.witness (rw c.in-Some.is at c.in_ok-witness.ensures.exact)

pub change-requires-in-Some-2 : goal.change-requires-in-Some-2
change-requires-in-Some-2 c =
    let t = terms_of c.args.self in
    let old = c.old.inside in
    let new = c.new.inside in
    more_by t true c.args.old.now.grants c.args.new.now.grants old.maybe.vxattr.items old.maybe.others.items new.maybe.vxattr.items new.maybe.others.items
    (stands_as t (terms_of old.terms) true c.args.old.now old.grants old.maybe.vxattr.items old.maybe.others.items c.old.view_is c.requires.terms.0 c.old.invariant.2)
    (stands_as t (terms_of new.terms) true c.args.new.now new.grants new.maybe.vxattr.items new.maybe.others.items c.new.view_is c.requires.terms.1 c.new.invariant.2)
    c.in-Some-2.witness (rw c.in-Some-2.is at c.in_ok-witness-2.ensures.exact)

pub returns-clause-exact : goal.returns-clause-exact
returns-clause-exact c =
    let t = terms_of c.args.self in
    let old = c.old.inside in
    let new = c.new.inside in
    as_much_by t c.args.old.now.grants c.args.new.now.grants
    old.sure.vxattr.items old.sure.others.items new.sure.vxattr.items new.sure.others.items old.maybe.vxattr.items old.maybe.others.items new.maybe.vxattr.items new.maybe.others.items c.args.root
    (stands_as t (terms_of old.terms) false c.args.old.now old.grants old.sure.vxattr.items old.sure.others.items c.old.view_is c.requires.terms.0 c.old.invariant.1)
    (stands_as t (terms_of new.terms) false c.args.new.now new.grants new.sure.vxattr.items new.sure.others.items c.new.view_is c.requires.terms.1 c.new.invariant.1)
    (stands_as t (terms_of old.terms) true c.args.old.now old.grants old.maybe.vxattr.items old.maybe.others.items c.old.view_is c.requires.terms.0 c.old.invariant.2)
    (stands_as t (terms_of new.terms) true c.args.new.now new.grants new.maybe.vxattr.items new.maybe.others.items c.new.view_is c.requires.terms.1 c.new.invariant.2)
    (rw c.in_default.is at c.in_ok-witness.ensures.exact) (rw c.in_default-2.is at c.in_ok-witness-2.ensures.exact)
