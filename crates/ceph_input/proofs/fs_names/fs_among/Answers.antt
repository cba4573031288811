use Rattle.std.proofs.Common.{Some, ap, sym, ◌∙◌}
use Rattle.std.proofs.lemmas.List.Elements.{same_from_all_zip}
use Rattle.ceph_input.proofs.fs_names.fs_among.Goals as goal

pub returns-in_ok-clone-in-Some : goal.returns-in_ok-clone-in-Some
returns-in_ok-clone-in-Some c =
    let copied = c.in_ok-clone-in-Some.ensures.cases in
    rw c.in-Some.is (ap Some (sym copied.3 ∙ same_from_all_zip _ _ _ copied.4 (λ x y same. same) ∙ copied.2))

pub returns-in-None : goal.returns-in-None
returns-in-None c = rw c.in-None.is c.the_one.ensures
