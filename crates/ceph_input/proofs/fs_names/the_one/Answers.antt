use Rattle.std.proofs.Common.{arith, sym, ◌∙◌}
use Rattle.std.proofs.lemmas.List.Elements.{same_from_all_zip}
use Rattle.ceph_input.proofs.FsNames.{any_name, only_name, several_names}
use Rattle.ceph_input.proofs.fs_names.the_one.Goals as goal

pub returns-in-empty : goal.returns-in-empty
returns-in-empty c = any_name c.args.names.now c.read.result c.in-empty.len_below c.read.ensures.valid c.read.ensures.value

pub returns-in_ok-clone-in-len1 : goal.returns-in_ok-clone-in-len1
returns-in_ok-clone-in-len1 c =
    let copied = c.in_ok-clone-in-len1.ensures.cases in
    only_name c.args.names.now c.name-item.result c.in_ok-clone-in-len1.field-0 (omega arith) c.name-item.is (sym copied.3 ∙ same_from_all_zip _ _ _ copied.4 (λ x y same. same) ∙ copied.2)

pub returns-in_default : goal.returns-in_default
returns-in_default c = several_names c.args.names.now (omega arith)
