use Rattle.std.proofs.Common.{List, ap, ◌∙◌}
use Rattle.std.proofs.lemmas.Result.{on_ok_weaker}
use Rattle.capspec.specs.declared.grant.Grant.{Grant}
use Rattle.ceph_input.specs.FsNames.{named_by, with_names}
use Rattle.ceph_input.proofs.fs_names.add_entity.Goals as goal

pub returns : goal.returns
returns c =
    let grants = c.in_ok-grants.grants in
    on_ok_weaker c.add_names.result
    (λ added. (
      grants,
      c.in_ok-grants.ensures,
      added ∙ ap (λ (gs : List Grant). with_names c.args.names.now.items (named_by gs)) c.as_slice.ensures.same,
    ))
    c.add_names.ensures
