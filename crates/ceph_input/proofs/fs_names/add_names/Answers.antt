use Rattle.std.proofs.Common.{ap, ◌∙◌}
use Rattle.ceph_input.specs.FsNames.{named_by, with_names}
use Rattle.ceph_input.proofs.FsNames.{no_more_names, no_name, one_name}
use Rattle.ceph_input.proofs.fs_names.add_names.Goals as goal
use Rattle.ceph_input.proofs.fs_names.add_names.Goals.{in-Some+in_ok-add_name, in_default}

pub loop-grant-preserved : goal.loop-grant-preserved
loop-grant-preserved c =
    let gs = c.args.grants.now in
    let i = c.loop-grant.grant-index in
    let g = c.grant-item.result in
    let before = c.loop-grant.names.items in
    let whole = with_names c.args.names.now.items (named_by gs) in
    elim c.match-grant.branch [
      | in-Some+in_ok-add_name w ↦ one_name gs i g c.loop-grant-test.true c.grant-item.is whole before _ w.in-Some.name w.in-Some.is (ap (λ v. v.items) w.names-is ∙ w.in_ok-add_name.ensures) c.loop-grant.invariant
      | in_default w ↦ no_name gs i g c.loop-grant-test.true c.grant-item.is whole before _ w.in_default.is (ap (λ v. v.items) w.names-is) c.loop-grant.invariant
    ]

pub returns : goal.returns
returns c = no_more_names c.args.grants.now c.loop-grant.grant-index c.loop-grant.names.items (with_names c.args.names.now.items (named_by c.args.grants.now)) c.loop-grant-test.false c.loop-grant.invariant
