use Rattle.std.proofs.Common.{◌≡◌, List, [], subst, sym}
use Rattle.std.proofs.lemmas.Result.{IfOk-weaker}
use Rattle.capspec.specs.declared.grant.Grant.{Grant}
use Rattle.ceph_input.specs.FsNames.{AreGrantsIn}
use Rattle.ceph_input.proofs.FsNames.{means_none, means_them}
use Rattle.ceph_input.proofs.fs_names.grants_of.Goals as goal

pub returns-in-Ok : goal.returns-in-Ok
returns-in-Ok c = means_them c.args.entity.now.caps c.in-Some.text.now c.in-Ok.grants c.in-Some.ensures c.in-Ok.ensures.ok

pub returns-in_default-kind : goal.returns-in_default-kind
returns-in_default-kind c =
    let caps = c.args.entity.now.caps in
    IfOk-weaker c.none-in_default-kind.result (λ grants. grants ≡ []) (AreGrantsIn caps)
    (λ grants is. subst (λ (gs : List Grant). AreGrantsIn caps gs) (sym is) (means_none caps c.in-Some.text.now c.in-Err.refused c.in-Some.ensures c.in-Err.ensures.fault c.in_default-kind.not-NoMemory)) c.none-in_default-kind.ensures
