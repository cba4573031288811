use Rattle.std.proofs.Common.{[], sym}
use Rattle.std.proofs.lemmas.Result.{err_from_is_err_and}
use Rattle.ceph_input.specs.Sessions.{sessions_from}
use Rattle.ceph_input.proofs.KnownParts.{is_listed}
use Rattle.ceph_input.proofs.session.read_sessions.Goals as goal

pub returns-in_err-sessions-clause-err : goal.returns-in_err-sessions-clause-err
returns-in_err-sessions-clause-err c =
    let listed = is_listed (sessions_from []) _ _ _ c.in-Ok.ensures.ok (sym c.in-Some.ensures) in
    let p = err_from_is_err_and c.from_residual.result c.from_residual.ensures.1 in
    rw (p.1, p.2, listed) (rw c.as_slice.ensures.value at c.in_err-sessions.ensures.err)
