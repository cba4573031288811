use Rattle.std.proofs.lemmas.Result.{err_from_is_err_and}
use Rattle.std.proofs.Common.{sym}
use Rattle.ceph_input.proofs.Listed.{auth_listed}
use Rattle.ceph_input.proofs.reading.read_auth.Goals as goal

pub returns-in_err-read_entities-clause-err : goal.returns-in_err-read_entities-clause-err
returns-in_err-read_entities-clause-err c =
    let listed = auth_listed c.args.text.now _ _ c.in-Ok.ensures.ok (sym c.in-Some.ensures) in
    let p = err_from_is_err_and c.from_residual.result c.from_residual.ensures.1 in
    rw (p.1, p.2, listed) (rw c.as_slice.ensures.value at c.in_err-read_entities.ensures.err)
