use Rattle.std.proofs.Common.{inr}
use Rattle.queries.proofs.ComparedBy.{taken_by, why_not_by}
use Rattle.queries.proofs.comparing_by.BothGrants.read.Goals as goal

pub returns-in-Err-clause-err : goal.returns-in-Err-clause-err
returns-in-Err-clause-err c = inr (why_not_by c.args.release c.args.address c.switches.result c.switches.ensures c.args.old.now c.in-Err.why (rw c.in-Err.is at c.in_ok-grants.ensures))

pub returns-in-Err-2-clause-err : goal.returns-in-Err-2-clause-err
returns-in-Err-2-clause-err c =
    let before = taken_by c.args.release c.args.address c.switches.result c.switches.ensures c.args.old.now c.in-Ok.grants (rw c.in-Ok.is at c.in_ok-grants.ensures) in
    let why = why_not_by c.args.release c.args.address c.switches.result c.switches.ensures c.args.new.now c.in-Err-2.why (rw c.in-Err-2.is at c.in_ok-grants-2.ensures) in
    inr ((c.in-Ok.grants, before), why)

pub returns-clause-ok : goal.returns-clause-ok
returns-clause-ok c = (
  taken_by c.args.release c.args.address c.switches.result c.switches.ensures c.args.old.now c.in-Ok.grants (rw c.in-Ok.is at c.in_ok-grants.ensures),
  taken_by c.args.release c.args.address c.switches.result c.switches.ensures c.args.new.now c.in-Ok-2.grants (rw c.in-Ok-2.is at c.in_ok-grants-2.ensures),
)
