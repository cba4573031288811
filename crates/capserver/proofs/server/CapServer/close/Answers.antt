use Rattle.std.proofs.Common.{◌≡◌, List, ap, sym, subst, arith, length}
use mathlib.Core.List.{IsPrefix}
use Rattle.capstep.specs.declared.row.Row.{Row}
use Rattle.capstep.specs.History.{CoreValue}
use Rattle.capserver.specs.Passes.{AllBegin}
use Rattle.capserver.proofs.Numbering.{begin_longer}
use Rattle.capserver.proofs.server.CapServer.close.Goals as goal

pub returns-clause-rows : goal.returns-clause-rows
returns-clause-rows g c all =
    let seen = c.self.view_is in
    let rest = c.end-core.ensures.rest in
    let parts : c.merge_all.new.rest.parts ≡ g.L.Ledger.parts = omega (arith, c.merge_all.ensures.parts, rest.0, all, seen) in
    let whole = c.audit.ensures.whole parts in
    let same = ap (λ (t : CoreValue). length t.rows) c.end-core.ensures.core in
    omega (arith, same, c.end-core.ensures.calls, whole, c.merge_all.ensures.amount, rest.1)

pub returns-clause-known : goal.returns-clause-known
returns-clause-known g c =
    let rows : List Row = c.end-core.result.0.rows in
    let up : IsPrefix c.end-core.result.3 rows = subst (λ (t : CoreValue). IsPrefix c.end-core.result.3 t.rows) (sym c.end-core.ensures.core) c.end-core.ensures.rows in
    begin_longer c.end-core.result.3 rows c.args.passes.items (subst (AllBegin c.end-core.result.3) c.as_slice.ensures.value c.check_all_against.ensures) up
