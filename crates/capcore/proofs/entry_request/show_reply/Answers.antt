use Rattle.std.proofs.Common.{◌≡◌, Some, None, ap, ◌∙◌, arith}
use Rattle.capcore.proofs.CommonPieces.{Holder, Table, entry_at, no_entry, row_of-entry}
use Rattle.capcore.proofs.entry_request.show_reply.Goals as goal

pub returns-in-Some-clause-reply : goal.returns-in-Some-clause-reply
returns-in-Some-clause-reply c = λ s table known.
    let k : Holder = c.args.holder in
    let there : entry_at c.args.table.now.entries k ≡ Some c.in-Some.entry = cc in
    let found : entry_at s.scene.table k ≡ Some c.in-Some.entry = ap (λ (t : Table). entry_at t k) table ∙ there in
    let row = row_of-entry s.scene.table k c.in-Some.entry found in
    let pending = known k c.in-Some.entry found in
    let shows = c.in-Open.is in
    grind arith

pub returns-in-None-clause-reply : goal.returns-in-None-clause-reply
returns-in-None-clause-reply c = λ s table known.
    let k : Holder = c.args.holder in
    let there : entry_at c.args.table.now.entries k ≡ None = cc in
    let none : entry_at s.scene.table k ≡ None = ap (λ (t : Table). entry_at t k) table ∙ there in
    let shows = c.in-Open.is in
    grind (arith, no_entry)
