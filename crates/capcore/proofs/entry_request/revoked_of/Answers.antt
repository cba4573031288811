use Rattle.std.proofs.Common.{◌≡◌, Some, None, sym, ap, ◌∙◌}
use Rattle.capcore.proofs.CommonPieces.{Holder, entry_at, minus}
use Rattle.capcore.proofs.Knowing.{revoked-known}
use Rattle.capcore.proofs.Revoking.{revoked-none}
use Rattle.capcore.proofs.entry_request.revoked_of.Goals as goal

pub returns-in-Some : goal.returns-in-Some
returns-in-Some c =
    let k : Holder = c.args.holder in
    let found : entry_at c.args.table.now.entries k ≡ Some c.in-Some.entry = cc in
    λ s table known.
    c.minus.ensures ∙ ap (minus c.in-Some.entry.held) c.pending_for.ensures
    ∙ revoked-known c.args.table.now.kept s k c.in-Some.entry known (ap (λ t. entry_at t k) table ∙ found)

pub returns-in-None : goal.returns-in-None
returns-in-None c =
    let none : entry_at c.args.table.now.entries c.args.holder ≡ None = cc in
    λ s table known. c.empty.ensures ∙ sym (revoked-none s c.args.holder (ap (λ t. entry_at t c.args.holder) table ∙ none))
