use Rattle.std.proofs.Common.{◌≡◌, true, false, cond, Some, None, sym, ap, ◌∙◌}
use Rattle.capbits.specs.Caps.{has}
use Rattle.captable.proofs.Changes.{left_found}
use Rattle.capcore.proofs.CommonPieces.{Entry, Fc, Holder, Table, entry_at, none_found, owed, same_found, with_size_due}
use Rattle.capcore.proofs.sizes.owe.Goals as goal

abbrev owed_of : Holder → Entry → Entry
owed_of k e = owed (record { holder = k; entry = e })

pub returns-then-has : goal.returns-then-has
returns-then-has c =
    let t : Table = c.args.table.now.entries in
    let k : Holder = c.args.holder in
    let found : entry_at t k ≡ Some c.in-Some.entry = cc in
    let caches : has c.in-Some.entry.held Fc ≡ true = sym c.has.ensures ∙ c.if-has.true in
    c.owe_size.ensures
    ∙ ap (λ (u : Table). record c.args.table.now { entries = u }) (same_found t k c.in-Some.entry (with_size_due true) (owed_of k) found (sym (ap (λ b. cond b (with_size_due true c.in-Some.entry) c.in-Some.entry) caches)))

pub returns-else-has : goal.returns-else-has
returns-else-has c =
    let t : Table = c.args.table.now.entries in
    let k : Holder = c.args.holder in
    let found : entry_at t k ≡ Some c.in-Some.entry = cc in
    let not_cached : has c.in-Some.entry.held Fc ≡ false = sym c.has.ensures ∙ c.if-has.false in
    ap (λ (u : Table). record c.args.table.now { entries = u }) (left_found t k c.in-Some.entry (owed_of k) found (ap (λ b. cond b (with_size_due true c.in-Some.entry) c.in-Some.entry) not_cached))

pub returns-in_default : goal.returns-in_default
returns-in_default c =
    let none : entry_at c.args.table.now.entries c.args.holder ≡ None = cc in
    ap (λ (u : Table). record c.args.table.now { entries = u }) (none_found c.args.table.now.entries c.args.holder (owed_of c.args.holder) none)
