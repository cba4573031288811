use Rattle.std.proofs.Common.{◌≡◌, ◌==◌, true, None, sym, ap, subst, ◌∙◌, rules}
use Rattle.std.proofs.lemmas.Bool.{eqb-true, false_from_ne_true}
use Rattle.std.specs.Cmp.{nat_eq_equiv}
use Rattle.captable.proofs.ByHolder.{entry_at-without_client}
use Rattle.captable.specs.Kept.{KeptTable}
use Rattle.lockmachine.specs.Counts.{AreCounted, CountedLocks}
use Rattle.step_acts.proofs.Beside.{gone-other, gone-own}
use Rattle.step_acts.proofs.Common.{ClientId, Table, entry_at}
use Rattle.step_acts.specs.Known.{sets_of}
use Rattle.step_acts.specs.Left.{table_left}
use Rattle.sessiontab.specs.Changes.{is_end}
use Rattle.step_acts.proofs.session_end.drop_client_state.Goals as goal

-- whoever has an entry yet, is another client's
pub returns-then-is_end-clause-known : goal.returns-then-is_end-clause-known
returns-then-is_end-clause-known c = λ k e there.
    let left : KeptTable = c.args.scene.now.table in
    let off = false_from_ne_true (k.client.0 == c.args.client.0) (λ own.
    let mine : k.client ≡ c.args.client = (let same_number = eqb-true k.client.0 c.args.client.0 own in λ i. record { 0 = same_number i }) in
    let gone : entry_at c.drop_client.new.self.entries k ≡ None = ap (λ (t : KeptTable). entry_at t.entries k) c.drop_client.ensures ∙ entry_at-without_client left.entries c.args.client k mine in absurd (cc)) in
    ap (λ (t : KeptTable). sets_of t.kept k) c.drop_client.ensures ∙ gone-other left.kept c.args.client k off

pub returns-then-is_end-clause-gone : goal.returns-then-is_end-clause-gone
returns-then-is_end-clause-gone c = λ _ k e mine there.
    ap (λ (t : KeptTable). sets_of t.kept k) c.drop_client.ensures
    ∙ gone-own c.args.scene.now.table.kept c.args.client k (ap (λ (client : ClientId). client.0 == c.args.client.0) mine ∙ nat_eq_equiv.refl c.args.client.0)

pub returns-then-is_end-clause-counted : goal.returns-then-is_end-clause-counted
returns-then-is_end-clause-counted c = λ counted.
    subst (λ (l : CountedLocks). AreCounted c.drop_client.new.self.entries l) (sym c.drop_requests.ensures.locks)
    (subst (λ (t : Table). AreCounted t c.give_up_all.new.locks) (sym (ap (λ (t : KeptTable). t.entries) c.drop_client.ensures)) (c.give_up_all.ensures.counted counted))

-- proofs of their own, so that a body which leaves something is refused without a long search
pub returns-then-is_end-clause-table : goal.returns-then-is_end-clause-table
returns-then-is_end-clause-table c =
    let ends : is_end c.args.change ≡ true = sym c.is_end.ensures ∙ c.if-is_end.true in
    ap (λ (t : KeptTable). t.entries) c.drop_client.ensures ∙ ap (λ b. table_left b c.args.scene.now.table.entries c.args.client) (sym ends)

pub returns-then-is_end-clause-locks : goal.returns-then-is_end-clause-locks
returns-then-is_end-clause-locks c = search rules

pub returns-then-is_end-clause-dropped : goal.returns-then-is_end-clause-dropped
returns-then-is_end-clause-dropped c = search rules
