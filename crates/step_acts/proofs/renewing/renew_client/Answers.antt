use Rattle.std.proofs.Common.{◌≡◌, ◌==◌, Bool, Option, Some, subst, ap, ◌∙◌}
use Rattle.std.proofs.lemmas.Bool.{eqb-true}
use Rattle.captable.specs.Calls.{newer_in}
use Rattle.step_acts.proofs.Common.{Caps, Holder, holders_of_rows, permitted}
use Rattle.step_acts.proofs.Renewed.{passing}
use Rattle.step_acts.proofs.Walking.{Walking, walking-begins, walking-ends, walking-more, walking-passes, walking-smaller}
use Rattle.step_acts.proofs.renewing.renew_client.Goals.{After-next_of-next}
use Rattle.step_acts.proofs.renewing.renew_client.Goals as goal

pub holders-init : goal.holders-init
holders-init c =
    walking-begins (λ k. k.client.0 == c.args.client.0) (permitted c.args.policy.now.fs.now c.args.policy.now.tree.now c.args.policy.now.sessions.now) c.args.table.now c.first_of-next.result c.first_of-next.ensures.first

-- whether it is the client's
abbrev of : After-next_of-next → Holder → Bool
of c k = k.client.0 == c.args.client.0

abbrev may : After-next_of-next → Holder → Caps
may c = permitted c.args.policy.now.fs.now c.args.policy.now.tree.now c.args.policy.now.sessions.now

here : (c : After-next_of-next) → Walking (of c) (may c) c.args.table.now c.holders.table (Some c.in-Some.own)
here c = subst (λ (at : Option Holder). Walking (of c) (may c) c.args.table.now c.holders.table at) c.in-Some.is c.holders.invariant

-- the next of its client is the next of the client
next : (c : After-next_of-next) → c.next_of-next.result ≡ newer_in (holders_of_rows (passing (of c) c.keep_permitted.new.self.entries)) c.in-Some.own
next c =
    let own = c.in-Some.own in
    let same_client : own.client.0 ≡ c.args.client.0 =
    eqb-true own.client.0 c.args.client.0 (walking-passes (of c) (may c) c.args.table.now c.holders.table own (here c) c.first_of-next.ensures.sound c.first_of-next.ensures.beside) in
    c.next_of-next.ensures.after ∙ ap (λ n. newer_in (holders_of_rows (passing (λ k. k.client.0 == n) c.keep_permitted.new.self.entries)) own) same_client

pub holders-preserved : goal.holders-preserved
holders-preserved c =
    walking-more (of c) (may c) c.args.table.now c.holders.table c.in-Some.own (here c) c.first_of-next.ensures.sound c.first_of-next.ensures.beside
    c.permitted-permitted.result c.keep_permitted.new.self c.keep_permitted.ensures c.permitted-permitted.ensures c.next_of-next.result (next c)

pub holders-smaller : goal.holders-smaller
holders-smaller c =
    rw c.in-Some.is (walking-smaller (of c) (may c) c.args.table.now c.holders.table c.in-Some.own (here c) c.first_of-next.ensures.sound c.first_of-next.ensures.beside
    c.permitted-permitted.result c.keep_permitted.new.self c.keep_permitted.ensures c.next_of-next.result (next c))

pub returns : goal.returns
returns c = record {
  renews = walking-ends (λ k. k.client.0 == c.args.client.0) (permitted c.args.policy.now.fs.now c.args.policy.now.tree.now c.args.policy.now.sessions.now) c.args.table.now c.holders.table c.holders.next c.holders.invariant c.in_default.is;
  entries = c.holders.invariant.entries;
}
