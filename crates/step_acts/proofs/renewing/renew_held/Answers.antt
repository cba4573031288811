use Rattle.std.proofs.Common.{◌≡◌, ◌==◌, Bool, Option, Some, sym, subst, ap, ◌∙◌}
use Rattle.std.proofs.lemmas.Bool.{eqb-true}
use Rattle.std.specs.Option.{option_copied}
use Rattle.std.specs.FinMap as map
use Rattle.inotree.proofs.Lent.{lent-where}
use Rattle.inotree.specs.Tree.{path_of}
use Rattle.captable.specs.Calls.{newer_in}
use Rattle.lockmachine.specs.Policy.{permitted_to, subject_of}
use Rattle.step_acts.proofs.Common.{Caps, Holder, holders_of_rows, permitted}
use Rattle.step_acts.proofs.Renewed.{passing}
use Rattle.step_acts.proofs.Walking.{Walking, walking-begins, walking-ends, walking-more, walking-passes, walking-smaller}
use Rattle.step_acts.proofs.renewing.renew_held.Goals.{After-next_on-next}
use Rattle.step_acts.proofs.renewing.renew_held.Goals as goal

pub holders-init : goal.holders-init
holders-init c =
    walking-begins (λ k. k.ino.0 == c.args.ino.0) (permitted c.args.policy.now.fs.now c.args.policy.now.tree.now c.args.policy.now.sessions.now) c.args.table.now c.first_on-next.result c.first_on-next.ensures.first

-- whether it is on the inode
abbrev on : After-next_on-next → Holder → Bool
on c k = k.ino.0 == c.args.ino.0

abbrev may : After-next_on-next → Holder → Caps
may c = permitted c.args.policy.now.fs.now c.args.policy.now.tree.now c.args.policy.now.sessions.now

here : (c : After-next_on-next) → Walking (on c) (may c) c.args.table.now c.holders.table (Some c.in-Some.own)
here c = subst (λ (at : Option Holder). Walking (on c) (may c) c.args.table.now c.holders.table at) c.in-Some.is c.holders.invariant

same_ino : (c : After-next_on-next) → c.in-Some.own.ino.0 ≡ c.args.ino.0
same_ino c =
    eqb-true c.in-Some.own.ino.0 c.args.ino.0 (walking-passes (on c) (may c) c.args.table.now c.holders.table c.in-Some.own (here c) c.first_on-next.ensures.sound c.first_on-next.ensures.beside)

-- by the path that was looked up once
permitted_here : (c : After-next_on-next) → c.permitted_on-permitted.result ≡ may c c.in-Some.own
permitted_here c =
    let own = c.in-Some.own in
    let path : option_copied c.then_some-path.result ≡ path_of c.args.policy.now.tree.now.nodes c.args.ino.0 = ap option_copied c.then_some-path.ensures ∙ lent-where c.read_path.result _ ∙ sym c.read_path.ensures in
    let session = map.get c.args.policy.now.sessions.now.sessions own.client.0 in
    let nodes = c.args.policy.now.tree.now.nodes in
    c.permitted_on-permitted.ensures
    ∙ (λ i. permitted_to c.args.policy.now.fs.now (subject_of session (path i) (c.node-node.ensures.node i)))
    ∙ ap (λ n. permitted_to c.args.policy.now.fs.now (subject_of session (path_of nodes n) (map.get nodes n))) (sym (same_ino c))

-- the next on its inode is the next on the inode
next : (c : After-next_on-next) → c.next_on-next.result ≡ newer_in (holders_of_rows (passing (on c) c.keep_permitted.new.self.entries)) c.in-Some.own
next c = c.next_on-next.ensures.after ∙ ap (λ n. newer_in (holders_of_rows (passing (λ k. k.ino.0 == n) c.keep_permitted.new.self.entries)) c.in-Some.own) (same_ino c)

pub holders-preserved : goal.holders-preserved
holders-preserved c =
    walking-more (on c) (may c) c.args.table.now c.holders.table c.in-Some.own (here c) c.first_on-next.ensures.sound c.first_on-next.ensures.beside
    c.permitted_on-permitted.result c.keep_permitted.new.self c.keep_permitted.ensures (permitted_here c) c.next_on-next.result (next c)

pub holders-smaller : goal.holders-smaller
holders-smaller c =
    rw c.in-Some.is (walking-smaller (on c) (may c) c.args.table.now c.holders.table c.in-Some.own (here c) c.first_on-next.ensures.sound c.first_on-next.ensures.beside
    c.permitted_on-permitted.result c.keep_permitted.new.self c.keep_permitted.ensures c.next_on-next.result (next c))

pub returns : goal.returns
returns c = record {
  renews = walking-ends (λ k. k.ino.0 == c.args.ino.0) (permitted c.args.policy.now.fs.now c.args.policy.now.tree.now c.args.policy.now.sessions.now) c.args.table.now c.holders.table c.holders.next c.holders.invariant c.in_default.is;
  entries = c.holders.invariant.entries;
}
