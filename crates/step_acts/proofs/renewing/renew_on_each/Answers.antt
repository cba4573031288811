use Rattle.std.proofs.Common.{◌≡◌, ◌==◌, ◌&&◌, List, ℕ, refl, ap, subst, ◌∙◌}
use Rattle.std.specs.FinSet as set
use Rattle.captable.specs.Kept.{KeptTable}
use Rattle.step_acts.proofs.Common.{Caps, Holder, Table, permitted}
use Rattle.step_acts.proofs.Renewed.{along-begins, along-ends, inodes-more, is_at}
use Rattle.step_acts.specs.Renewing.{Renews, has_entry}
use Rattle.step_acts.proofs.renewing.renew_on_each.Goals as goal

pub inodes-init : goal.inodes-init
inodes-init c = record {
  entries = refl;
  renewed = along-begins (permitted c.args.policy.now.fs.now c.args.policy.now.tree.now c.args.policy.now.sessions.now) (λ k. set.contains c.args.inos.now k.ino.0 && has_entry c.args.table.now.entries k)
      (is_at c.args.table.now.entries c.numbers-walk.result) c.args.table.now.kept
      (λ k. ap (λ b. b && has_entry c.args.table.now.entries k) (c.numbers-walk.ensures.list.among k.ino.0));
}

pub inodes-preserved : goal.inodes-preserved
inodes-preserved c =
    let old : KeptTable = c.args.table.now in
    let may : Holder → Caps = permitted c.args.policy.now.fs.now c.args.policy.now.tree.now c.args.policy.now.sessions.now in
    let was : c.inodes.table.entries ≡ old.entries = ap (λ (t : KeptTable). t.entries) c.inodes.invariant.entries in
    let same_entries : c.renew_on.new.table.entries ≡ old.entries = ap (λ (t : KeptTable). t.entries) c.renew_on.ensures.entries ∙ was in
    record {
      entries = λ i. record { entries = same_entries i; kept = c.renew_on.new.table.kept };
      renewed = inodes-more may old.entries (λ k. set.contains c.args.inos.now k.ino.0 && has_entry old.entries k)
          c.in-Some.ino.0 c.next.new.self c.inodes.walk old.kept c.inodes.table.kept c.renew_on.new.table.kept c.in-Some.ensures.some c.inodes.invariant.renewed
          (subst (λ (t : Table). Renews (λ k. (k.ino.0 == c.in-Some.ino.0) && has_entry t k) may c.inodes.table.kept c.renew_on.new.table.kept) was c.renew_on.ensures.renews);
    }

pub returns : goal.returns
returns c =
    let old : KeptTable = c.args.table.now in
    record {
      renews = along-ends (permitted c.args.policy.now.fs.now c.args.policy.now.tree.now c.args.policy.now.sessions.now) (λ k. set.contains c.args.inos.now k.ino.0 && has_entry old.entries k) (is_at old.entries c.inodes.walk)
          old.kept c.inodes.table.kept c.inodes.invariant.renewed (λ k. ap (λ (ns : List ℕ). is_at old.entries ns k) c.in_default.ensures.none.0);
      entries = c.inodes.invariant.entries;
    }
