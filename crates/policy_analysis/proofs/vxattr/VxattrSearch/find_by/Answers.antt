use Rattle.std.proofs.Common.{◌==◌, ℕ, List, length, sym, ap, ◌∙◌}
use Rattle.policy_analysis.specs.Asking.{caller_of}
use Rattle.policy_analysis.proofs.OwnersAsked.{after_loop, after_one_ask, found_by}
use Rattle.policy_analysis.proofs.vxattr.VxattrSearch.find_by.Goals as goal

pub returns-then-is_empty-clause-exact : goal.returns-then-is_empty-clause-exact
returns-then-is_empty-clause-exact c =
    after_one_ask c.args.self.now.old.now c.args.self.now.new.now c.args.self.now.fs c.args.self.now.nobody c.args.grant.now c.args.self.now.no_fs c.args.self.now.no_old_gid c.args.self.now.no_uid c.requires
    c.ask.result c.caller-asker.result
    (c.caller-asker.ensures ∙ ap (λ (uid : ℕ). caller_of uid c.args.self.now.nobody) c.unwrap_or.ensures)
    (ap (λ (gids : List ℕ). length gids == 0) (sym c.as_slice-gids.ensures) ∙ sym c.is_empty.ensures ∙ c.if-is_empty.true)
    c.ask.ensures.none c.ask.ensures.denied c.ask.ensures.found

pub returns-in-Some-clause-exact : goal.returns-in-Some-clause-exact
returns-in-Some-clause-exact c =
    found_by c.args.self.now.old.now c.args.self.now.new.now c.args.self.now.fs c.args.self.now.nobody c.args.grant.now c.args.self.now.no_fs c.args.self.now.no_old_gid c.args.self.now.no_uid c.requires
    c.in_ok-witness.field-0 c.in-Some.witness c.in-Some.is c.with_group.result c.caller-asker.result c.as_slice-gids.result.now c.loop-own.own-index c.with_group.ensures
    (c.caller-asker.ensures ∙ ap (λ (uid : ℕ). caller_of uid c.args.self.now.nobody) c.unwrap_or.ensures)
    c.as_slice-gids.ensures c.loop-own-test.true c.in_ok-witness.ensures.denied c.in_ok-witness.ensures.found

pub returns-clause-exact : goal.returns-clause-exact
returns-clause-exact c =
    after_loop c.args.self.now.old.now c.args.self.now.new.now c.args.self.now.fs c.args.self.now.nobody c.args.grant.now c.args.self.now.no_fs c.args.self.now.no_old_gid c.args.self.now.no_uid c.requires
    c.as_slice-gids.result.now c.loop-own.own-index c.as_slice-gids.ensures (sym c.is_empty.ensures ∙ c.if-is_empty.false) c.loop-own-test.false c.loop-own.invariant
