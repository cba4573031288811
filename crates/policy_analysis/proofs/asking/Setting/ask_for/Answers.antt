use Rattle.std.proofs.Common.{ap, ◌∙◌, sym}
use Rattle.std.proofs.lemmas.Bool.{both_ways, ne_eqb}
use Rattle.std.proofs.lemmas.List.Elements.{All-more}
use Rattle.policy_analysis.specs.Asking.{NoneFor, Setting, with_group}
use Rattle.policy_analysis.proofs.AskedFor.{after_each, after_one, root_alone}
use Rattle.policy_analysis.proofs.asking.Setting.ask_for.Goals as goal
use Rattle.policy_analysis.proofs.asking.Setting.ask_for.Goals.{else-uid-eq0-via-else-uid-eq0, else-uid-eq0-via-then-uid-eq0+else-not-root}

pub returns-then-not-root-clause-none : goal.returns-then-not-root-clause-none
returns-then-not-root-clause-none c = root_alone c.args.self.now c.args.grant.now c.args.root c.self.inside.nobody c.uid_for-uid.result c.requires (ap (λ (s : Setting). s.nobody) c.self.view_is) c.uid_for-uid.ensures c.if-not-root.true c.if-uid-eq0.true

pub returns-then-is_empty-clause-none : goal.returns-then-is_empty-clause-none
returns-then-is_empty-clause-none c =
    after_one c.args.self.now c.args.grant.now c.args.root c.self.inside.nobody c.uid_for-uid.result c.gid_for.result c.caller-asker.result c.as_slice-gids.result.now c.ask_by.result c.requires
    (record { nobody_is = ap (λ (s : Setting). s.nobody) c.self.view_is; uid_is = c.uid_for-uid.ensures; gid_is = c.gid_for.ensures; asker_is = c.caller-asker.ensures })
    c.as_slice-gids.ensures
    (elim c.else-uid-eq0.branch [
      | else-uid-eq0-via-then-uid-eq0+else-not-root w ↦ λ plain. absurd (both_ways c.args.root plain w.if-not-root.false)
      | else-uid-eq0-via-else-uid-eq0 w ↦ λ plain. ne_eqb c.uid_for-uid.result 0 w.if-uid-eq0.false
    ])
    (sym c.is_empty.ensures ∙ c.if-is_empty.true)
    c.ask_by.ensures.none

pub loop-own-preserved : goal.loop-own-preserved
loop-own-preserved c = All-more (λ own. NoneFor c.args.self.now c.args.grant.now (with_group c.caller-asker.result own) own) c.as_slice-gids.result.now c.loop-own.own-index 0 c.loop-own-test.true c.loop-own.invariant (rw c.with_group.ensures at c.in_default.ensures.none)

pub returns-clause-none : goal.returns-clause-none
returns-clause-none c =
    after_each c.args.self.now c.args.grant.now c.args.root c.self.inside.nobody c.uid_for-uid.result c.gid_for.result c.caller-asker.result c.as_slice-gids.result.now c.loop-own.own-index c.requires
    (record { nobody_is = ap (λ (s : Setting). s.nobody) c.self.view_is; uid_is = c.uid_for-uid.ensures; gid_is = c.gid_for.ensures; asker_is = c.caller-asker.ensures })
    c.as_slice-gids.ensures
    (elim c.else-uid-eq0.branch [
      | else-uid-eq0-via-then-uid-eq0+else-not-root w ↦ λ plain. absurd (both_ways c.args.root plain w.if-not-root.false)
      | else-uid-eq0-via-else-uid-eq0 w ↦ λ plain. ne_eqb c.uid_for-uid.result 0 w.if-uid-eq0.false
    ])
    (sym c.is_empty.ensures ∙ c.if-is_empty.false)
    c.loop-own-test.false
    c.loop-own.invariant
