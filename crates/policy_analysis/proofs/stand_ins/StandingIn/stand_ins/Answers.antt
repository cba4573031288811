use Rattle.std.proofs.Common.{◌&&◌, List, length, sym, ap, ◌∙◌, arith}
use Rattle.std.specs.List.{list_any}
use Rattle.std.proofs.Math.Seq.{take-length}
use Rattle.std.proofs.lemmas.Bool.{or_left, or_right}
use Rattle.std.proofs.lemmas.List.{take_all}
use Rattle.release_grants.specs.declared.grant.Grant.{Grant}
use Rattle.policy_analysis.specs.StandIns.{IsWhyNot, allowing, mounts_each, names, one_allows, terms_in}
use Rattle.policy_analysis.proofs.Mounting.{all_named, none_named, none_yet, one_named, stand_in_each}
use Rattle.policy_analysis.proofs.StoodIn.{handed_on, no_times, none_on, none_on_each, times_more, times_same}
use Rattle.policy_analysis.proofs.stand_ins.StandingIn.stand_ins.Goals as goal
use Rattle.policy_analysis.proofs.stand_ins.StandingIn.stand_ins.Goals.{in-Some+in_ok-push_on-2, in_default, then-self-via-else-self+then-mount_each, then-self-via-then-self}

pub returns-then-self-clause-same : goal.returns-then-self-clause-same
returns-then-self-clause-same c =
    let k = c.args.self in
    let grants = c.args.grants.now in
    stand_in_each k.vxattr (terms_in k) k.maybe grants c.push_on.new.owns.items
    (elim c.then-self.branch [
      | then-self-via-then-self w ↦ or_left k.switches.judges_fsname (list_any (mounts_each k.switches) grants) w.if-self.true
      | then-self-via-else-self+then-mount_each w ↦ or_right k.switches.judges_fsname (list_any (mounts_each k.switches) grants) (sym w.mount_each.ensures ∙ w.if-mount_each.true)
    ])
    (rw c.new-owns.ensures.items at c.in_ok-push_on.ensures.same)

pub loop-place-init : goal.loop-place-init
loop-place-init c =
    let k = c.args.self in
    let grants = c.args.grants.now in
    record {
      few = rw c.new-owns.ensures.items (omega arith);
      same = rw c.new-owns.ensures.items (none_yet k.vxattr (terms_in k) k.maybe grants);
      count = rw c.new-owns.ensures.items (no_times (length (allowing k.vxattr (terms_in k) k.maybe grants)));
    }

pub loop-place-preserved : goal.loop-place-preserved
loop-place-preserved c =
    let k = c.args.self in
    let grants = c.args.grants.now in
    elim c.match-first_named.branch [
      | in-Some+in_ok-push_on-2 w ↦ record {
        few = rw w.owns-is w.in_ok-push_on-2.ensures.few;
        same = rw w.owns-is (one_named k.vxattr (terms_in k) k.maybe grants c.loop-place.place c.index-grants-place.result c.loop-place.owns.items c.loop-place-test.true c.index-grants-place.is c.loop-place.invariant.same
            w.in-Some.name.now w.push_on-in-Some.new.owns.items c.if-self.false w.in-Some.ensures.some.0 w.in_ok-push_on-2.ensures.same);
        count = rw w.owns-is (times_more grants c.loop-place.place c.index-grants-place.result c.loop-place-test.true c.index-grants-place.is (length (allowing k.vxattr (terms_in k) k.maybe grants)) (length c.loop-place.owns.items) (length w.push_on-in-Some.new.owns.items)
            w.in-Some.name.now w.in-Some.ensures.some.0 w.in-Some.ensures.some.1 c.loop-place.invariant.count w.in_ok-push_on-2.ensures.count);
      }
      | in_default w ↦ record {
        few = rw w.owns-is c.loop-place.invariant.few;
        same = none_named k.vxattr (terms_in k) k.maybe grants c.loop-place.place c.index-grants-place.result c.loop-place.owns.items c.loop-place-test.true c.index-grants-place.is c.loop-place.invariant.same
            c.match-first_named.owns.items w.in_default.ensures.none (ap (λ v. v.items) w.owns-is);
        count = rw w.owns-is (times_same grants c.loop-place.place c.index-grants-place.result c.loop-place-test.true c.index-grants-place.is (length (allowing k.vxattr (terms_in k) k.maybe grants)) (length c.loop-place.owns.items) w.in_default.ensures.none c.loop-place.invariant.count);
      }
    ]

pub returns-clause-same : goal.returns-clause-same
returns-clause-same c =
    let k = c.args.self in
    let grants = c.args.grants.now in
    all_named k.vxattr (terms_in k) k.maybe grants c.loop-place.owns.items (sym c.mount_each.ensures ∙ c.if-mount_each.false)
    (λ q can of. c.loop-place.invariant.same q can of ∙ ap (λ (gs : List Grant). list_any (names q.fs) gs && list_any (one_allows (terms_in k) k.maybe q) grants) (take_all c.loop-place.place grants c.loop-place-test.false ∙ sym (take-length grants)))

pub returns-in_err-push_on-clause-err : goal.returns-in_err-push_on-clause-err
returns-in_err-push_on-clause-err c =
    let k = c.args.self in
    let grants = c.args.grants.now in
    handed_on (IsWhyNot k.vxattr (terms_in k) k.maybe grants) _ _ c.from_residual.ensures.1
    (none_on_each k.vxattr (terms_in k) k.maybe grants _
    (elim c.then-self.branch [
      | then-self-via-then-self w ↦ or_left k.switches.judges_fsname (list_any (mounts_each k.switches) grants) w.if-self.true
      | then-self-via-else-self+then-mount_each w ↦ or_right k.switches.judges_fsname (list_any (mounts_each k.switches) grants) (sym w.mount_each.ensures ∙ w.if-mount_each.true)
    ])
    (rw c.new-owns.ensures.items at c.in_err-push_on.ensures.err))

pub returns-in_err-push_on-2-clause-err : goal.returns-in_err-push_on-2-clause-err
returns-in_err-push_on-2-clause-err c =
    let k = c.args.self in
    let grants = c.args.grants.now in
    handed_on (IsWhyNot k.vxattr (terms_in k) k.maybe grants) _ _ c.from_residual-in_err-push_on-2.ensures.1
    (none_on grants c.loop-place.place c.index-grants-place.result c.loop-place-test.true c.index-grants-place.is k.vxattr (terms_in k) k.maybe (length c.loop-place.owns.items) c.in-Some.name.now _
    c.if-self.false (sym c.mount_each.ensures ∙ c.if-mount_each.false) c.in-Some.ensures.some.0 c.in-Some.ensures.some.1 c.loop-place.invariant.count c.in_err-push_on-2.ensures.err)
