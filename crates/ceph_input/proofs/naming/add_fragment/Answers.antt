use Rattle.std.proofs.Common.{Bool, List, None, Some, sym, ap, ◌∙◌}
use Rattle.std.proofs.lemmas.List.{at_drop_all}
use Rattle.std.specs.Prelude.{if◌then◌else◌, option_and_then}
use Rattle.serde_json.specs.declared.value.Value.{Value}
use Rattle.serde_json.specs.View.{items_view}
use Rattle.ceph_input.specs.Dump.{with_dentry, with_dentries}
use Rattle.ceph_input.proofs.ItemByItem.{no_more, one_more}
use Rattle.ceph_input.proofs.naming.add_fragment.Goals as goal

pub loop-dentry-preserved : goal.loop-dentry-preserved
loop-dentry-preserved c =
    let l = c.loop-dentry in
    one_more c.in-Some.dentries.now l.dentry-index c.dentry-item.result c.dentry-item.is c.loop-dentry-test.true with_dentry l.paths c.add_dentry.new.paths
    (c.in_ok-add_dentry.ensures ∙ ap (λ (good : Bool). if good then Some c.add_dentry.new.paths else None) c.if-not-branch.false)
    ∙ l.invariant

pub returns-then-not-branch : goal.returns-then-not-branch
returns-then-not-branch c =
    let l = c.loop-dentry in
    ap (option_and_then (with_dentries c.args.paths.now)) (sym c.in-Some.ensures)
    ∙ sym l.invariant
    ∙ no_more c.in-Some.dentries.now l.dentry-index c.dentry-item.result c.dentry-item.is c.loop-dentry-test.true with_dentry l.paths
    (c.in_ok-add_dentry.ensures ∙ ap (λ (good : Bool). if good then Some c.add_dentry.new.paths else None) c.if-not-branch.true)

pub returns : goal.returns
returns c =
    ap (option_and_then (with_dentries c.args.paths.now)) (sym c.in-Some.ensures)
    ∙ sym c.loop-dentry.invariant
    ∙ at_drop_all (λ (vs : List Value). with_dentries c.loop-dentry.paths (items_view vs)) c.in-Some.dentries.now c.loop-dentry.dentry-index c.loop-dentry-test.false
