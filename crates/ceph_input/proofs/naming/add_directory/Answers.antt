use Rattle.std.proofs.Common.{Bool, List, None, Some, sym, ap, ◌∙◌}
use Rattle.std.proofs.lemmas.List.{at_drop_all}
use Rattle.std.specs.Prelude.{if◌then◌else◌, option_and_then}
use Rattle.serde_json.specs.declared.value.Value.{Value}
use Rattle.serde_json.specs.View.{items_view}
use Rattle.ceph_input.specs.Dump.{with_fragment, with_fragments}
use Rattle.ceph_input.proofs.ItemByItem.{no_more, one_more}
use Rattle.ceph_input.proofs.naming.add_directory.Goals as goal

pub loop-fragment-preserved : goal.loop-fragment-preserved
loop-fragment-preserved c =
    let l = c.loop-fragment in
    one_more c.in-Some.fragments.now l.fragment-index c.fragment-item.result c.fragment-item.is c.loop-fragment-test.true with_fragment l.paths c.add_fragment.new.paths
    (c.in_ok-add_fragment.ensures ∙ ap (λ (good : Bool). if good then Some c.add_fragment.new.paths else None) c.if-not-branch.false)
    ∙ l.invariant

pub returns-then-not-branch : goal.returns-then-not-branch
returns-then-not-branch c =
    let l = c.loop-fragment in
    ap (option_and_then (with_fragments c.args.paths.now)) (sym c.in-Some.ensures)
    ∙ sym l.invariant
    ∙ no_more c.in-Some.fragments.now l.fragment-index c.fragment-item.result c.fragment-item.is c.loop-fragment-test.true with_fragment l.paths
    (c.in_ok-add_fragment.ensures ∙ ap (λ (good : Bool). if good then Some c.add_fragment.new.paths else None) c.if-not-branch.true)

pub returns : goal.returns
returns c =
    ap (option_and_then (with_fragments c.args.paths.now)) (sym c.in-Some.ensures)
    ∙ sym c.loop-fragment.invariant
    ∙ at_drop_all (λ (vs : List Value). with_fragments c.loop-fragment.paths (items_view vs)) c.in-Some.fragments.now c.loop-fragment.fragment-index c.loop-fragment-test.false
