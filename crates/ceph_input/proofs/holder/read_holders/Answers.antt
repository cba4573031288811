use Rattle.std.proofs.Common.{List, [], ◌∷◌, ◌++◌, sym, ap, ◌∙◌}
use Rattle.std.proofs.lemmas.List.{at_drop_all}
use Rattle.std.specs.Prelude.{Some, option_map}
use Rattle.serde_json.specs.declared.value.Value.{Value}
use Rattle.serde_json.specs.View.{items_view}
use Rattle.ceph_input.specs.Dump.{Held, holders_from, with_holder}
use Rattle.ceph_input.proofs.ItemByItem.{no_more, one_more}
use Rattle.ceph_input.proofs.holder.read_holders.Goals as goal

pub loop-item-preserved : goal.loop-item-preserved
loop-item-preserved c =
    let l = c.loop-item in
    one_more c.args.items.now l.item-index c.item-item.result c.item-item.is c.loop-item-test.true with_holder l.holders.items _
    (sym (ap Some c.in_ok-push.ensures.items ∙ ap (option_map (λ (h : Held). l.holders.items ++ h ∷ [])) (sym c.in-Some.is ∙ c.in_ok-holder.ensures)))
    ∙ l.invariant

pub returns-in_default : goal.returns-in_default
returns-in_default c =
    let l = c.loop-item in
    sym (no_more c.args.items.now l.item-index c.item-item.result c.item-item.is c.loop-item-test.true with_holder l.holders.items
    (sym (ap (option_map (λ (h : Held). l.holders.items ++ h ∷ [])) (sym c.in_default.is ∙ c.in_ok-holder.ensures))))
    ∙ l.invariant

pub returns : goal.returns
returns c =
    sym (at_drop_all (λ (vs : List Value). holders_from c.loop-item.holders.items (items_view vs)) c.args.items.now c.loop-item.item-index c.loop-item-test.false)
    ∙ c.loop-item.invariant
