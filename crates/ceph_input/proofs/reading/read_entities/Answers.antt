use Rattle.std.proofs.Common.{ℕ, ◌+◌, List, sym, ap, ◌∙◌}
use Rattle.std.proofs.lemmas.List.{at_drop_all}
use Rattle.std.proofs.lemmas.Result.{err_from_is_err_and}
use Rattle.std.specs.Prelude.{Err, Some}
use Rattle.serde_json.specs.declared.value.Value.{Value}
use Rattle.serde_json.specs.View.{items_view}
use Rattle.ceph_input.specs.declared.auth_fault.AuthFault.TheVariants.{NotAnEntity}
use Rattle.ceph_input.specs.Auth.{entities_of, entity_of}
use Rattle.ceph_input.proofs.ItemByItem.{none_read, one_read}
use Rattle.ceph_input.proofs.reading.read_entities.Goals as goal

pub loop-item-preserved : goal.loop-item-preserved
loop-item-preserved c =
    let l = c.loop-item in
    one_read c.args.items.now l.item-index c.item-item.result c.item-item.is c.loop-item-test.true entity_of NotAnEntity l.entities.items _ _ c.in_ok-push.ensures.items (sym c.in-Some.is ∙ c.in_ok-entity.ensures)
    ∙ l.invariant

pub returns-in_default-clause-err : goal.returns-in_default-clause-err
returns-in_default-clause-err c =
    let l = c.loop-item in
    ap Some (
    sym l.invariant
    ∙ none_read c.args.items.now l.item-index c.item-item.result c.item-item.is c.loop-item-test.true entity_of NotAnEntity l.entities.items (sym c.in_default.is ∙ c.in_ok-entity.ensures)
    ∙ ap (λ (n : ℕ). Err (NotAnEntity (n + 1))) (sym (c.len.ensures ∙ l.entities.ok.0))
    )

pub returns-in_err-entity-clause-err : goal.returns-in_err-entity-clause-err
returns-in_err-entity-clause-err c = let p = err_from_is_err_and c.from_residual.result c.from_residual.ensures.1 in rw (p.1, p.2) tt

pub returns-in_err-push-clause-err : goal.returns-in_err-push-clause-err
returns-in_err-push-clause-err c = let p = err_from_is_err_and c.from_residual-in_err-push.result c.from_residual-in_err-push.ensures.1 in rw (p.1, p.2) tt

pub returns-clause-ok : goal.returns-clause-ok
returns-clause-ok c =
    sym c.loop-item.invariant
    ∙ at_drop_all (λ (vs : List Value). entities_of c.loop-item.entities.items (items_view vs)) c.args.items.now c.loop-item.item-index c.loop-item-test.false
