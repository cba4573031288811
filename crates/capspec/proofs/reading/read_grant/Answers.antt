use Rattle.std.proofs.Common.{Err, sym, ◌∙◌, subst}
use Rattle.capspec.specs.declared.draft.Draft.{Draft}
use Rattle.capspec.specs.declared.reading.Refusal.{Refusal}
use Rattle.capspec.specs.Faults.{GrantGives}
use Rattle.capspec.specs.Parts.{ReadsItems}
use Rattle.std.proofs.lemmas.Result.{err_from_is_err_and}
use Rattle.capspec.proofs.Granting.{first_within, flags_wrong, items_within, items_wrong, longer_wrong, not_allow_wrong, reads_grant, second_within}
use Rattle.capspec.proofs.Taken.{not_plain_ends}
use Rattle.capspec.proofs.reading.read_grant.Goals as goal

pub returns-in_default-clause-err : goal.returns-in_default-clause-err
returns-in_default-clause-err c before few =
    subst (λ (r : Refusal). GrantGives before c.args.text.now (Err r)) (sym c.at.ensures) (not_allow_wrong c.args.text.now _ _ before c.split_while.ensures c.in_default.ensures few)

pub returns-then-not-ends_word-clause-err : goal.returns-then-not-ends_word-clause-err
returns-then-not-ends_word-clause-err c before few =
    subst (λ (r : Refusal). GrantGives before c.args.text.now (Err r)) (sym c.at-then-not-ends_word.ensures) (longer_wrong c.args.text.now _ _ _ before c.split_while.ensures c.in-Some.ensures (sym c.ends_word.ensures ∙ c.if-not-ends_word.true) few)

pub returns-in-Err-clause-err : goal.returns-in-Err-clause-err
returns-in-Err-clause-err c before few =
    subst (λ (r : Refusal). GrantGives before c.args.text.now (Err r)) (sym c.at-in-Err.ensures)
    (flags_wrong c.args.text.now _ _ _ _ _ _ _ c.in-Err.kind before c.split_while.ensures c.in-Some.ensures (sym c.ends_word.ensures ∙ c.if-not-ends_word.false) c.split_while-2.ensures c.split_while-3.ensures c.in-Err.ensures.err few)

pub returns-in_err-rest-clause-err : goal.returns-in_err-rest-clause-err
returns-in_err-rest-clause-err c =
    let p = err_from_is_err_and c.from_residual.result c.from_residual.ensures.1 in
    rw (p.1, p.2) (λ before few. items_wrong c.args.text.now _ _ _ _ _ _ _ c.in-Ok.flags c.in_err-rest.field-0.0 before c.split_while.ensures c.in-Some.ensures (sym c.ends_word.ensures ∙ c.if-not-ends_word.false)
    c.split_while-2.ensures c.split_while-3.ensures c.in-Ok.ensures.ok c.in_err-rest.ensures.err few)

pub returns-clause-ok : goal.returns-clause-ok
returns-clause-ok c =
    reads_grant _ _ _ _ _ _ _ _ _ c.in-Ok.flags _ c.split_while.ensures c.in-Some.ensures (sym c.ends_word.ensures ∙ c.if-not-ends_word.false) c.split_while-2.ensures c.split_while-3.ensures c.in-Ok.ensures.ok
    (subst (λ (old : Draft). ReadsItems old c.split_while-3.result.1.now c.in_ok-rest.rest.now c.read_items.new.draft) c.new-draft.ensures c.in_ok-rest.ensures.ok)

-- what each refusal leaves

pub returns-in_default-clause-within : goal.returns-in_default-clause-within
returns-in_default-clause-within c = first_within c.args.text.now _ _ _ c.at.result c.split_while.ensures c.at.ensures

pub returns-then-not-ends_word-clause-within : goal.returns-then-not-ends_word-clause-within
returns-then-not-ends_word-clause-within c = first_within c.args.text.now _ _ _ c.at-then-not-ends_word.result c.split_while.ensures c.at-then-not-ends_word.ensures

pub returns-in-Err-clause-within : goal.returns-in-Err-clause-within
returns-in-Err-clause-within c = second_within c.args.text.now _ _ _ _ _ _ c.at-in-Err.result c.split_while.ensures c.in-Some.ensures c.split_while-2.ensures c.at-in-Err.ensures

pub returns-in_err-rest-clause-within : goal.returns-in_err-rest-clause-within
returns-in_err-rest-clause-within c =
    let p = err_from_is_err_and c.from_residual.result c.from_residual.ensures.1 in
    rw (p.1, p.2) (items_within c.args.text.now _ _ _ _ _ _ _ _ c.split_while.ensures c.in-Some.ensures c.split_while-2.ensures c.split_while-3.ensures c.in_err-rest.ensures.within)

pub read_items-requires-clause-ends : goal.read_items-requires-clause-ends
read_items-requires-clause-ends c = not_plain_ends c.split_while-3.result.1.now c.split_while-3.ensures.longest
