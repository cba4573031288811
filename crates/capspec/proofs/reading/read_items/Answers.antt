use Rattle.std.proofs.Common.{◌≡◌, ◌≤◌, false, not, ◌&&◌, [], None, Err, length, refl, sym, ap, subst, ◌∙◌}
use Rattle.std.specs.Prelude.{is_some}
use Rattle.std.proofs.lemmas.Bool.{true≢false}
use Rattle.capspec.specs.declared.reading.Refusal.{Refusal}
use Rattle.capspec.specs.Faults.{ItemsGive}
use Rattle.capspec.proofs.Words.{drafting_done, drafting_more, drafting_none, gids_alone_wrong, item_within, item_wrong}
use Rattle.capspec.proofs.reading.read_items.Goals as goal
use Rattle.capspec.proofs.reading.read_items.Goals.{else-is_none-2, else-is_some-via-else-is_some, else-is_some-via-then-is_some+else-is_none, then-is_none-2}

pub loop-draft-init : goal.loop-draft-init
loop-draft-init c = drafting_none c.args.draft.now c.args.text.now c.requires.new c.requires.ends

pub loop-draft-preserved : goal.loop-draft-preserved
loop-draft-preserved c =
    let within : length c.if-is_none-2.gids_item.now ≤ length c.args.text.now = elim c.if-is_none-2.branch [
      | then-is_none-2 w ↦ rw w.gids_item-is (item_within _ _ _ _ _ _ _ c.loop-draft.invariant c.split_while.ensures)
      | else-is_none-2 w ↦ rw w.gids_item-is c.loop-draft.invariant.within
    ] in
    drafting_more _ _ _ _ _ _ _ _ _ _ c.loop-draft.invariant c.split_while.ensures (sym c.ends_grant.ensures ∙ c.if-ends_grant.false) c.in-Ok.ensures.ok within
    (λ listed. elim c.if-is_none-2.branch [
      | then-is_none-2 w ↦ absurd (true≢false (sym listed ∙ c.is_none-in-loop-draft.ensures ∙ ap not w.if-is_none-2.true))
      | else-is_none-2 w ↦ ap (λ r. r.now) w.gids_item-is
    ])
    (λ unlisted. elim c.if-is_none-2.branch [
      | then-is_none-2 w ↦ ap (λ r. r.now) w.gids_item-is
      | else-is_none-2 w ↦ absurd (true≢false (sym (c.is_none-in-loop-draft.ensures ∙ ap not w.if-is_none-2.false) ∙ unlisted))
    ])

pub returns-then-is_none-clause-err : goal.returns-then-is_none-clause-err
returns-then-is_none-clause-err c =
    subst (λ (r : Refusal). ItemsGive [] None c.args.text.now (Err r)) (sym c.at.ensures)
    (gids_alone_wrong c.args.draft.now c.loop-draft.draft c.args.text.now c.loop-draft.rest.now _ _ c.loop-draft.gids_item.now c.loop-draft.invariant c.split_while.ensures (sym c.ends_grant.ensures ∙ c.if-ends_grant.true)
    (sym c.is_some.ensures ∙ c.if-is_some.true) (c.is_none.ensures ∙ ap not c.if-is_none.true))

pub returns-then-ends_grant-clause-ok : goal.returns-then-ends_grant-clause-ok
returns-then-ends_grant-clause-ok c =
    let both : (is_some c.loop-draft.draft.gids && not (is_some c.loop-draft.draft.uid)) ≡ false = elim c.else-is_some.branch [
      | else-is_some-via-then-is_some+else-is_none w ↦ rw (sym c.is_some.ensures ∙ w.if-is_some.true, w.is_none.ensures, w.if-is_none.false) refl
      | else-is_some-via-else-is_some w ↦ rw (sym c.is_some.ensures ∙ w.if-is_some.false) refl
    ] in
    drafting_done c.args.draft.now c.loop-draft.draft c.args.text.now c.loop-draft.rest.now _ _ c.loop-draft.gids_item.now c.loop-draft.invariant c.split_while.ensures (sym c.ends_grant.ensures ∙ c.if-ends_grant.true) both

pub returns-in-Err-clause-err : goal.returns-in-Err-clause-err
returns-in-Err-clause-err c =
    subst (λ (r : Refusal). ItemsGive [] None c.args.text.now (Err r)) (sym c.at-in-Err.ensures)
    (item_wrong c.args.draft.now c.loop-draft.draft c.args.text.now c.loop-draft.rest.now _ _ c.loop-draft.gids_item.now c.in-Err.kind c.loop-draft.invariant c.split_while.ensures (sym c.ends_grant.ensures ∙ c.if-ends_grant.false) c.in-Err.ensures.err)
