use Rattle.std.proofs.Common.{◌≡◌, ◌<◌, ◌++◌, [], get_or, length, arith, ap, ◌∙◌}
use Rattle.std.proofs.lemmas.List.{take_all}
use Rattle.std.specs.Prelude.{codes}
use Rattle.capspec.specs.Written.{grant_text, written}
use Rattle.capspec.proofs.Joining.{written_first, written_more}
use Rattle.capspec.proofs.Written.{text_reads, text_reads_once}
use Rattle.capspec.proofs.writing.write_grants.Goals as goal
use Rattle.capspec.proofs.writing.write_grants.Goals.{else-place-gt0, then-place-gt0+in_ok-extend_from_slice}

pub loop-place-preserved : goal.loop-place-preserved
loop-place-preserved c =
    let grants = c.args.grants.now in
    let k = c.loop-place.place in
    let grant = c.grant-item.result in
    let inside : k < length grants = omega (arith, ap length c.as_slice-grant-items.ensures.same) in
    let here : grant ≡ get_or grants k grant = c.grant-item.is ∙ ap (λ gs. get_or gs k grant) c.as_slice-grant-items.ensures.same in
    elim c.if-place-gt0.branch [
      | then-place-gt0+in_ok-extend_from_slice w ↦
          written_more grant_text (codes ", ") [] c.loop-place.text.items _ _ grants k grant inside (omega arith) c.loop-place.invariant (ap (λ t. t.items) w.text-is ∙ w.in_ok-extend_from_slice.ensures.items)
          (c.in_ok-write_grant.ensures ∙ ap (λ g. c.if-place-gt0.text.items ++ grant_text g) here)
      | else-place-gt0 w ↦
          written_first grant_text (codes ", ") [] _ _ grants k grant inside (omega arith) (ap (λ t. t.items) w.text-is ∙ c.loop-place.invariant)
          (c.in_ok-write_grant.ensures ∙ ap (λ g. c.if-place-gt0.text.items ++ grant_text g) here)
    ]

whole : (c : goal.After-loop-place) → c.loop-place.text.items ≡ written c.args.grants.now
whole c = c.loop-place.invariant ∙ ap written (take_all c.loop-place.place c.args.grants.now (omega (arith, ap length c.as_slice-grant-items.ensures.same)))

pub returns-clause-reads : goal.returns-clause-reads
returns-clause-reads c = text_reads c.loop-place.text.items c.args.grants.now c.as_slice-grant-items.ensures.read (whole c)

pub returns-clause-only : goal.returns-clause-only
returns-clause-only c = λ others. text_reads_once c.loop-place.text.items c.args.grants.now others c.as_slice-grant-items.ensures.read (whole c)
