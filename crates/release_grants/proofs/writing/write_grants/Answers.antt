use Rattle.std.proofs.Common.{[], ◌++◌, arith, ap, ◌∙◌}
use Rattle.std.specs.Prelude.{codes}
use Rattle.capspec.proofs.Joining.{written_first, written_more}
use Rattle.release_grants.specs.declared.grant.Grant.{Grant}
use Rattle.release_grants.specs.Written.{mds_grant_text}
use Rattle.release_grants.proofs.writing.write_grants.Goals as goal
use Rattle.release_grants.proofs.writing.write_grants.Goals.{else-place-gt0, then-place-gt0+in_ok-print_str}

pub loop-place-preserved : goal.loop-place-preserved
loop-place-preserved c =
    let grants = c.args.grants.now in
    let k = c.loop-place.place in
    elim c.if-place-gt0.branch [
      | then-place-gt0+in_ok-print_str w ↦
          written_more mds_grant_text (codes ", ") [] c.loop-place.text.items _ _ grants k c.index-grants-place.result (omega arith) (omega arith) c.loop-place.invariant (ap (λ t. t.items) w.text-is ∙ w.in_ok-print_str.ensures) (c.in_ok-write_grant.ensures ∙ ap (λ (g : Grant). c.if-place-gt0.text.items ++ mds_grant_text g) c.index-grants-place.is)
      | else-place-gt0 w ↦ written_first mds_grant_text (codes ", ") [] _ _ grants k c.index-grants-place.result (omega arith) (omega arith) (ap (λ t. t.items) w.text-is ∙ c.loop-place.invariant) (c.in_ok-write_grant.ensures ∙ ap (λ (g : Grant). c.if-place-gt0.text.items ++ mds_grant_text g) c.index-grants-place.is)
    ]
