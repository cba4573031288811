use Rattle.std.proofs.Common.{arith, ap, ◌∙◌}
use Rattle.std.specs.Prelude.{codes}
use Rattle.texts.specs.Mds.{mds_failure}
use Rattle.texts.proofs.Numbered.{printed-first, printed-more}
use Rattle.texts.proofs.mds_text.print_mds_failures.Goals as goal
use Rattle.texts.proofs.mds_text.print_mds_failures.Goals.{else-place-gt0, then-place-gt0+in_ok-print_str-2}

pub loop-place-preserved : goal.loop-place-preserved
loop-place-preserved c =
    let start = c.if-is_empty.text.items in
    let rules = c.args.rules.now in
    let k = c.loop-place.place in
    elim c.if-place-gt0.branch [
      | then-place-gt0+in_ok-print_str-2 w ↦ printed-more mds_failure (codes ", ") start c.loop-place.text.items _ _ rules k _ (omega arith) (omega arith) c.loop-place.invariant (ap (λ text. text.items) w.text-is ∙ w.in_ok-print_str-2.ensures) c.in_ok-print_failure.ensures
      | else-place-gt0 w ↦ printed-first mds_failure (codes ", ") start _ _ rules k _ (omega arith) (omega arith) (ap (λ text. text.items) w.text-is ∙ c.loop-place.invariant) c.in_ok-print_failure.ensures
    ]
