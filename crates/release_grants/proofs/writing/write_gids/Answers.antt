use Rattle.std.proofs.Common.{ℕ, ◌++◌, arith, ap, ◌∙◌}
use Rattle.std.specs.Prelude.{codes}
use Rattle.std.specs.Fmt.{decimal}
use Rattle.capspec.proofs.Joining.{written_first, written_more}
use Rattle.release_grants.proofs.writing.write_gids.Goals as goal
use Rattle.release_grants.proofs.writing.write_gids.Goals.{else-place-gt0, then-place-gt0+in_ok-print_str-2}

pub loop-place-preserved : goal.loop-place-preserved
loop-place-preserved c =
    let start = c.print_str.new.text.items in
    let gids = c.args.gids.now in
    let k = c.loop-place.place in
    elim c.if-place-gt0.branch [
      | then-place-gt0+in_ok-print_str-2 w ↦
          written_more decimal (codes ",") start c.loop-place.text.items _ _ gids k _ (omega arith) (omega arith) c.loop-place.invariant (ap (λ t. t.items) w.text-is ∙ w.in_ok-print_str-2.ensures) (c.in_ok-print_number.ensures ∙ ap (λ (n : ℕ). c.if-place-gt0.text.items ++ decimal n) c.from.ensures)
      | else-place-gt0 w ↦ written_first decimal (codes ",") start _ _ gids k _ (omega arith) (omega arith) (ap (λ t. t.items) w.text-is ∙ c.loop-place.invariant) (c.in_ok-print_number.ensures ∙ ap (λ (n : ℕ). c.if-place-gt0.text.items ++ decimal n) c.from.ensures)
    ]
