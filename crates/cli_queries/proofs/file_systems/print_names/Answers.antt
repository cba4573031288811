use Rattle.std.proofs.Common.{ℕ, List, ◌++◌, arith, ap, ◌∙◌}
use Rattle.std.specs.Prelude.{codes}
use Rattle.capspec.proofs.Joining.{written_first, written_more}
use Rattle.cli_queries.proofs.file_systems.print_names.Goals as goal
use Rattle.cli_queries.proofs.file_systems.print_names.Goals.{else-place-gt0, then-place-gt0+in_ok-extend_from_slice}

pub loop-place-preserved : goal.loop-place-preserved
loop-place-preserved c =
    let start = c.args.text.now.items in
    let names = c.args.names.now in
    let k = c.loop-place.place in
    let name = c.index-names-place.result in
    let added = c.in_ok-extend_from_slice-2.ensures.items ∙ ap (λ (n : List ℕ). c.if-place-gt0.text.items ++ n) (c.as_bytes.ensures ∙ c.index-names-place.is) in
    elim c.if-place-gt0.branch [
      | then-place-gt0+in_ok-extend_from_slice w ↦
          written_more (λ (n : List ℕ). n) (codes ", ") start c.loop-place.text.items _ _ names k name (omega arith) (omega arith) c.loop-place.invariant (ap (λ t. t.items) w.text-is ∙ w.in_ok-extend_from_slice.ensures.items) added
      | else-place-gt0 w ↦ written_first (λ (n : List ℕ). n) (codes ", ") start _ _ names k name (omega arith) (omega arith) (ap (λ t. t.items) w.text-is ∙ c.loop-place.invariant) added
    ]
