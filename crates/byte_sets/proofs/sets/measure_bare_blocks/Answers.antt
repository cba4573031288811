use Rattle.std.proofs.Common.{ℕ, List, take, drop, sym, ap, ◌∙◌, arith}
use Rattle.std.proofs.lemmas.List.{drop-drop}
use Rattle.std.specs.List.{list_all}
use Rattle.byte_sets.specs.Sets.{is_in}
use Rattle.byte_sets.specs.declared.sets.ByteSet.TheVariants.{BarePath}
use Rattle.byte_sets.proofs.Splits.{all_more}
use Rattle.byte_sets.proofs.sets.measure_bare_blocks.Goals as goal

pub loop-block-preserved : goal.loop-block-preserved
loop-block-preserved c =
    let text : List ℕ = c.args.text.now in
    let len : ℕ = c.loop-block.len in
    let so_far = c.loop-block.invariant in
    let cut = c.in-Some.ensures.cases in (
      omega (arith, so_far.0, cut.2),
      cut.1 ∙ ap (drop 16) so_far.1 ∙ drop-drop 16 len text,
      all_more (is_in BarePath) text len 16 so_far.2 (ap (λ (t : List ℕ). list_all (is_in BarePath) (take 16 t)) (sym so_far.1) ∙ ap (list_all (is_in BarePath)) (sym cut.0) ∙ sym c.is_bare_block.ensures ∙ c.if-not-is_bare_block.false),
    )
