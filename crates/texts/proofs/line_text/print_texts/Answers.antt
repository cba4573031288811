use Rattle.std.proofs.Common.{◌++◌, ap, ◌∙◌}
use Rattle.texts.specs.declared.line_text.Text.{Text}
use Rattle.texts.specs.LineTexts.{text_value}
use Rattle.texts.proofs.Pieced.{no_piece, one_piece}
use Rattle.texts.proofs.line_text.print_texts.Goals as goal

pub loop-piece-preserved : goal.loop-piece-preserved
loop-piece-preserved c =
    let before = c.loop-piece.text.items in
    one_piece c.args.pieces.now c.loop-piece.piece-index c.piece-item.result before c.print_text.new.text.items _ c.loop-piece-test.true (c.in_ok-print_text.ensures ∙ ap (λ (piece : Text). before ++ text_value piece) c.piece-item.is)
    c.loop-piece.invariant

pub returns : goal.returns
returns c = no_piece c.args.pieces.now c.loop-piece.piece-index c.loop-piece.text.items _ c.loop-piece-test.false c.loop-piece.invariant
