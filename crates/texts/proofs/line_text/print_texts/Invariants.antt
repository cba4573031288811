use Rattle.std.proofs.Common.{◌≡◌, ◌++◌, drop}
use Rattle.texts.specs.LineTexts.{all_texts}
use Rattle.texts.proofs.line_text.print_texts.Given as goal

abbrev pub invariant-loop-piece : goal.invariant-loop-piece
invariant-loop-piece l = l.text.items ++ all_texts (drop l.piece-index l.pieces) ≡ l.initial.text.items ++ all_texts l.pieces
