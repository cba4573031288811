use Rattle.std.proofs.Common.{◌++◌, [], arith, ap, ◌∙◌}
use Rattle.std.proofs.lemmas.List.{take_all}
use Rattle.texts.proofs.Texts.{texts-more}
use Rattle.cli.specs.Served.{history_lines, row_line}
use Rattle.cli.proofs.history_text.history_lines.Goals as goal

pub loop-row-preserved : goal.loop-row-preserved
loop-row-preserved c =
    texts-more row_line [] c.loop-row.text.items _ c.args.rows.now c.loop-row.row-index c.row-item.result (omega arith) c.loop-row.invariant
    (c.in_ok-add_line.ensures ∙ ap (λ row. c.loop-row.text.items ++ row_line row) c.row-item.is)

pub returns : goal.returns
returns c = c.loop-row.invariant ∙ ap history_lines (take_all c.loop-row.row-index c.args.rows.now (omega arith))
