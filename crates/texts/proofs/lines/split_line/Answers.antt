use Rattle.std.proofs.Common.{rules, tests}
use Rattle.std.proofs.lemmas.Iterator.{YieldsList-from_slice}
use Rattle.std.proofs.lemmas.Iterator.Search.{position_from_yields_List}
use Rattle.texts.specs.ScriptLines.{is_line_feed}
use Rattle.texts.proofs.Cuts.{cut_none, cut_some}
use Rattle.texts.proofs.lines.split_line.Goals as goal

pub returns-in_err-end-clause-lines : goal.returns-in_err-end-clause-lines
returns-in_err-end-clause-lines c =
    let text = c.args.script.now in
    let found = position_from_yields_List is_line_feed _ _ c.position.result c.position.ensures.ran (YieldsList-from_slice text cc) (λ x b q k. search (rules, tests)) in
    rw c.from_residual.ensures (cut_none is_line_feed text c.position.result found c.in_err-end.was)

pub returns-clause-lines : goal.returns-clause-lines
returns-clause-lines c =
    let text = c.args.script.now in
    let found = position_from_yields_List is_line_feed _ _ c.position.result c.position.ensures.ran (YieldsList-from_slice text cc) (λ x b q k. search (rules, tests)) in
    cut_some is_line_feed text c.position.result c.in_ok-end.end found c.in_ok-end.was
