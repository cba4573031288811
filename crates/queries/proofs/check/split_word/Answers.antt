use Rattle.std.proofs.Common.{rules, tests}
use Rattle.std.proofs.lemmas.Iterator.{YieldsList-from_slice}
use Rattle.std.proofs.lemmas.Iterator.Search.{position_from_yields_List}
use Rattle.queries.specs.Checks.{is_space}
use Rattle.texts.proofs.Cuts.{cut_none, cut_some}
use Rattle.queries.proofs.check.split_word.Goals as goal

pub returns-in_err-end-clause-words : goal.returns-in_err-end-clause-words
returns-in_err-end-clause-words c =
    let text = c.args.text.now in
    let found = position_from_yields_List is_space _ _ c.position.result c.position.ensures.ran (YieldsList-from_slice text cc) (λ x b q k. search (rules, tests)) in
    rw c.from_residual.ensures (cut_none is_space text c.position.result found c.in_err-end.was)

pub returns-clause-words : goal.returns-clause-words
returns-clause-words c =
    let text = c.args.text.now in
    let found = position_from_yields_List is_space _ _ c.position.result c.position.ensures.ran (YieldsList-from_slice text cc) (λ x b q k. search (rules, tests)) in
    cut_some is_space text c.position.result c.in_ok-end.end found c.in_ok-end.was
