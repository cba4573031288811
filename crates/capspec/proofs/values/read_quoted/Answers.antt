use Rattle.std.proofs.Common.{sym, ◌∙◌}
use Rattle.capspec.proofs.Taken.{behind_wrong, open_wrong, takes_quoted, unfit_quoted_wrong}
use Rattle.capspec.proofs.values.read_quoted.Goals as goal

pub returns-in_default-clause-err : goal.returns-in_default-clause-err
returns-in_default-clause-err c = open_wrong c.args.quote c.args.inside.now _ _ c.requires c.split_while.ensures c.in_default.ensures.cases

pub returns-then-not-ends_word-clause-err : goal.returns-then-not-ends_word-clause-err
returns-then-not-ends_word-clause-err c =
    behind_wrong c.args.quote c.args.inside.now _ _ c.in-Some.rest.now _ c.requires c.split_while.ensures c.in-Some.ensures.cases.0 (sym c.ends_word.ensures ∙ c.if-not-ends_word.true)

pub returns-then-not-can_be_path-clause-err : goal.returns-then-not-can_be_path-clause-err
returns-then-not-can_be_path-clause-err c =
    unfit_quoted_wrong c.args.quote c.args.inside.now _ _ c.in-Some.rest.now _ c.requires c.split_while.ensures c.in-Some.ensures.cases.0 (sym c.ends_word.ensures ∙ c.if-not-ends_word.false) (sym c.can_be_path.ensures ∙ c.if-not-can_be_path.true)

pub returns-clause-ok : goal.returns-clause-ok
returns-clause-ok c =
    takes_quoted c.args.quote c.args.inside.now _ _ c.in-Some.rest.now _ c.requires c.split_while.ensures c.in-Some.ensures.cases.0
    (sym c.ends_word.ensures ∙ c.if-not-ends_word.false) (sym c.can_be_path.ensures ∙ c.if-not-can_be_path.false)
