use Rattle.std.proofs.Common.{sym, ◌∙◌}
use Rattle.std.proofs.lemmas.Bool.{true≢false}
use Rattle.capspec.proofs.Taken.{empty_unfit, names_unfit, takes_bare, unbare}
use Rattle.capspec.proofs.values.read_bare.Goals as goal
use Rattle.capspec.proofs.values.read_bare.Goals.{then-is_empty-via-else-is_empty+else-not-ends_word+then-not-has_fit_names}
use Rattle.capspec.proofs.values.read_bare.Goals.{then-is_empty-via-else-is_empty+then-not-ends_word, then-is_empty-via-then-is_empty}

pub returns-then-is_empty-clause-err : goal.returns-then-is_empty-clause-err
returns-then-is_empty-clause-err c = unbare c.args.text.now _ _ c.split_bare_path.ensures c.requires (λ ends fit. elim c.then-is_empty.branch [
  | then-is_empty-via-then-is_empty w ↦ empty_unfit c.split_bare_path.result.0.now (sym c.is_empty.ensures ∙ w.if-is_empty.true) fit
  | then-is_empty-via-else-is_empty+then-not-ends_word w ↦ true≢false (sym ends ∙ sym w.ends_word.ensures ∙ w.if-not-ends_word.true)
  | then-is_empty-via-else-is_empty+else-not-ends_word+then-not-has_fit_names w ↦ names_unfit c.split_bare_path.result.0.now (sym w.has_fit_names.ensures ∙ w.if-not-has_fit_names.true) fit
])

pub returns-clause-ok : goal.returns-clause-ok
returns-clause-ok c =
    takes_bare c.args.text.now _ c.split_bare_path.result.1.now c.split_bare_path.ensures (sym c.is_empty.ensures ∙ c.if-is_empty.false) (sym c.ends_word.ensures ∙ c.if-not-ends_word.false) (sym c.has_fit_names.ensures ∙ c.if-not-has_fit_names.false)
