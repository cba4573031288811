use Rattle.std.proofs.Common.{refl, sym, ap, ◌∙◌}
use Rattle.std.proofs.lemmas.Bool.{true≢false}
use Rattle.capspec.specs.Bytes.{ends_word}
use Rattle.capspec.proofs.Taken.{no_uid, takes_uid}
use Rattle.capspec.proofs.values.read_uid.Goals as goal
use Rattle.capspec.proofs.values.read_uid.Goals.{in_default-via-in-Some+else-ends_word, in_default-via-in_default}

pub returns-in-Some-clause-ok : goal.returns-in-Some-clause-ok
returns-in-Some-clause-ok c = takes_uid c.args.text.now c.in-Some.rest.now c.in-Some.uid c.in-Some.ensures.number c.in-Some.ensures.rest (sym c.ends_word.ensures ∙ c.if-ends_word.true)

pub returns-in_default-clause-err : goal.returns-in_default-clause-err
returns-in_default-clause-err c = (
  no_uid c.args.text.now (λ n is ends. elim c.in_default.branch [
    | in_default-via-in-Some+else-ends_word w ↦ true≢false (sym ends ∙ ap ends_word (sym w.in-Some.ensures.rest) ∙ sym w.ends_word.ensures ∙ w.if-ends_word.false)
    | in_default-via-in_default w ↦ w.in_default.ensures.none n is
  ]),
  refl,
)
