use Rattle.std.proofs.Common.{ℕ, ◌<◌, subst}
use Rattle.std.proofs.lemmas.Bool.{ltb-true}
use Rattle.capspec.proofs.Measured.{few_behind_slashes}
use Rattle.capspec.proofs.measure.is_in_few_parts.Goals as goal

pub returns-then-names-le-MAX_NAME : goal.returns-then-names-le-MAX_NAME
returns-then-names-le-MAX_NAME c few =
    few_behind_slashes c.args.text.now _ c.split_while.result.1.now c.split_while.ensures c.if-names-le-MAX_NAME.true (subst (λ (n : ℕ). n < 32) c.count_slashes.ensures (ltb-true _ _ few))
