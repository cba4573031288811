use Rattle.std.proofs.Common.{sym, ◌∙◌, arith, ltb-true, rules}
use Rattle.capffi.proofs.Bare.{few_behind, parted_behind}
use Rattle.capffi.proofs.plain.is_plain_at_ends.Goals as goal

pub returns-clause-names : goal.returns-clause-names
returns-clause-names c well = parted_behind c.args.bare.now (omega (arith, c.requires.more)) (sym c.look_at_ends-is_found.ensures.lone ∙ c.if-is_found.false) (search rules)

pub returns-clause-fit : goal.returns-clause-fit
returns-clause-fit c well =
    few_behind c.args.bare.now (sym c.look_at_ends-is_found.ensures.lone ∙ c.if-is_found.false) (omega (arith, c.requires.few)) (omega (arith, ltb-true _ _ well, c.look_at_ends-is_found.ensures.count))
