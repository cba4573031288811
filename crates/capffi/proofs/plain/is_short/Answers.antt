use Rattle.std.proofs.lemmas.Bool.{ltb-true}
use Rattle.capspec.proofs.Measured.{short_path}
use Rattle.capffi.proofs.plain.is_short.Goals as goal

pub returns-clause-fit : goal.returns-clause-fit
returns-clause-fit c short = short_path c.args.path.now (ltb-true _ _ short)
