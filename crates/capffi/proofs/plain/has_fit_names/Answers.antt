use Rattle.std.proofs.Common.{sym, ap, ◌∙◌, drop_of_length-le}
use Rattle.capffi.proofs.Bare.{fit_path, fits}
use Rattle.capffi.proofs.plain.has_fit_names.Goals as goal

pub returns : goal.returns
returns c well = fit_path c.args.path.now (sym c.loop-byte.invariant ∙ ap (fits c.loop-byte.names c.loop-byte.bytes) (drop_of_length-le c.args.path.now c.loop-byte-test.false))
