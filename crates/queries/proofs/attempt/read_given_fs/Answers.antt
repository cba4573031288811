use Rattle.std.proofs.Common.{refl}
use Rattle.queries.proofs.GivenNames.{no_fs, one_fs}
use Rattle.queries.proofs.attempt.read_given_fs.Goals as goal

pub returns-in-Some-read : goal.returns-in-Some-read
returns-in-Some-read c = one_fs c.args.fs.now c.in-Some.text c.as_slice.result.now c.read.result c.in-Some.is c.as_slice.ensures.value c.read.ensures.valid c.in-Some-read.name c.read.ensures.value c.in-Some-read.is

pub returns-in-None : goal.returns-in-None
returns-in-None c = (refl, no_fs c.args.fs.now c.in-Some.text c.as_slice.result.now c.read.result c.in-Some.is c.as_slice.ensures.value c.read.ensures.valid c.in-None.is)
