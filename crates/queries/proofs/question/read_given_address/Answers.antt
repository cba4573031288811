use Rattle.std.proofs.Common.{refl}
use Rattle.queries.proofs.Addresses.{no_address, one_address}
use Rattle.queries.proofs.question.read_given_address.Goals as goal

pub returns-in-Some-read_address : goal.returns-in-Some-read_address
returns-in-Some-read_address c = one_address c.args.addr.now c.in-Some.text c.as_slice.result.now c.read_address.result c.in-Some-read_address.address c.in-Some.is c.as_slice.ensures.value c.read_address.ensures c.in-Some-read_address.is

pub returns-in-None : goal.returns-in-None
returns-in-None c = (refl, no_address c.args.addr.now c.in-Some.text c.as_slice.result.now c.read_address.result c.in-Some.is c.as_slice.ensures.value c.read_address.ensures c.in-None.is)
