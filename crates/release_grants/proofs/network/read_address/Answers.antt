use Rattle.release_grants.proofs.Addresses.{address_read}
use Rattle.release_grants.proofs.network.read_address.Goals as goal

pub returns : goal.returns
returns c = rw c.ok.ensures.value (address_read c.args.text.now c.parse_ascii.result c.parse_ascii.ensures)
