use Rattle.capbits.proofs.SetBits.{has_one}
use Rattle.capbits.proofs.set.CapSet.has.Goals as goal

-- the set of one cap is a subset exactly if that one is a member
pub returns : goal.returns
returns c = has_one c.args.self c.args.cap _ (rw c.one.ensures at c.contains.ensures)
