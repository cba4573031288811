use Rattle.capbits.proofs.Rowed.{numbers-none}
use Rattle.capbits.proofs.numbered.Numbered.new.Goals as goal

pub invariant_of-result : goal.invariant_of-result
invariant_of-result g c = numbers-none c.new.result c.new-2.result.items c.new.ensures.empty c.new-2.ensures.items
