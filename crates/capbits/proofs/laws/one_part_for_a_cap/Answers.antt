use Rattle.capbits.proofs.Covering.{one_part, pin_covers_none}
use Rattle.capbits.proofs.laws.one_part_for_a_cap.Goals as goal

pub returns-clause-one_part : goal.returns-clause-one_part
returns-clause-one_part c = one_part

pub returns-clause-pin : goal.returns-clause-pin
returns-clause-pin c = pin_covers_none
