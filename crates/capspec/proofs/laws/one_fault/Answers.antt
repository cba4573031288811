use Rattle.capspec.proofs.OneReading.{one_fault}
use Rattle.capspec.proofs.laws.one_fault.Goals as goal

pub returns : goal.returns
returns c = one_fault
