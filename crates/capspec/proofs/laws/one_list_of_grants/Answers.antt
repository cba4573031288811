use Rattle.capspec.proofs.OneReading.{reads_once}
use Rattle.capspec.proofs.laws.one_list_of_grants.Goals as goal

pub returns : goal.returns
returns c = reads_once
