use Rattle.capspec.proofs.OneReading.{unread_has_fault}
use Rattle.capspec.proofs.laws.fault_where_nothing_reads.Goals as goal

pub returns : goal.returns
returns c none = unread_has_fault c.args.text.now c.read_grants.result c.read_grants.ensures.ok c.read_grants.ensures.fault none
