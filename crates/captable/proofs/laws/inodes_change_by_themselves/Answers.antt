use Rattle.std.proofs.Common.{refl}
use Rattle.captable.proofs.ByInode.{entries_on-changed, entries_on-opened, entries_on-recalled, entries_on-released, entries_on-without}
use Rattle.captable.proofs.ByInode.{entries_on-without_client}
use Rattle.captable.proofs.laws.inodes_change_by_themselves.Goals as goal

pub returns-clause-changed : goal.returns-clause-changed
returns-clause-changed c = entries_on-changed

pub returns-clause-opened : goal.returns-clause-opened
returns-clause-opened c = entries_on-opened

pub returns-clause-without : goal.returns-clause-without
returns-clause-without c = entries_on-without

pub returns-clause-released : goal.returns-clause-released
returns-clause-released c = entries_on-released

pub returns-clause-without_client : goal.returns-clause-without_client
returns-clause-without_client c = entries_on-without_client

pub returns-clause-touched : goal.returns-clause-touched
returns-clause-touched c = λ t k ino. refl

pub returns-clause-recalled : goal.returns-clause-recalled
returns-clause-recalled c = entries_on-recalled
