use Rattle.captable.proofs.Tables.{IsTable-changed, IsTable-opened, IsTable-recalled, IsTable-released, IsTable-without, IsTable-without_client}
use Rattle.captable.proofs.Moves.{IsTable-touched}
use Rattle.captable.proofs.laws.a_table_stays_a_table.Goals as goal

pub returns-clause-changed : goal.returns-clause-changed
returns-clause-changed c = IsTable-changed

pub returns-clause-opened : goal.returns-clause-opened
returns-clause-opened c = λ t k is none room. IsTable-opened t k none room is

pub returns-clause-without : goal.returns-clause-without
returns-clause-without c = IsTable-without

pub returns-clause-without_client : goal.returns-clause-without_client
returns-clause-without_client c = IsTable-without_client

pub returns-clause-touched : goal.returns-clause-touched
returns-clause-touched c = IsTable-touched

pub returns-clause-recalled : goal.returns-clause-recalled
returns-clause-recalled c = IsTable-recalled

pub returns-clause-released : goal.returns-clause-released
returns-clause-released c = IsTable-released
