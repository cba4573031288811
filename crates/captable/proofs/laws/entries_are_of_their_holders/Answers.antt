use Rattle.std.proofs.Common.{refl}
use Rattle.captable.proofs.ByHolder.{entry_at-changed, entry_at-changed_other, entry_at-opened, entry_at-opened_other, entry_at-recalled}
use Rattle.captable.proofs.ByHolder.{entry_at-recalled_other, entry_at-released, entry_at-released_other, entry_at-released_pin, entry_at-without}
use Rattle.captable.proofs.ByHolder.{entry_at-without_client, entry_at-without_client_other, entry_at-without_other, row_found}
use Rattle.captable.proofs.laws.entries_are_of_their_holders.Goals as goal

pub returns-clause-found : goal.returns-clause-found
returns-clause-found c = row_found

pub returns-clause-changed : goal.returns-clause-changed
returns-clause-changed c = entry_at-changed

pub returns-clause-changed_others : goal.returns-clause-changed_others
returns-clause-changed_others c = entry_at-changed_other

pub returns-clause-opened : goal.returns-clause-opened
returns-clause-opened c = entry_at-opened

pub returns-clause-opened_others : goal.returns-clause-opened_others
returns-clause-opened_others c = entry_at-opened_other

pub returns-clause-without : goal.returns-clause-without
returns-clause-without c = entry_at-without

pub returns-clause-without_others : goal.returns-clause-without_others
returns-clause-without_others c = entry_at-without_other

pub returns-clause-dropped : goal.returns-clause-dropped
returns-clause-dropped c = entry_at-without_client

pub returns-clause-dropped_others : goal.returns-clause-dropped_others
returns-clause-dropped_others c = entry_at-without_client_other

pub returns-clause-released_pin : goal.returns-clause-released_pin
returns-clause-released_pin c = entry_at-released_pin

pub returns-clause-released : goal.returns-clause-released
returns-clause-released c = entry_at-released

pub returns-clause-released_others : goal.returns-clause-released_others
returns-clause-released_others c = entry_at-released_other

pub returns-clause-touched : goal.returns-clause-touched
returns-clause-touched c = λ t k j. refl

pub returns-clause-recalled : goal.returns-clause-recalled
returns-clause-recalled c = entry_at-recalled

pub returns-clause-recalled_others : goal.returns-clause-recalled_others
returns-clause-recalled_others c = entry_at-recalled_other
