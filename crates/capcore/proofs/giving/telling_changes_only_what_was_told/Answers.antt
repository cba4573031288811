use Rattle.capcore.proofs.Common.{shown-given, shown-issued, shown-sound}
use Rattle.capcore.proofs.giving.telling_changes_only_what_was_told.Goals as goal

pub returns-clause-sound : goal.returns-clause-sound
returns-clause-sound c = λ s reply sound table. shown-sound s reply sound table

pub returns-clause-given : goal.returns-clause-given
returns-clause-given c = λ count s reply given. shown-given count s reply given

pub returns-clause-issued : goal.returns-clause-issued
returns-clause-issued c = λ first s reply table issued. shown-issued first s reply table issued
