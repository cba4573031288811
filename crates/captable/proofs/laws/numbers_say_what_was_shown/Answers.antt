use Rattle.captable.proofs.Shown.{shown-less, shown-numbered, shown-told}
use Rattle.captable.proofs.laws.numbers_say_what_was_shown.Goals as goal

pub returns-clause-numbered : goal.returns-clause-numbered
returns-clause-numbered c = shown-numbered

pub returns-clause-less : goal.returns-clause-less
returns-clause-less c = shown-less

pub returns-clause-told : goal.returns-clause-told
returns-clause-told c = shown-told
