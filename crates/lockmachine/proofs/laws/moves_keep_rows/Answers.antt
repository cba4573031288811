use Rattle.lockmachine.proofs.InRows.{all_keep, one_keeps}
use Rattle.lockmachine.proofs.laws.moves_keep_rows.Goals as goal

pub returns-clause-one : goal.returns-clause-one
returns-clause-one c = one_keeps

pub returns-clause-all : goal.returns-clause-all
returns-clause-all c = all_keep
