use Rattle.queries.proofs.Items.{each_has_its_text, one_log}
use Rattle.queries.proofs.LogObjects as objects
use Rattle.queries.proofs.log_laws.one_text_for_what_is_reported.Goals as goal

pub returns-clause-things : goal.returns-clause-things
returns-clause-things c = each_has_its_text

pub returns-clause-reported : goal.returns-clause-reported
returns-clause-reported c = one_log

pub returns-clause-objects : goal.returns-clause-objects
returns-clause-objects c = objects.one_log
