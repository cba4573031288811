use Rattle.cluster_audit.proofs.Tells.{one_line, one_text}
use Rattle.cluster_audit.proofs.Values.{one_object}
use Rattle.cluster_audit.proofs.laws.one_line_for_what_is_reported.Goals as goal

pub returns-clause-line : goal.returns-clause-line
returns-clause-line c = one_line

pub returns-clause-text : goal.returns-clause-text
returns-clause-text c = one_text

pub returns-clause-object : goal.returns-clause-object
returns-clause-object c = one_object
