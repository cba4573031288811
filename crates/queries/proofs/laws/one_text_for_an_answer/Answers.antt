use Rattle.queries.proofs.ClientsReported.{each_has_its_lines, one_text}
use Rattle.queries.proofs.laws.one_text_for_an_answer.Goals as goal

pub returns-clause-things : goal.returns-clause-things
returns-clause-things c = each_has_its_lines

pub returns-clause-one_text : goal.returns-clause-one_text
returns-clause-one_text c = one_text
