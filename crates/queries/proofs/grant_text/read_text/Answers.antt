use Rattle.queries.proofs.TextFault.{text_is_good}
use Rattle.queries.proofs.grant_text.read_text.Goals as goal

pub returns-in-NoMemory-clause-good : goal.returns-in-NoMemory-clause-good
returns-in-NoMemory-clause-good c = text_is_good c.args.text.now c.in-Err.refused c.in-Err.ensures.fault c.in-NoMemory.is
