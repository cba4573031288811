use Rattle.texts.proofs.Spelling.{one_value}
use Rattle.texts.proofs.Streams.{one_stream}
use Rattle.texts.proofs.WholeNumbers as whole
use Rattle.texts.proofs.json_laws.one_value_for_a_line.Goals as goal

pub returns-clause-line : goal.returns-clause-line
returns-clause-line c = one_value

pub returns-clause-lines : goal.returns-clause-lines
returns-clause-lines c = one_stream

pub returns-clause-whole : goal.returns-clause-whole
returns-clause-whole c = whole.one_value
