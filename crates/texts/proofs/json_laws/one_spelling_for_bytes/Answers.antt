use Rattle.texts.proofs.Spelling.{one_spelling}
use Rattle.texts.proofs.json_laws.one_spelling_for_bytes.Goals as goal

pub returns : goal.returns
returns c = one_spelling
